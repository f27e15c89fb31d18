-- What is done to a link, a sink and the file when the effects of a submitter are performed.
use Rattle.std.specs.Prelude.{ℕ, ◌≡◌, ◌⊎◌, ⊤, List, [], ◌∷◌, ◌++◌, take, map, Option, Some, codes}
use Rattle.std.specs.Fmt.{decimal}
use Rattle.mj_base.specs.Rising.{Rose}
use Rattle.mj_base.specs.declared.link.LinkEntry.{LinkEntry}
use Rattle.mj_base.specs.declared.link.LinkEntry.TheVariants as entry
use Rattle.mj_disk.specs.DiskModel.{LeavesOnly}
use Rattle.mj_disk.specs.declared.disk.Disk.{Ghosts}
use Rattle.mj_peering.specs.Performing.{Counts, Moves, places}
use Rattle.mj_submit.specs.Notes.{notes_from, payload_of, with_note}
use Rattle.mj_submit.specs.declared.note.Note.{Note}
use Rattle.mj_submit.specs.declared.progress.Progress.{Progress}
use Rattle.mj_submit_file.specs.Files.{Holds, IsFile}
use Rattle.mj_submit_file.specs.declared.file.SubmitFile.{SubmitFile}
use Rattle.mj_submitter.specs.declared.effect.Effect.{Effect}
use Rattle.mj_submitter.specs.declared.effect.Effect.TheVariants as effect
use Rattle.mj_submitting.specs.declared.stop.Stop.{Stop}
use Rattle.mj_submitting.specs.declared.stop.Stop.TheVariants as stops
use Rattle.mj_words.specs.Lines.{body_line}

-- ---- lines, entries of the link, and notes

-- `reply N FRAMES`
abbrev pub reply_line : ℕ → List (List ℕ) → List ℕ
reply_line line body = body_line (codes "reply " ++ decimal line) body

abbrev pub line_of : Effect → List ℕ
line_of (effect.Write text) = []
line_of effect.Reopen = []
line_of (effect.Print line body) = reply_line line body
line_of (effect.Note note) = []
line_of (effect.End ending) = []

abbrev pub lines : List Effect → List ℕ
lines [] = []
lines (e ∷ list) = line_of e ++ lines list

abbrev pub entries_of : Effect → List LinkEntry
entries_of (effect.Write text) = entry.Wrote text ∷ []
entries_of effect.Reopen = entry.Reopened ∷ []
entries_of (effect.Print line body) = []
entries_of (effect.Note note) = []
entries_of (effect.End ending) = []

abbrev pub entries : List Effect → List LinkEntry
entries [] = []
entries (e ∷ list) = entries_of e ++ entries list

abbrev pub notes_of : Effect → List Note
notes_of (effect.Write text) = []
notes_of effect.Reopen = []
notes_of (effect.Print line body) = []
notes_of (effect.Note note) = note ∷ []
notes_of (effect.End ending) = []

abbrev pub notes : List Effect → List Note
notes [] = []
notes (e ∷ list) = notes_of e ++ notes list

-- the notes among these are lawful, one after the other, in a file that is so far
abbrev pub AreNext : List Effect → Progress → Type 0
AreNext list p = (q : Progress) × (notes_from (notes list) p ≡ Some q)

abbrev pub IsNext : Effect → Progress → Type 0
IsNext e p = AreNext (e ∷ []) p

-- ---- what was done

-- what a link tells and a sink has got, where they tell; and the file, with its disk
pub record World (D : Type 0) : Type 0 where
  pub told : Option (List LinkEntry)
  pub got : Option (List ℕ)
  pub file : SubmitFile
  pub disk : D

abbrev pub world : {D : Type 0} → Option (List LinkEntry) → Option (List ℕ) → SubmitFile → D → World D
world told got file disk = record { told = told; got = got; file = file; disk = disk }

-- the file with these behind the ones of before
abbrev pub with_notes : List (List ℕ) → List Note → List (List ℕ)
with_notes payloads list = payloads ++ map payload_of list

-- the bytes are a file of the payloads and a front of the notes
abbrev pub IsFront : List (List ℕ) → List Note → List ℕ → Type 0
IsFront payloads list octets = (front rest : List Note) × (list ≡ front ++ rest) × IsFile (with_notes payloads front) octets

-- each image since the start is the file as it was, with a front of these notes
abbrev pub LeavesFronts : {D : Type 0} → Ghosts D → World D → World D → List Note → Type 0
LeavesFronts disks old now list =
    (payloads : List (List ℕ)) → Holds disks payloads old.file old.disk → LeavesOnly (disks.time old.disk, disks.time now.disk) (disks.told old.disk) (disks.told now.disk) (IsFront payloads list)

-- the file has these notes more
abbrev pub Adds : {D : Type 0} → Ghosts D → World D → World D → List Note → Type 0
Adds disks old now list = (payloads : List (List ℕ)) → Holds disks payloads old.file old.disk → Holds disks (with_notes payloads list) now.file now.disk

-- these effects were done
pub record Performs {D : Type 0} (disks : Ghosts D) (old now : World D) (list : List Effect) : Type 0 where
  pub moved : Moves (places old.told old.got) (places now.told now.got) (entries list) (lines list)
  pub progress : notes_from (notes list) old.file.progress ≡ Some now.file.progress
  pub adds : Adds disks old now (notes list)
  pub crash : LeavesFronts disks old now (notes list)

-- some of the first of these were done; of the next one's line a front was printed, or its note may be in the file
pub record Breaks {D : Type 0} (disks : Ghosts D) (old now : World D) (list : List Effect) : Type 0 where
  pub done : List Effect
  pub rest : List Effect
  pub whole : list ≡ done ++ rest
  pub n : ℕ
  pub moved : Moves (places old.told old.got) (places now.told now.got) (entries done) (lines done ++ take n (lines (take 1 rest)))
  pub crash : LeavesFronts disks old now (notes done ++ notes (take 1 rest))

-- ---- failures

-- what performing may fail by; want of memory is free
abbrev pub PerformCause : Stop → Counts → Counts → ℕ → ℕ → Type 0
PerformCause stops.NoMemory before now disk_before disk_now = ⊤
PerformCause stops.Read before now disk_before disk_now = ⊥
PerformCause stops.Write before now disk_before disk_now = Rose before.writes now.writes ⊎ Rose before.prints now.prints
PerformCause stops.Disk before now disk_before disk_now = Rose disk_before disk_now

abbrev pub PrintCause : Stop → ℕ → ℕ → Type 0
PrintCause stops.NoMemory before now = ⊤
PrintCause stops.Read before now = ⊥
PrintCause stops.Write before now = Rose before now
PrintCause stops.Disk before now = ⊥

-- an effect failed: a front of its line was printed, or its note may be in the file
pub record FailsAt {D : Type 0} (disks : Ghosts D) (old now : World D) (e : Effect) : Type 0 where
  pub n : ℕ
  pub moved : Moves (places old.told old.got) (places now.told now.got) [] (take n (line_of e))
  pub crash : LeavesFronts disks old now (notes_of e)
