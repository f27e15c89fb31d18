-- The submitter's file, opened: what memory keeps of it, the payloads for which both stand, and why it isn't opened.
use Rattle.std.specs.Prelude.{◌≡◌, ℕ, ◌⊎◌, List, [], ◌∷◌, ◌++◌, Option, Some, None, false}
use Rattle.mj_disk.specs.Content.{Content}
use Rattle.mj_disk.specs.DiskModel.{History, IsSettled, LeavesOnly, Now}
use Rattle.mj_disk.specs.declared.disk.Disk.{Ghosts}
use Rattle.mj_journal.specs.FileText.{OpensAs, StandsFor, end_of}
use Rattle.mj_journal.specs.Opening.{IsDamagedAt, IsRefused, ReadTo}
use Rattle.mj_journal.specs.declared.fault.OpenFault.{OpenFault}
use Rattle.mj_journal.specs.declared.fault.OpenFault.TheVariants.{NotAStore, Version, Damaged, DiskFault, NoMemory}
use Rattle.mj_submit.specs.Notes.{payload_of, progress_of, with_note}
use Rattle.mj_submit.specs.declared.note.Note.{Note}
use Rattle.mj_submit.specs.declared.progress.Progress.{Progress}
use Rattle.mj_submit_file.specs.declared.file.SubmitFile.{SubmitFile}

-- the bytes stand for these payloads; what base they have means nothing
abbrev pub IsFile : List (List ℕ) → List ℕ → Type 0
IsFile payloads octets = (base : ℕ) × StandsFor base payloads octets

abbrev pub IsSettledFile : List (List ℕ) → Content → Type 0
IsSettledFile payloads held = IsSettled held × IsFile payloads held.octets

-- memory has how far these payloads come, and where they end
pub record Knows (payloads : List (List ℕ)) (file : SubmitFile) : Type 0 where
  pub lawful : progress_of payloads ≡ Some file.progress
  pub end_is : file.journal.end ≡ end_of payloads
  pub unspent : file.journal.spent ≡ false

-- memory and disk stand for these payloads; of a disk that tells nothing only that it is settled is said
pub record Holds {D : Type 0} (disks : Ghosts D) (payloads : List (List ℕ)) (file : SubmitFile) (disk : D) : Type 0 where
  pub knows : Knows payloads file
  pub settled : disks.settled_now disk
  pub stands : Now (disks.told disk) (IsSettledFile payloads)

-- for some list: what an append asks
abbrev pub IsHeld : {D : Type 0} → Ghosts D → SubmitFile → D → Type 0
IsHeld disks file disk = (payloads : List (List ℕ)) × Holds disks payloads file disk

-- what was found is the list as which the bytes opened
abbrev pub Finds : {D : Type 0} → Ghosts D → D → List (List ℕ) → Type 0
Finds disks before payloads = (history : History) (others : List (List ℕ)) → disks.told before ≡ Some history → OpensAs others history.now.octets → payloads ≡ others

abbrev pub OpensFile : {D : Type 0} → Ghosts D → D → SubmitFile → D → Type 0
OpensFile disks before file after = (payloads : List (List ℕ)) × Holds disks payloads file after × Finds disks before payloads

-- the file has this note more
abbrev pub AppendsNote : {D : Type 0} → Ghosts D → Note → SubmitFile → D → SubmitFile → D → Type 0
AppendsNote disks note old disk new after =
    (with_note old.progress note ≡ Some new.progress) × ((payloads : List (List ℕ)) → Holds disks payloads old disk → Holds disks (payloads ++ payload_of note ∷ []) new after)

-- it isn't the next note, and nothing changed
pub record RefusesNote {D : Type 0} (note : Note) (old : SubmitFile) (disk : D) (new : SubmitFile) (after : D) : Type 0 where
  pub unlawful : with_note old.progress note ≡ None
  pub file_same : new ≡ old
  pub disk_same : after ≡ disk

-- the bytes stand for the list, or for the list with the note
abbrev pub IsEither : List (List ℕ) → Note → List ℕ → Type 0
IsEither payloads note octets = IsFile payloads octets ⊎ IsFile (payloads ++ payload_of note ∷ []) octets

-- each image since the call's start stands for the one or the other
abbrev pub LeavesEither : {D : Type 0} → Ghosts D → Note → SubmitFile → D → D → Type 0
LeavesEither disks note file disk after =
    (payloads : List (List ℕ)) → Holds disks payloads file disk → LeavesOnly (disks.time disk, disks.time after) (disks.told disk) (disks.told after) (IsEither payloads note)

-- ---- reading

-- lawful payloads, up to this gate
pub record Reads (gate : ℕ) (progress : Progress) (payloads : List (List ℕ)) : Type 0 where
  pub lawful : progress_of payloads ≡ Some progress
  pub gate_is : gate ≡ end_of payloads

abbrev pub ReadIn : ℕ → ℕ → List (List ℕ) → Content → Type 0
ReadIn base gate payloads held = (head : List ℕ) × ReadTo base gate head payloads held.octets

abbrev pub HasRead : ℕ → ℕ → Progress → Option History → Type 0
HasRead base gate progress told = (payloads : List (List ℕ)) × Reads gate progress payloads × Now told (ReadIn base gate payloads)

abbrev pub HasAll : ℕ → ℕ → Progress → Option History → Type 0
HasAll base gate progress told = (payloads : List (List ℕ)) × Reads gate progress payloads × Now told (λ held. StandsFor base payloads held.octets)

-- ---- why a file isn't opened

-- the record behind the gate isn't whole, or it is whole, and its payload is no note or not the next one
abbrev pub IsBad : ℕ → ℕ → List (List ℕ) → List ℕ → Type 0
IsBad base gate payloads octets =
    IsDamagedAt gate octets
    ⊎ ((payload : List ℕ) × (next : ℕ) × (head : List ℕ) × ReadTo base next head (payloads ++ payload ∷ []) octets × (progress_of (payloads ++ payload ∷ []) ≡ None))

-- lawful payloads up to this gate, and then a bad record
abbrev pub IsDamaged : ℕ → ℕ → Content → Type 0
IsDamaged base at held = (progress : Progress) × (payloads : List (List ℕ)) × Reads at progress payloads × ReadIn base at payloads held × IsBad base at payloads held.octets

abbrev pub IsUnread : ℕ → OpenFault → Option History → Type 0
IsUnread base NotAStore told = ⊥
IsUnread base (Version version) told = ⊥
IsUnread base (Damaged at) told = Now told (IsDamaged base at)
IsUnread base DiskFault told = Unit {0}
IsUnread base NoMemory told = Unit {0}

-- each fault of the file itself with what it says; a file with base 1 is made where there was none
abbrev pub IsUnopened : OpenFault → Option History → Option History → Type 0
IsUnopened NotAStore before after = Now before (λ held. IsRefused NotAStore held.octets)
IsUnopened (Version version) before after = Now before (λ held. IsRefused (Version version) held.octets)
IsUnopened (Damaged at) before after = Now after (λ held. (base : ℕ) × IsDamaged base at held)
IsUnopened DiskFault before after = Unit {0}
IsUnopened NoMemory before after = Unit {0}

-- a refusal of the file itself
abbrev pub IsRefusal : OpenFault → Type 0
IsRefusal NotAStore = Unit {0}
IsRefusal (Version version) = Unit {0}
IsRefusal (Damaged at) = Unit {0}
IsRefusal DiskFault = ⊥
IsRefusal NoMemory = ⊥

-- what the disk holds opens as no lawful payloads
abbrev pub NoneLawful : Option History → Type 0
NoneLawful told = (history : History) (payloads : List (List ℕ)) (progress : Progress) → told ≡ Some history → OpensAs payloads history.now.octets → progress_of payloads ≡ Some progress → ⊥
