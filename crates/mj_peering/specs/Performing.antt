-- What is done to a link and a sink when the acts of an end are performed, and what is done in rounds of these.
use Rattle.std.specs.Prelude.{ℕ, ◌≡◌, ◌≤◌, ◌⊎◌, ⊤, List, [], ◌∷◌, ◌++◌, take, Option, codes}
use Rattle.std.specs.Io.KnownBytes.{Appends}
use Rattle.mj_base.specs.Linking.{Tells}
use Rattle.mj_base.specs.Rising.{Rose}
use Rattle.mj_base.specs.declared.link.LinkEntry.{LinkEntry}
use Rattle.mj_base.specs.declared.link.LinkEntry.TheVariants as entry
use Rattle.mj_base.specs.declared.link.LinkEvent.{LinkEvent}
use Rattle.mj_base.specs.declared.link.LinkEvent.TheVariants as event
use Rattle.mj_peer.specs.declared.act.Act.{Act}
use Rattle.mj_peer.specs.declared.act.Act.TheVariants as act
use Rattle.mj_words.specs.Lines.{body_line}
use Rattle.mj_peering.specs.declared.stop.Stop.{Stop}
use Rattle.mj_peering.specs.declared.stop.Stop.TheVariants as stops

-- ---- lines

-- what is printed of an act: `part FRAMES`, `reply FRAMES`
abbrev pub line_of : Act → List ℕ
line_of (act.Write text) = []
line_of act.Reopen = []
line_of (act.Part body) = body_line (codes "part") body
line_of (act.Done body) = body_line (codes "reply") body
line_of act.Served = []
line_of act.Finished = []
line_of act.NoAnswer = []

abbrev pub lines : List Act → List ℕ
lines [] = []
lines (a ∷ acts) = line_of a ++ lines acts

-- ---- entries of the link

abbrev pub entries_of : Act → List LinkEntry
entries_of (act.Write text) = entry.Wrote text ∷ []
entries_of act.Reopen = entry.Reopened ∷ []
entries_of (act.Part body) = []
entries_of (act.Done body) = []
entries_of act.Served = []
entries_of act.Finished = []
entries_of act.NoAnswer = []

abbrev pub entries : List Act → List LinkEntry
entries [] = []
entries (a ∷ acts) = entries_of a ++ entries acts

abbrev pub entry_of : LinkEvent → LinkEntry
entry_of (event.Given piece) = entry.Got piece
entry_of event.Idle = entry.Idle
entry_of event.End = entry.End

-- ---- places

-- what a link tells and what a sink has got, where they tell
pub record Places : Type 0 where
  pub told : Option (List LinkEntry)
  pub got : Option (List ℕ)

abbrev pub places : Option (List LinkEntry) → Option (List ℕ) → Places
places told got = record { told = told; got = got }

-- the link has these entries more, and the sink these bytes
pub record Moves (old now : Places) (passed : List LinkEntry) (printed : List ℕ) : Type 0 where
  pub told : Tells old.told now.told passed
  pub got : Appends old.got now.got printed

-- these acts were done
abbrev pub Performs : Places → Places → List Act → Type 0
Performs old now acts = Moves old now (entries acts) (lines acts)

-- some of the first of these acts were done, and of the next one's line a front was printed
pub record Breaks (old now : Places) (acts : List Act) : Type 0 where
  pub done : List Act
  pub rest : List Act
  pub whole : acts ≡ done ++ rest
  pub n : ℕ
  pub moved : Moves old now (entries done) (lines done ++ take n (lines (take 1 rest)))

-- ---- failures

-- the failures of a link's reads, of its writes, and of a sink's; and how often the sink wanted memory
pub record Counts : Type 0 where
  pub reads : ℕ
  pub writes : ℕ
  pub prints : ℕ
  pub wants : ℕ

abbrev pub counts : ℕ → ℕ → ℕ → ℕ → Counts
counts reads writes prints wants = record { reads = reads; writes = writes; prints = prints; wants = wants }

-- none has fallen
pub record AreLater (before now : Counts) : Type 0 where
  pub reads : before.reads ≤ now.reads
  pub writes : before.writes ≤ now.writes
  pub prints : before.prints ≤ now.prints
  pub wants : before.wants ≤ now.wants

-- what performing acts may fail by
abbrev pub PerformCause : Stop → Counts → Counts → Type 0
PerformCause stops.NoMemory before now = ⊤
PerformCause stops.Read before now = ⊥
PerformCause stops.Write before now = Rose before.writes now.writes ⊎ Rose before.prints now.prints

-- a failure has its count risen; want of memory is free
abbrev pub Cause : Stop → Counts → Counts → Type 0
Cause stops.NoMemory before now = ⊤
Cause stops.Read before now = Rose before.reads now.reads
Cause stops.Write before now = Rose before.writes now.writes ⊎ Rose before.prints now.prints

-- with the failures of the input's reads
abbrev pub RunCause : Stop → Counts → Counts → ℕ → ℕ → Type 0
RunCause stops.NoMemory before now input_before input_now = ⊤
RunCause stops.Read before now input_before input_now = Rose before.reads now.reads ⊎ Rose input_before input_now
RunCause stops.Write before now input_before input_now = Rose before.writes now.writes ⊎ Rose before.prints now.prints

abbrev pub PrintCause : Stop → ℕ → ℕ → Type 0
PrintCause stops.NoMemory before now = ⊤
PrintCause stops.Read before now = ⊥
PrintCause stops.Write before now = Rose before now

-- ---- rounds

-- what was read, and the acts that followed
pub record Round : Type 0 where
  pub read : List LinkEntry
  pub acts : List Act

abbrev pub tale : List Round → List LinkEntry
tale [] = []
tale (round ∷ rounds) = (round.read ++ entries round.acts) ++ tale rounds

abbrev pub printed : List Round → List ℕ
printed [] = []
printed (round ∷ rounds) = lines round.acts ++ printed rounds

-- these rounds were done, and nothing else
abbrev pub AreDone : Places → Places → List Round → Type 0
AreDone old now rounds = Moves old now (tale rounds) (printed rounds)

-- these rounds were done, and a part of one more
pub record ArePartly (old now : Places) (rounds : List Round) (last : Round) : Type 0 where
  pub done : List Act
  pub rest : List Act
  pub whole : last.acts ≡ done ++ rest
  pub n : ℕ
  pub moved : Moves old now (tale rounds ++ (last.read ++ entries done)) (printed rounds ++ (lines done ++ take n (lines (take 1 rest))))
