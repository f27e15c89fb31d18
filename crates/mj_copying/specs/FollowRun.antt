-- A run of follow over a link and a file: what it did in each turn, and what passed on the link.
use Rattle.std.specs.Prelude.{ℕ, ◌≡◌, ◌⊎◌, List, [], ◌∷◌, ◌++◌, length, Option, Some}
use Rattle.mj_base.specs.Linking.{Tells}
use Rattle.mj_base.specs.declared.link.LinkEntry.{LinkEntry}
use Rattle.mj_base.specs.declared.link.LinkEntry.TheVariants as entry
use Rattle.mj_base.specs.declared.link.LinkEvent.{LinkEvent}
use Rattle.mj_base.specs.declared.link.LinkEvent.TheVariants as event
use Rattle.mj_copy.specs.FollowRules.{FollowTurn, Following, follow_appended, follow_opened, follow_steps, new_follow}
use Rattle.mj_copy.specs.declared.awaits.Awaits.TheVariants as waits
use Rattle.mj_copy.specs.declared.follow_act.FollowAct.{FollowAct}
use Rattle.mj_copy.specs.declared.follow_act.FollowAct.TheVariants as act
use Rattle.mj_copy_file.specs.Logs.{IsNext}
use Rattle.mj_copying.specs.Passing.{entry_of, wrote}
use Rattle.mj_disk.specs.DiskModel.{History}
use Rattle.mj_journal.specs.FileText.{Opens}
use Rattle.mj_journal.specs.HandedOut.{IsBaseOf}

-- what an act does to the link
abbrev pub entries_of : FollowAct → List LinkEntry
entries_of (act.Write octets) = wrote octets
entries_of (act.Open base) = []
entries_of (act.Append payload) = []
entries_of act.Reopen = entry.Reopened ∷ []
entries_of act.Done = []
entries_of act.NoAnswer = []

abbrev pub entries : List FollowAct → List LinkEntry
entries [] = []
entries (a ∷ acts) = entries_of a ++ entries acts

-- in a turn: what the link gave was met; the file was opened, and has these payloads; a payload was appended, or refused
pub data Doing : Type 0 where
  Took : (e : LinkEvent) → Doing
  Opened : (found : List (List ℕ)) → Doing
  Appended : (payload : List ℕ) → Doing
  Refused : (payload : List ℕ) → Doing

-- the end, and the payloads of its file once that is open
pub record Copying : Type 0 where
  pub following : Following
  pub payloads : List (List ℕ)

abbrev pub new_copying : ℕ → Copying
new_copying tries = record { following = new_follow tries; payloads = [] }

abbrev pub turn_at : Doing → Copying → FollowTurn
turn_at (Took e) c = follow_steps e c.following
turn_at (Opened found) c = follow_opened (length found) c.following
turn_at (Appended payload) c = follow_appended c.following
turn_at (Refused payload) c = follow_steps event.End c.following

abbrev pub has_then : Doing → List (List ℕ) → List (List ℕ)
has_then (Took e) payloads = payloads
has_then (Opened found) payloads = found
has_then (Appended payload) payloads = payloads ++ payload ∷ []
has_then (Refused payload) payloads = payloads

abbrev pub after : Doing → Copying → Copying
after doing c = record { following = (turn_at doing c).0; payloads = has_then doing c.payloads }

-- what passes on the link before the acts
abbrev pub read_of : Doing → List LinkEntry
read_of (Took e) = entry_of e ∷ []
read_of (Opened found) = []
read_of (Appended payload) = []
read_of (Refused payload) = []

abbrev pub round : Doing → Copying → List LinkEntry
round doing c = read_of doing ++ entries (turn_at doing c).1

abbrev pub tale : List Doing → Copying → List LinkEntry
tale [] c = []
tale (doing ∷ doings) c = round doing c ++ tale doings (after doing c)

abbrev pub done_by : List Doing → Copying → Copying
done_by [] c = c
done_by (doing ∷ doings) c = done_by doings (after doing c)

-- what the file has is the list as which its bytes opened at the start, and the base theirs, or the one that was asked for
abbrev pub IsFound : Option History → ℕ → List (List ℕ) → Type 0
IsFound start base found =
    (history : History) (of : ℕ) (others : List (List ℕ)) → start ≡ Some history → Opens of others history.now.octets → (found ≡ others) × IsBaseOf base base of history.now.octets

-- each thing is done where the end waits for it; a payload is appended exactly where it may come next
abbrev pub IsDue : Option History → Doing → Copying → Type 0
IsDue start (Took e) c = c.following.awaits ≡ waits.Link
IsDue start (Opened found) c = (base : ℕ) × (c.following.awaits ≡ waits.File base) × IsFound start base found
IsDue start (Appended payload) c = (c.following.awaits ≡ waits.Append payload) × IsNext c.following.base c.payloads payload
IsDue start (Refused payload) c = (c.following.awaits ≡ waits.Append payload) × ¬ IsNext c.following.base c.payloads payload

abbrev pub AreDue : Option History → List Doing → Copying → Type 0
AreDue start [] c = Unit {0}
AreDue start (doing ∷ doings) c = IsDue start doing c × AreDue start doings (after doing c)

-- ---- runs

-- these turns were made, and all their acts done
pub record Followed (start : Option History) (first : Copying) (old now : Option (List LinkEntry)) (last : Copying) : Type 0 where
  pub doings : List Doing
  pub due : AreDue start doings first
  pub last_is : last ≡ done_by doings first
  pub told : Tells old now (tale doings first)

-- one turn more, of whose acts the first ones were done; what it changes is counted, or, where none was done, may not be
pub record IsCut (start : Option History) (c : Copying) (cut : List LinkEntry) (last : Copying) : Type 0 where
  pub doing : Doing
  pub due : IsDue start doing c
  pub done : List FollowAct
  pub rest : List FollowAct
  pub whole : (turn_at doing c).1 ≡ done ++ rest
  pub cut_is : cut ≡ read_of doing ++ entries done
  pub last_is : (last ≡ after doing c) ⊎ ((last ≡ c) × (done ≡ []))

-- a run that broke off: behind whole turns, or inside one more
pub record BrokeOff (start : Option History) (first : Copying) (old now : Option (List LinkEntry)) (last : Copying) : Type 0 where
  pub doings : List Doing
  pub due : AreDue start doings first
  pub cut : List LinkEntry
  pub part : ((cut ≡ []) × (last ≡ done_by doings first)) ⊎ IsCut start (done_by doings first) cut last
  pub told : Tells old now (tale doings first ++ cut)
