-- What a method does of an event: an act of the machine, for whichever list of notes agrees with what it added.
use Rattle.std.specs.Prelude.{ℕ, ◌≡◌, ◌+◌, ◌-◌, ◌^◌, ◌<◌, ◌≤◌, min, Bool, true, false, List, [], ◌∷◌, ◌++◌, None}
use Rattle.std.specs.List.{list_any}
use Rattle.mj_base.specs.declared.event.Note.{Note}
use Rattle.mj_base.specs.declared.event.Note.TheVariants as notes
use Rattle.mj_base.specs.declared.event.Out.{Out}
use Rattle.mj_disk.specs.declared.disk.Disk.{Ghosts}
use Rattle.mj_machine.specs.StoreState.{Store}
use Rattle.mj_store.specs.Opening.{IsRefusal}
use Rattle.mj_machine.specs.MachineState.{Act, State, Whole}
use Rattle.mj_machine.specs.Acts.{Doing}
use Rattle.mj_machine.specs.DiskActs.{clients_alone, notes_in, says_found, says_shut}
use Rattle.mj_keeper.specs.Standing.{GoesOn, Sees}
use Rattle.mj_titanic.specs.declared.fault.ActFault.{ActFault}
use Rattle.mj_titanic.specs.declared.fault.ActFault.TheVariants.{NoMemory, Refused}
use Rattle.mj_keeper.specs.declared.keeper.Keeper.{Keeper}
use Rattle.mj_keeper.specs.declared.keeper.Shelf.TheVariants.{Absent}
use Rattle.mj_titanic.specs.declared.acts.Keeping.{Keeping}
use Rattle.mj_titanic.specs.declared.parts.Parts as declared

-- ---- where an event stands

-- what is routed, what keeps tickets, and how many acts on the disk the event has made
pub record Parts : Type 0 where
  pub core : State
  pub keeper : Keeper
  pub acts : ℕ

abbrev pub parts : State → Keeping → Parts
parts core keeping = record { core = core; keeper = keeping.keeper; acts = keeping.acts }

abbrev pub seen : declared.Parts → Parts
seen p = parts p.routing p.keeping

pub record IsAt {D : Type 0} (disks : Ghosts D) (old : Parts) (disk : D) (w : Whole) : Type 0 where
  pub routing : old.core ≡ w.routing
  pub limited : old.keeper.limits ≡ w.routing.limits
  pub acts : old.acts ≡ w.acts
  pub store : Sees disks old.keeper disk w.store

-- ---- notes

-- each is of an act from this one up to below that one
pub record AreOf (first next : ℕ) (some : List Note) : Type 0 where
  pub onward : first ≤ next
  pub shut : (k : ℕ) → list_any (says_shut k) some ≡ true → (first ≤ k) × (k < next)
  pub found : (k : ℕ) → list_any (says_found k) some ≡ true → (first ≤ k) × (k < next)

-- both lists say the same of these acts
abbrev pub Agree : ℕ → ℕ → List Note → List Note → Type 0
Agree first next all some =
    (k : ℕ) → first ≤ k → k < next → (list_any (says_shut k) all ≡ list_any (says_shut k) some) × (list_any (says_found k) all ≡ list_any (says_found k) some)

-- how many say that an act failed
abbrev pub shut_count : List Note → ℕ
shut_count [] = 0
shut_count (notes.Shut k ∷ rest) = shut_count rest + 1
shut_count (notes.Again k found ∷ rest) = shut_count rest

-- a count of faults is larger by so many at least, or stands at its greatest value
abbrev pub RoseBy : ℕ → ℕ → ℕ → Type 0
RoseBy n before now = (before ≤ now) × (min (before + n) (2 ^ 64 - 1) ≤ now)

-- ---- what was done

-- the act ended where these parts and this disk are, and added this
pub record Ends {D : Type 0} (disks : Ghosts D) (new : Parts) (after : D) (added : List Out) (w : Whole) (d : Doing Whole Out) : Type 0 where
  pub at : IsAt disks new after d.0
  pub outs : d.1 ≡ added
  pub notes : d.0.notes ≡ w.notes

-- the act was done, and each image of a crash during it opens as one of these stores
pub record Did {D : Type 0} (disks : Ghosts D) (old : Parts) (disk : D) (new : Parts) (after : D) (before outs : List Out) (act : Act) (stores : Whole → List Store) : Type 0 where
  pub added : List Out
  pub outs_are : outs ≡ before ++ added
  pub given : AreOf old.acts new.acts (notes_in added)
  pub ends : (w : Whole) → IsAt disks old disk w → Agree old.acts new.acts w.notes (notes_in added) → Ends disks new after added w (act w)
  pub crash : (w : Whole) → IsAt disks old disk w → Agree old.acts new.acts w.notes (notes_in added) → GoesOn disks disk after (stores w)
  pub count : RoseBy (shut_count (notes_in added)) (disks.faults disk) (disks.faults after)
  pub silent : disks.told after ≡ None → disks.told disk ≡ None
  pub plain : old.keeper.shelf ≡ Absent → (new.keeper.shelf ≡ Absent) × (disks.told after ≡ disks.told disk)

abbrev pub IsRefused : ActFault → Type 0
IsRefused NoMemory = ⊥
IsRefused (Refused fault) = Unit {0}

-- a file is refused for what is in it
abbrev pub IsActFault : ActFault → Type 0
IsActFault NoMemory = Unit {0}
IsActFault (Refused fault) = IsRefusal fault

-- it ended early, in front of the act of this number; a refusal never comes of a disk that tells what it holds
pub record Stopped {D : Type 0} (disks : Ghosts D) (fault : ActFault) (old : Parts) (disk after : D) (stores : Whole → List Store) : Type 0 where
  pub some : List Note
  pub upto : ℕ
  pub given : AreOf old.acts upto some
  pub crash : (w : Whole) → IsAt disks old disk w → Agree old.acts upto w.notes some → GoesOn disks disk after (stores w)
  pub count : disks.faults disk ≤ disks.faults after
  pub kind : IsActFault fault
  pub refused : IsRefused fault → disks.told disk ≡ None
  pub plain : old.keeper.shelf ≡ Absent → disks.told after ≡ disks.told disk

-- the store in front of an act and behind it
abbrev pub around : Act → Whole → List Store
around act w = w.store ∷ (act w).0.store ∷ []

-- no store: nothing was written
abbrev pub nowhere : Whole → List Store
nowhere w = []

-- ---- an act on the disk that was done or has failed

-- where it failed, no ticket stays queued
abbrev pub core_behind : Bool → State → State
core_behind true core = core
core_behind false core = clients_alone core
