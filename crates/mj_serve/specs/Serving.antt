-- What a run made of its ports and its disk.
use Rattle.std.specs.Prelude.{ℕ, ◌≡◌, ◌≤◌, true, List, [], ◌++◌, length, Option, Some}
use Rattle.mj_base.specs.declared.event.Event.{Event}
use Rattle.mj_base.specs.declared.limits.Limits.{Limits}
use Rattle.mj_disk.specs.Content.{IsImage}
use Rattle.mj_disk.specs.DiskModel.{History, IsSettled, LeavesOnly, LeftSince, Now, Turns}
use Rattle.mj_disk.specs.declared.disk.Disk.{Ghosts}
use Rattle.mj_keeper.specs.Standing.{IsOneOf, MayLeave}
use Rattle.mj_machine.specs.DiskActs.{notes_in}
use Rattle.mj_machine.specs.EventStep.{Noted}
use Rattle.mj_machine.specs.MachineRun.{AreGiven, run_outs, run_state}
use Rattle.mj_machine.specs.MachineState.{Machine, start_with}
use Rattle.mj_machine.specs.StoreState.{Store, no_store, opened_store, usable}
use Rattle.mj_store.specs.Standing.{IsSettledFor}
use Rattle.mj_tickets.specs.declared.command.TicketCmd.{TicketCmd}
use Rattle.mj_titanic.specs.Acting.{RoseBy, shut_count}
use Rattle.mj_serve.specs.Counts.{Counts}
use Rattle.mj_serve.specs.Given.{Entry, events_in, outs_given}
use Rattle.mj_serve.specs.RunLaws.{KeepsLaws, KeepsNothing, KeepsTickets}
use Rattle.mj_serve.specs.Stability.{AreStable, marked, stores_over}
use Rattle.mj_serve.specs.declared.summary.Summary.{Summary}

-- ---- a run so far

-- these events were taken, each with the notes that its acts gave, and what was given is what the machine does at them;
-- each image of a crash since a piece was given has the commands behind that piece's event in front; each since the start,
-- of a disk that was settled then, opens as one of the run's stores; the disk's count of faults rose by the acts that
-- failed
pub record RanOver {P D : Type 0} (stand : P → P → List Event → List Entry → Type 0) (disks : Ghosts D) (origin : P) (began : D) (limits : Limits) (first : Machine) (ports : P) (disk : D) (happened last : List Noted) (given : List Entry) : Type 0 where
  pub stands : stand origin ports (events_in (happened ++ last)) given
  pub outs : outs_given given ≡ run_outs limits first happened
  pub notes : AreGiven limits first happened
  pub stable : first.store.stored ≡ true → AreStable (disks.told disk) (disks.time disk) first.store.base (run_state limits first happened).store.commands given (marked limits first happened)
  pub crash : first.store.stored ≡ true → Now (disks.told began) IsSettled → LeavesOnly (disks.time began, disks.time disk) (disks.told began) (disks.told disk) (IsOneOf (stores_over limits first (happened ++ last)))
  pub count : RoseBy (shut_count (notes_in (run_outs limits first happened))) (disks.faults began) (disks.faults disk)

-- the bytes are as they were, and a crash since the moment leaves what it might have left at it
pub record IsLeftAlone (moment : ℕ) (before after : Option History) : Type 0 where
  pub bytes : Turns (λ old new. new.octets ≡ old.octets) before after
  pub images : (old : History) → before ≡ Some old → (image : List ℕ) → LeftSince after moment image → IsImage old.now image

-- ---- how it ended

-- while the store is open the disk stands for its commands and all is synced; what is read opens as these commands or, where
-- it is shut, as these with the one in doubt
pub record IsLeft {D : Type 0} (disks : Ghosts D) (disk : D) (store : Store) : Type 0 where
  pub settled : store.access ≡ usable → disks.settled_now disk × Now (disks.told disk) (IsSettledFor store.base store.commands)
  pub reads : Now (disks.told disk) (λ held. MayLeave store held.octets)

-- all events up to the end were taken
pub record Served {P D : Type 0} (stand : P → P → List Event → List Entry → Type 0) (disks : Ghosts D) (origin : P) (began : D) (limits : Limits) (store : Store) (ports : P) (disk : D) (summary : Summary) : Type 0 where
  pub happened : List Noted
  pub given : List Entry
  pub ran : RanOver stand disks origin began limits (start_with limits store) ports disk happened [] given
  pub counts : Counts summary happened (run_outs limits (start_with limits store) happened)
  pub left : store.stored ≡ true → IsLeft disks disk (run_state limits (start_with limits store) happened).store
  pub laws : KeepsLaws limits store happened

-- it ended early: at one event more, or at none
pub record EndedEarly {P D : Type 0} (stand : P → P → List Event → List Entry → Type 0) (disks : Ghosts D) (origin : P) (began : D) (limits : Limits) (store : Store) (ports : P) (disk : D) : Type 0 where
  pub happened : List Noted
  pub last : List Noted
  pub alone : length last ≤ 1
  pub given : List Entry
  pub ran : RanOver stand disks origin began limits (start_with limits store) ports disk happened last given
  pub laws : KeepsLaws limits store happened

-- ---- over a file, and without a store

module _ {P D : Type 0} (stand : P → P → List Event → List Entry → Type 0) (disks : Ghosts D) (origin : P) (began : D) (limits : Limits) where
  abbrev pub ServedOver : List ℕ → ℕ → List TicketCmd → P → D → Summary → Type 0
  ServedOver seed base commands ports disk summary =
      (run : Served stand disks origin began limits (opened_store seed base commands) ports disk summary) × KeepsTickets limits seed base commands run.happened

  abbrev pub ServedWithout : P → D → Summary → Type 0
  ServedWithout ports disk summary =
      (run : Served stand disks origin began limits no_store ports disk summary) × KeepsNothing limits run.happened

  abbrev pub EndedOver : List ℕ → ℕ → List TicketCmd → P → D → Type 0
  EndedOver seed base commands ports disk =
      (run : EndedEarly stand disks origin began limits (opened_store seed base commands) ports disk) × KeepsTickets limits seed base commands run.happened

  abbrev pub EndedWithout : P → D → Type 0
  EndedWithout ports disk = (run : EndedEarly stand disks origin began limits no_store ports disk) × KeepsNothing limits run.happened
