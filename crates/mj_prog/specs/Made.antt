-- What a run of the broker over a script makes of its events and of the disk.
use Rattle.std.specs.Prelude.{ℕ, ◌≡◌, ◌≤◌, Bool, true, false, IfSome, List, [], ◌++◌, length, Option}
use Rattle.mj_base.specs.StandardLimits.{standard_limits}
use Rattle.mj_base.specs.declared.event.Event.{Event}
use Rattle.mj_disk.specs.DiskModel.{History, IsSettled, LeavesOnly, Now}
use Rattle.mj_disk.specs.declared.disk.Disk.{Ghosts}
use Rattle.mj_keeper.specs.Standing.{IsOneOf}
use Rattle.mj_machine.specs.DiskActs.{notes_in}
use Rattle.mj_machine.specs.EventStep.{Noted}
use Rattle.mj_machine.specs.MachineRun.{AreGiven, run_outs, run_state}
use Rattle.mj_machine.specs.MachineState.{Machine, start, start_with}
use Rattle.mj_machine.specs.StoreState.{opened_store}
use Rattle.mj_serve.specs.Given.{Entry, events_in, outs_given}
use Rattle.mj_serve.specs.RunLaws.{KeepsLaws, KeepsNothing, KeepsTickets}
use Rattle.mj_serve.specs.Serving.{IsLeft, IsLeftAlone}
use Rattle.mj_serve.specs.Stability.{AreStable, marked, stores_over}
use Rattle.mj_store.specs.Opening.{OpensLawfully}
use Rattle.mj_tickets.specs.declared.command.TicketCmd.{TicketCmd}
use Rattle.mj_titanic.specs.Acting.{RoseBy, shut_count}
use Rattle.mj_prog.specs.Shown.{shown}
use Rattle.mj_prog.specs.declared.words.Options.{Options}

-- ---- the events

-- these happened, each with the notes that its acts on the disk gave; then these were begun, one or none; and whether the end of
-- the events was reached
pub record Made : Type 0 where
  pub happened : List Noted
  pub begun : List Noted
  pub ended : Bool

-- they are the first of these events
abbrev pub IsMadeOf : List Event → Made → Type 0
IsMadeOf events made = (rest : List Event) × (events ≡ events_in (made.happened ++ made.begun) ++ rest)

-- these events happened, all of them
abbrev pub IsMadeWhole : List Event → Made → Type 0
IsMadeWhole events made = (made.ended ≡ true) × (made.begun ≡ []) × (events ≡ events_in made.happened)

-- the lines of all that the machine does at what happened
abbrev pub printed : Machine → Made → List ℕ
printed first made = shown (run_outs standard_limits first made.happened)

-- ---- where a run begins

-- without a store, or with a file that opens as these commands
abbrev pub Begins : Bool → List ℕ → Option History → Machine → Type 0
Begins false seed told first = first ≡ start standard_limits
Begins true seed told first = (base : ℕ) × (commands : List TicketCmd) × OpensLawfully base commands told × (first ≡ start_with standard_limits (opened_store seed base commands))

-- ---- the disk

-- without a store the disk's bytes are as they were, and a crash leaves nothing new; with one the images since a piece was given
-- have the commands behind that piece's event in front, and those since the start, of a disk that was settled then, open as one
-- of the run's stores
pub record IsStored {D : Type 0} (disks : Ghosts D) (began after : D) (first : Machine) (made : Made) (given : List Entry) : Type 0 where
  pub stable : first.store.stored ≡ true → AreStable (disks.told after) (disks.time after) first.store.base (run_state standard_limits first made.happened).store.commands given (marked standard_limits first made.happened)
  pub crash : first.store.stored ≡ true → Now (disks.told began) IsSettled
      → LeavesOnly (disks.time began, disks.time after) (disks.told began) (disks.told after) (IsOneOf (stores_over standard_limits first (made.happened ++ made.begun)))
  pub left : made.ended ≡ true → first.store.stored ≡ true → IsLeft disks after (run_state standard_limits first made.happened).store
  pub alone : first.store.stored ≡ false → IsLeftAlone (disks.time began) (disks.told began) (disks.told after)

-- the machine's run: its notes are those of its own acts, and the disk's count of faults rose by the acts that failed; what was
-- kept, and what users rely on
pub record IsRun {D : Type 0} (disks : Ghosts D) (began after : D) (first : Machine) (made : Made) : Type 0 where
  pub alone : length made.begun ≤ 1
  pub notes : AreGiven standard_limits first made.happened
  pub count : RoseBy (shut_count (notes_in (run_outs standard_limits first made.happened))) (disks.faults began) (disks.faults after)
  pub given : List Entry
  pub outs : outs_given given ≡ run_outs standard_limits first made.happened
  pub kept : IsStored disks began after first made given
  pub laws : KeepsLaws standard_limits first.store made.happened
  pub tickets : first.store.stored ≡ true → KeepsTickets standard_limits first.store.seed first.store.base first.store.commands made.happened
  pub nothing : first.store.stored ≡ false → KeepsNothing standard_limits made.happened

-- a run from the start that the options and the disk give, of which this holds
abbrev pub Runs : {D : Type 0} → Ghosts D → D → D → Option Options → (ℕ → Machine → Made → Type 0) → Type 0
Runs {D} disks began after found Row =
    IfSome found (λ options. (first : Machine) → Begins options.stored options.seed (disks.told began) first → (made : Made) × IsRun disks began after first made × Row options.lanes first made)
