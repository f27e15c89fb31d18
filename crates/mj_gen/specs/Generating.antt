-- What a run of the generated load makes of the disk, and what is printed of it.
use Rattle.std.specs.Prelude.{ℕ, ◌≡◌, ◌≤◌, ◌⊎◌, Bool, true, false, List, [], ◌++◌, length, replicate, Option, Result, IfOk, IfErr, IsErr, IsErrOf}
use Rattle.std.specs.Io.KnownBytes.{Appends}
use Rattle.mj_base.specs.Rising.{Rose}
use Rattle.mj_base.specs.StandardLimits.{standard_limits}
use Rattle.mj_base.specs.Writing.{AppendsFront}
use Rattle.mj_base.specs.declared.event.Event.{Event}
use Rattle.mj_base.specs.declared.event.Out.{Out}
use Rattle.mj_disk.specs.DiskModel.{History, IsSettled, LeavesOnly, Now, Turns}
use Rattle.mj_disk.specs.declared.disk.Disk.{Ghosts}
use Rattle.mj_journal.specs.Opening.{KeepsFile}
use Rattle.mj_keeper.specs.Standing.{IsOneOf}
use Rattle.mj_machine.specs.DiskActs.{notes_in}
use Rattle.mj_machine.specs.EventStep.{Noted}
use Rattle.mj_machine.specs.MachineRun.{AreGiven, plainly, run_outs, run_state}
use Rattle.mj_machine.specs.MachineState.{Machine, start, start_with}
use Rattle.mj_machine.specs.StoreState.{opened_store}
use Rattle.mj_serve.specs.Faults.{IsFileFault, IsUnserved}
use Rattle.mj_serve.specs.Given.{Entry, events_in, outs_given}
use Rattle.mj_serve.specs.RunLaws.{KeepsLaws, KeepsNothing, KeepsTickets}
use Rattle.mj_serve.specs.Serving.{IsLeft, IsLeftAlone}
use Rattle.mj_serve.specs.Stability.{AreStable, marked, stores_over}
use Rattle.mj_serve.specs.declared.fault.ServeFault.{ServeFault}
use Rattle.mj_serve.specs.declared.fault.ServeFault.TheVariants.{DiskFault}
use Rattle.mj_store.specs.Opening.{NoneLawful, OpensLawfully}
use Rattle.mj_store.specs.Standing.{IsTelling}
use Rattle.mj_tickets.specs.declared.command.TicketCmd.{TicketCmd}
use Rattle.mj_titanic.specs.Acting.{RoseBy, shut_count}
use Rattle.mj_words.specs.Lines.{AppendsLine}
use Rattle.mj_words.specs.SinkCounts.{SinkCounts}
use Rattle.mj_gen.specs.Counting.{AreCounted, counts_text}
use Rattle.mj_gen.specs.Finishing.{fault_line}
use Rattle.mj_gen.specs.Generated.{generated}
use Rattle.mj_gen.specs.Statuses.{IsStatus}
use Rattle.mj_gen.specs.declared.counts.Counts.{Counts}

-- ---- where a run begins

-- ids are drawn from this seed
abbrev pub seed : List ℕ
seed = replicate 32 0

-- without a store, or with a file that opens as these commands
abbrev pub Begins : Bool → Option History → Machine → Type 0
Begins false told first = first ≡ start standard_limits
Begins true told first = (base : ℕ) × (commands : List TicketCmd) × OpensLawfully base commands told × (first ≡ start_with standard_limits (opened_store seed base commands))

-- ---- the machine's run

-- These events happened, each with the notes that its acts on the disk gave; then these were begun, one or none; and whether the
-- end of the events was reached. The disk's count of faults rose by the acts that failed. With a store, the images of a crash
-- since a piece was given have the commands behind that piece's event in front, and those since the start, of a disk that was
-- settled then, open as one of the run's stores.
pub record IsRun {D : Type 0} (disks : Ghosts D) (began after : D) (first : Machine) (happened begun : List Noted) (ended : Bool) : Type 0 where
  pub alone : length begun ≤ 1
  pub notes : AreGiven standard_limits first happened
  pub count : RoseBy (shut_count (notes_in (run_outs standard_limits first happened))) (disks.faults began) (disks.faults after)
  pub given : List Entry
  pub outs : outs_given given ≡ run_outs standard_limits first happened
  pub stable : first.store.stored ≡ true → AreStable (disks.told after) (disks.time after) first.store.base (run_state standard_limits first happened).store.commands given (marked standard_limits first happened)
  pub crash : first.store.stored ≡ true → Now (disks.told began) IsSettled → LeavesOnly (disks.time began, disks.time after) (disks.told began) (disks.told after) (IsOneOf (stores_over standard_limits first (happened ++ begun)))
  pub left : ended ≡ true → first.store.stored ≡ true → IsLeft disks after (run_state standard_limits first happened).store
  pub laws : KeepsLaws standard_limits first.store happened
  pub tickets : first.store.stored ≡ true → KeepsTickets standard_limits first.store.seed first.store.base first.store.commands happened
  pub nothing : first.store.stored ≡ false → KeepsNothing standard_limits happened

module _ {D : Type 0} (disks : Ghosts D) (n : ℕ) (stored : Bool) (began after : D) where
  -- a run over all events of the load, in which no act failed
  abbrev pub IsWhole : Machine → Type 0
  IsWhole first = IsRun disks began after first (plainly (generated n stored)) [] true

  -- a run over the first of the load's events, which may be all
  abbrev pub IsPart : Machine → Type 0
  IsPart first = (happened : List Noted) × (begun : List Noted) × (ended : Bool) × (rest : List Event)
      × (generated n stored ≡ events_in (happened ++ begun) ++ rest) × IsRun disks began after first happened begun ended

  -- where the disk tells or isn't needed
  abbrev pub IsKnown : Type 0
  IsKnown = stored ≡ true → IsTelling disks began

  -- a run that gave these numbers, or ended early
  pub record HasRun (answer : Result Counts ServeFault) : Type 0 where
    pub whole : IfOk answer (λ counts. (first : Machine) → Begins stored (disks.told began) first → IsWhole first × AreCounted counts (generated n stored) (run_outs standard_limits first (plainly (generated n stored))))
    pub told : IfOk answer (λ counts. (given : List Out) × AreCounted counts (generated n stored) given)
    pub part : (first : Machine) → Begins stored (disks.told began) first → IsPart first
    pub cause : IsErrOf answer DiskFault → IsKnown → Rose (disks.faults began) (disks.faults after)
    pub lawful : IfErr answer (λ fault. IsFileFault fault → NoneLawful (disks.told began))
    pub refused : IfErr answer (λ fault. IsFileFault fault → IsTelling disks began → (stored ≡ true) × IsUnserved fault (disks.told began) (disks.told after) × Turns KeepsFile (disks.told began) (disks.told after))
    pub unlawful : stored ≡ true → IsTelling disks began → NoneLawful (disks.told began) → IsErr answer
    pub alone : stored ≡ false → IsLeftAlone (disks.time began) (disks.told began) (disks.told after)

  -- the five lines of the machine's run over the load
  abbrev pub load_text : Machine → List ℕ
  load_text first = counts_text (generated n stored) (run_outs standard_limits first (plainly (generated n stored)))

  -- why a file is refused, which is printed; it is as it was
  pub record IsRefusedFile (old new : Option (List ℕ)) (before now : SinkCounts) : Type 0 where
    pub fault : ServeFault
    pub kind : IsFileFault fault
    pub line : AppendsLine old new before now [] (fault_line fault)
    pub lawful : NoneLawful (disks.told began)
    pub why : IsTelling disks began → (stored ≡ true) × IsUnserved fault (disks.told began) (disks.told after) × Turns KeepsFile (disks.told began) (disks.told after)

  -- what the call makes of the disk and of the sink, by its status
  pub record Generates (old new : Option (List ℕ)) (before now : SinkCounts) (status : ℕ) : Type 0 where
    pub statuses : IsStatus status
    -- the five lines are the counts of the machine's run over all events
    pub done : status ≡ 0 → (first : Machine) → Begins stored (disks.told began) first → IsWhole first × Appends old new (load_text first)
    -- whatever the disk tells, they are of all events of the load
    pub prints : status ≡ 0 → (given : List Out) × Appends old new (counts_text (generated n stored) given)
    -- a front of them is written, since the write failed
    pub write : status ≡ 7 → Rose before.faults now.faults × ((first : Machine) → Begins stored (disks.told began) first → IsWhole first × AppendsFront old new (load_text first))
    pub memory : status ≡ 4 → Appends old new []
    pub store : status ≡ 3 → IsRefusedFile old new before now
    pub disk : status ≡ 5 → AppendsLine old new before now [] (fault_line DiskFault) × (IsKnown → Rose (disks.faults began) (disks.faults after))
    -- whatever the status, what a crash may leave is that of the machine's run so far
    pub part : (first : Machine) → Begins stored (disks.told began) first → IsPart first
    pub alone : stored ≡ false → IsLeftAlone (disks.time began) (disks.told began) (disks.told after)
    -- no other status than 0 and 4 where nothing failed
    pub complete : (first : Machine) → Begins stored (disks.told began) first → IsTelling disks began → ¬ Rose (disks.faults began) (disks.faults after) → ¬ Rose before.faults now.faults → (status ≡ 0) ⊎ (status ≡ 4)
    -- nothing is run over a file that opens as no lawful list
    pub refuses : stored ≡ true → IsTelling disks began → NoneLawful (disks.told began) → (status ≡ 3) ⊎ (status ≡ 4) ⊎ (status ≡ 5)
