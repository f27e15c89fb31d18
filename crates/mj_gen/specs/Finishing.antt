-- What is printed of a run, and the status that goes with it.
use Rattle.std.specs.Prelude.{ℕ, ◌≡◌, ◌⊎◌, List, [], ◌++◌, Option, Result, Ok, Err, codes}
use Rattle.std.specs.Fmt.{decimal}
use Rattle.std.specs.Io.KnownBytes.{Appends}
use Rattle.mj_base.specs.Rising.{Rose}
use Rattle.mj_base.specs.Writing.{AppendsFront}
use Rattle.mj_serve.specs.declared.fault.ServeFault.{ServeFault}
use Rattle.mj_serve.specs.declared.fault.ServeFault.TheVariants as faults
use Rattle.mj_words.specs.Lines.{AppendsLine}
use Rattle.mj_words.specs.SinkCounts.{SinkCounts}
use Rattle.mj_gen.specs.Counting.{text_of}
use Rattle.mj_gen.specs.declared.counts.Counts.{Counts}
use Rattle.mj_gen.specs.declared.status.Status.{Status}
use Rattle.mj_gen.specs.declared.status.Status.TheVariants as statuses

-- why a run ended early, as it is printed; of want of memory nothing is
abbrev pub fault_line : ServeFault → List ℕ
fault_line faults.NotAStore = codes "fault store not-a-store\n"
fault_line (faults.Version version) = codes "fault store version " ++ (decimal version ++ codes "\n")
fault_line (faults.Damaged at) = codes "fault store damaged " ++ (decimal at ++ codes "\n")
fault_line faults.DiskFault = codes "fault disk\n"
fault_line faults.NoMemory = []

abbrev pub status_for : ServeFault → Status
status_for faults.NotAStore = statuses.Store
status_for (faults.Version version) = statuses.Store
status_for (faults.Damaged at) = statuses.Store
status_for faults.DiskFault = statuses.Disk
status_for faults.NoMemory = statuses.NoMemory

abbrev pub text_for : Counts → List ℕ
text_for counts = text_of counts.events counts.pieces counts.octets counts.ends

-- the five lines are printed; or there was no memory, and nothing is; or the write failed
abbrev pub IsTold : Counts → Status → Option (List ℕ) → Option (List ℕ) → SinkCounts → SinkCounts → Type 0
IsTold counts status old new before now =
    ((status ≡ statuses.Done) × Appends old new (text_for counts))
    ⊎ ((status ≡ statuses.NoMemory) × Appends old new [])
    ⊎ ((status ≡ statuses.Write) × Rose before.faults now.faults × AppendsFront old new (text_for counts))

-- the fault's line is printed, which may fail; or there was no memory to make it
abbrev pub IsRefused : ServeFault → Status → Option (List ℕ) → Option (List ℕ) → SinkCounts → SinkCounts → Type 0
IsRefused fault status old new before now =
    ((status ≡ status_for fault) × AppendsLine old new before now [] (fault_line fault))
    ⊎ ((status ≡ statuses.NoMemory) × Appends old new [])

-- what a run's end makes of the status and of what is printed
abbrev pub IsFinished : Result Counts ServeFault → Status → Option (List ℕ) → Option (List ℕ) → SinkCounts → SinkCounts → Type 0
IsFinished (Ok counts) status old new before now = IsTold counts status old new before now
IsFinished (Err fault) status old new before now = IsRefused fault status old new before now
