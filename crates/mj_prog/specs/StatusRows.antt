-- What a replay's status says, before it is made a number.
use Rattle.std.specs.Prelude.{ℕ, ◌≡◌, ◌⊎◌, ⊤, List, [], Option, Some, None}
use Rattle.std.specs.Io.KnownBytes.{Appends, Keeps}
use Rattle.mj_base.specs.Rising.{Rose}
use Rattle.mj_base.specs.Writing.{AppendsFront}
use Rattle.mj_base.specs.declared.sink.WriteAnswer.{WriteAnswer}
use Rattle.mj_base.specs.declared.sink.WriteAnswer.TheVariants as writes
use Rattle.mj_prog.specs.declared.status.Status.{Status}
use Rattle.mj_prog.specs.declared.status.Status.TheVariants as statuses
use Rattle.mj_prog.specs.declared.words.Load.{Load}
use Rattle.mj_machine.specs.MachineState.{Machine}
use Rattle.mj_prog.specs.Made.{Made}
use Rattle.mj_prog.specs.ReplayTable.{IsDone, IsRefused, IsCutByStore, IsCutOff, IsUnwritten, IsUnread}
use Rattle.mj_words.specs.Lines.{AppendsLine, done_line}
use Rattle.mj_prog.specs.Running.{FaultCounts, IsFileRefused}
use Rattle.mj_prog.specs.Shown.{fault_disk, store_line}
use Rattle.mj_prog.specs.declared.halt.StoreFault.{StoreFault}
use Rattle.mj_prog.specs.declared.halt.StoreFault.TheVariants as stores
use Rattle.mj_disk.specs.DiskModel.{History}
use Rattle.mj_journal.specs.declared.fault.OpenFault.{OpenFault}
use Rattle.mj_journal.specs.declared.fault.OpenFault.TheVariants as opening
use Rattle.mj_words.specs.SinkCounts.{SinkCounts}

-- the row of a status, of a run over a script: what the source has left before and after; what the sink has got, and its counts
abbrev pub IsRow : ℕ → Machine → Made → Option (List ℕ) → Option (List ℕ) → Option (List ℕ) → Option (List ℕ) → SinkCounts → SinkCounts → Status → Type 0
IsRow lanes first made from left old new before now statuses.Done = IsDone lanes first made from old new
IsRow lanes first made from left old new before now statuses.Words = ⊥
IsRow lanes first made from left old new before now statuses.Line = IsRefused lanes first made from old new before now
IsRow lanes first made from left old new before now statuses.Store = IsCutByStore lanes first made from old new before now
IsRow lanes first made from left old new before now statuses.NoMemory = IsCutOff lanes first made from old new
IsRow lanes first made from left old new before now statuses.Disk = ⊤
IsRow lanes first made from left old new before now statuses.Read = IsUnread lanes first made from left old new before now
IsRow lanes first made from left old new before now statuses.Write = IsUnwritten lanes first made from old new

-- a failure raised the count of its faults
abbrev pub StatusCause : FaultCounts → ℕ → Status → Type 0
StatusCause counts sink_now statuses.Done = ⊤
StatusCause counts sink_now statuses.Words = ⊤
StatusCause counts sink_now statuses.Line = ⊤
StatusCause counts sink_now statuses.Store = ⊤
StatusCause counts sink_now statuses.NoMemory = ⊤
StatusCause counts sink_now statuses.Disk = Rose counts.disk_before counts.disk_now
StatusCause counts sink_now statuses.Read = Rose counts.source_before counts.source_now
StatusCause counts sink_now statuses.Write = Rose counts.sink_before sink_now

-- a load's run ends with some of the statuses; of a disk that tells nothing it isn't known why it failed
abbrev pub LoadCause : ℕ → ℕ → Status → Type 0
LoadCause sink_before sink_now statuses.Done = ⊤
LoadCause sink_before sink_now statuses.Words = ⊥
LoadCause sink_before sink_now statuses.Line = ⊥
LoadCause sink_before sink_now statuses.Store = ⊤
LoadCause sink_before sink_now statuses.NoMemory = ⊤
LoadCause sink_before sink_now statuses.Disk = ⊤
LoadCause sink_before sink_now statuses.Read = ⊥
LoadCause sink_before sink_now statuses.Write = Rose sink_before sink_now

abbrev pub CommandCause : Option Load → FaultCounts → ℕ → Status → Type 0
CommandCause None counts sink_now status = StatusCause counts sink_now status
CommandCause (Some load) counts sink_now status = LoadCause counts.sink_before sink_now status

-- nothing was served
abbrev pub IsUnopened : Status → Type 0
IsUnopened statuses.Done = ⊥
IsUnopened statuses.Words = ⊥
IsUnopened statuses.Line = ⊥
IsUnopened statuses.Store = ⊤
IsUnopened statuses.NoMemory = ⊤
IsUnopened statuses.Disk = ⊤
IsUnopened statuses.Read = ⊥
IsUnopened statuses.Write = ⊥

-- why a file is refused was printed, or there was no memory to make the line
abbrev pub Refuses : StoreFault → Option (List ℕ) → Option (List ℕ) → SinkCounts → SinkCounts → Status → Type 0
Refuses fault old new before now status = ((status ≡ statuses.Store) × AppendsLine old new before now [] (store_line fault)) ⊎ ((status ≡ statuses.NoMemory) × (new ≡ old))

-- what a refused opening prints
abbrev pub RefusesOpening : OpenFault → Option (List ℕ) → Option (List ℕ) → SinkCounts → SinkCounts → Status → Type 0
RefusesOpening opening.NotAStore old new before now status = Refuses stores.NotAStore old new before now status
RefusesOpening (opening.Version version) old new before now status = Refuses (stores.Version version) old new before now status
RefusesOpening (opening.Damaged at) old new before now status = Refuses (stores.Damaged at) old new before now status
RefusesOpening opening.DiskFault old new before now status = (status ≡ statuses.Disk) × AppendsLine old new before now [] fault_disk
RefusesOpening opening.NoMemory old new before now status = (status ≡ statuses.NoMemory) × (new ≡ old)

-- of a disk that tells: the file is refused for what stands in it, which is printed
abbrev pub IsRefusedFile : Option History → Option History → Option (List ℕ) → Option (List ℕ) → SinkCounts → SinkCounts → Type 0
IsRefusedFile told told_now old new before now = (fault : StoreFault) × IsFileRefused fault told told_now × AppendsLine old new before now [] (store_line fault)

-- what the statuses 3 and 5 say of an opening
abbrev pub IsFileRow : Option History → Option History → Option (List ℕ) → Option (List ℕ) → SinkCounts → SinkCounts → Status → Type 0
IsFileRow told told_now old new before now statuses.Done = ⊤
IsFileRow told told_now old new before now statuses.Words = ⊤
IsFileRow told told_now old new before now statuses.Line = ⊤
IsFileRow told told_now old new before now statuses.Store = (history : History) → told ≡ Some history → IsRefusedFile told told_now old new before now
IsFileRow told told_now old new before now statuses.NoMemory = ⊤
IsFileRow told told_now old new before now statuses.Disk = AppendsLine old new before now [] fault_disk
IsFileRow told told_now old new before now statuses.Read = ⊤
IsFileRow told told_now old new before now statuses.Write = ⊤

-- a write that failed raised the count
abbrev pub WriteStatusCause : ℕ → ℕ → Status → Type 0
WriteStatusCause before now status = status ≡ statuses.Write → Rose before now

-- what the write of `done N` makes of the status
abbrev pub status_after : WriteAnswer → Status
status_after writes.Done = statuses.Done
status_after writes.NoMemory = statuses.NoMemory
status_after writes.Failed = statuses.Write

-- `done N` was printed; there was no memory; or a front of it was, and the write failed
abbrev pub PrintsDone : ℕ → Option (List ℕ) → Option (List ℕ) → ℕ → ℕ → Status → Type 0
PrintsDone events old new before now statuses.Done = Appends old new (done_line events)
PrintsDone events old new before now statuses.Words = ⊥
PrintsDone events old new before now statuses.Line = ⊥
PrintsDone events old new before now statuses.Store = ⊥
PrintsDone events old new before now statuses.NoMemory = Keeps old new
PrintsDone events old new before now statuses.Disk = ⊥
PrintsDone events old new before now statuses.Read = ⊥
PrintsDone events old new before now statuses.Write = Rose before now × AppendsFront old new (done_line events)
