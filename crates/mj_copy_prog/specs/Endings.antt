-- What is printed at the end, and the status that goes with it.
use Rattle.std.specs.Prelude.{ℕ, ◌≡◌, ◌⊎◌, List, [], Option}
use Rattle.std.specs.Io.KnownBytes.{Appends, Keeps}
use Rattle.mj_base.specs.Rising.{Rose}
use Rattle.mj_base.specs.Writing.{AppendsFront}
use Rattle.mj_base.specs.declared.sink.WriteAnswer.{WriteAnswer}
use Rattle.mj_base.specs.declared.sink.WriteAnswer.TheVariants as writes
use Rattle.mj_copying.specs.declared.stop.Stop.{Stop}
use Rattle.mj_copying.specs.declared.stop.Stop.TheVariants as stops
use Rattle.mj_journal.specs.declared.fault.OpenFault.{OpenFault}
use Rattle.mj_journal.specs.declared.fault.OpenFault.TheVariants as opening
use Rattle.mj_words.specs.Lines.{AppendsLine, done_line, fault_read}
use Rattle.mj_words.specs.SinkCounts.{SinkCounts}
use Rattle.mj_copy_prog.specs.CopyLines.{fault_disk, no_answer_line, store_line}
use Rattle.mj_copy_prog.specs.declared.refusal.Refusal.{Refusal}
use Rattle.mj_copy_prog.specs.declared.refusal.Refusal.TheVariants as refusals
use Rattle.mj_copy_prog.specs.declared.status.Status.{Status}
use Rattle.mj_copy_prog.specs.declared.status.Status.TheVariants as statuses

-- what the write of `done N` makes of the status
abbrev pub status_after : WriteAnswer → Status
status_after writes.Done = statuses.Done
status_after writes.NoMemory = statuses.NoMemory
status_after writes.Failed = statuses.Write

-- `done N` was printed; there was no memory; or a front of it was, and the write failed
abbrev pub PrintsDone : ℕ → Option (List ℕ) → Option (List ℕ) → SinkCounts → SinkCounts → Status → Type 0
PrintsDone count old new before now statuses.Done = Appends old new (done_line count)
PrintsDone count old new before now statuses.Words = ⊥
PrintsDone count old new before now statuses.Store = ⊥
PrintsDone count old new before now statuses.NoMemory = Keeps old new
PrintsDone count old new before now statuses.Disk = ⊥
PrintsDone count old new before now statuses.Read = ⊥
PrintsDone count old new before now statuses.Write = Rose before.faults now.faults × AppendsFront old new (done_line count)
PrintsDone count old new before now statuses.NoAnswer = ⊥

-- this line was printed with this status, or there was no memory to make it
abbrev pub PrintsFault : Status → List ℕ → Option (List ℕ) → Option (List ℕ) → SinkCounts → SinkCounts → Status → Type 0
PrintsFault known line old new before now status = ((status ≡ known) × AppendsLine old new before now [] line) ⊎ ((status ≡ statuses.NoMemory) × Keeps old new)

abbrev pub GivesUp : ℕ → Option (List ℕ) → Option (List ℕ) → SinkCounts → SinkCounts → Status → Type 0
GivesUp count old new before now status = PrintsFault statuses.NoAnswer (no_answer_line count) old new before now status

abbrev pub Refuses : Refusal → Option (List ℕ) → Option (List ℕ) → SinkCounts → SinkCounts → Status → Type 0
Refuses refusal old new before now status = PrintsFault statuses.Store (store_line refusal) old new before now status

-- a run that broke off prints its cause, but nothing for want of memory or a failed write
abbrev pub Breaks : Stop → Option (List ℕ) → Option (List ℕ) → SinkCounts → SinkCounts → Status → Type 0
Breaks stops.NoMemory old new before now status = (status ≡ statuses.NoMemory) × Keeps old new
Breaks stops.Write old new before now status = (status ≡ statuses.Write) × Keeps old new
Breaks stops.Read old new before now status = (status ≡ statuses.Read) × AppendsLine old new before now [] fault_read
Breaks stops.Disk old new before now status = (status ≡ statuses.Disk) × AppendsLine old new before now [] fault_disk

-- why a file isn't opened
abbrev pub Unopened : OpenFault → Option (List ℕ) → Option (List ℕ) → SinkCounts → SinkCounts → Status → Type 0
Unopened opening.NotAStore old new before now status = Refuses refusals.NotAStore old new before now status
Unopened (opening.Version version) old new before now status = Refuses (refusals.Version version) old new before now status
Unopened (opening.Damaged at) old new before now status = Refuses (refusals.Damaged at) old new before now status
Unopened opening.NoMemory old new before now status = (status ≡ statuses.NoMemory) × Keeps old new
Unopened opening.DiskFault old new before now status = (status ≡ statuses.Disk) × AppendsLine old new before now [] fault_disk
