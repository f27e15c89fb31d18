-- What is printed at the end, and the status that it ends with.
use Rattle.std.specs.Prelude.{ℕ, ◌≡◌, ◌⊎◌, List, [], Option, Result, Ok, Err}
use Rattle.std.specs.Io.KnownBytes.{Appends, Keeps}
use Rattle.mj_base.specs.Rising.{Rose}
use Rattle.mj_base.specs.Writing.{AppendsFront}
use Rattle.mj_base.specs.declared.sink.WriteAnswer.{WriteAnswer}
use Rattle.mj_base.specs.declared.sink.WriteAnswer.TheVariants as writes
use Rattle.mj_words.specs.Lines.{AppendsLine, done_line}
use Rattle.mj_words.specs.SinkCounts.{SinkCounts}
use Rattle.mj_compact.specs.declared.fault.CompactFault.{CompactFault}
use Rattle.mj_compact_prog.specs.Halts.{fault_disk, halt_of, store_line}
use Rattle.mj_compact_prog.specs.declared.halt.Halt.{Halt}
use Rattle.mj_compact_prog.specs.declared.halt.Halt.TheVariants as halts
use Rattle.mj_compact_prog.specs.declared.halt.Refusal.{Refusal}
use Rattle.mj_compact_prog.specs.declared.status.Status.{Status}
use Rattle.mj_compact_prog.specs.declared.status.Status.TheVariants as statuses

-- what the write of `done N` makes of the status
abbrev pub status_after : WriteAnswer → Status
status_after writes.Done = statuses.Done
status_after writes.NoMemory = statuses.NoMemory
status_after writes.Failed = statuses.Write

-- `done N` was printed; there was no memory; or a front of it was, and the write failed
abbrev pub PrintsDone : ℕ → Option (List ℕ) → Option (List ℕ) → SinkCounts → SinkCounts → Status → Type 0
PrintsDone count old new before now statuses.Done = Appends old new (done_line count)
PrintsDone count old new before now statuses.Words = ⊥
PrintsDone count old new before now statuses.Store = ⊥
PrintsDone count old new before now statuses.NoMemory = Keeps old new
PrintsDone count old new before now statuses.Disk = ⊥
PrintsDone count old new before now statuses.Write = Rose before.faults now.faults × AppendsFront old new (done_line count)

-- why a file is refused was printed, or there was no memory to make the line
abbrev pub Refuses : Refusal → Option (List ℕ) → Option (List ℕ) → SinkCounts → SinkCounts → Status → Type 0
Refuses refusal old new before now status = ((status ≡ statuses.Store) × AppendsLine old new before now [] (store_line refusal)) ⊎ ((status ≡ statuses.NoMemory) × Keeps old new)

abbrev pub Halts : Halt → Option (List ℕ) → Option (List ℕ) → SinkCounts → SinkCounts → Status → Type 0
Halts (halts.Refused refusal) old new before now status = Refuses refusal old new before now status
Halts halts.NoMemory old new before now status = (status ≡ statuses.NoMemory) × Keeps old new
Halts halts.Disk old new before now status = (status ≡ statuses.Disk) × AppendsLine old new before now [] fault_disk

abbrev pub Ends : Result ℕ CompactFault → Option (List ℕ) → Option (List ℕ) → SinkCounts → SinkCounts → Status → Type 0
Ends (Ok count) old new before now status = PrintsDone count old new before now status
Ends (Err fault) old new before now status = Halts (halt_of fault) old new before now status
