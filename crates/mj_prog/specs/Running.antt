-- How a run of the broker over a script ends.
use Rattle.std.specs.Prelude.{ℕ, ◌≡◌, ◌^◌, ⊤, Bool, true, false, List, [], length, Option, Result, Ok, Err}
use Rattle.std.specs.Io.KnownBytes.{Appends, Consumes}
use Rattle.mj_base.specs.declared.sink.WriteAnswer.{WriteAnswer}
use Rattle.mj_base.specs.declared.sink.WriteAnswer.TheVariants as writes
use Rattle.mj_base.specs.Rising.{Rose}
use Rattle.mj_disk.specs.DiskModel.{History, Turns}
use Rattle.mj_journal.specs.Opening.{KeepsFile}
use Rattle.mj_machine.specs.MachineState.{Machine}
use Rattle.mj_serve.specs.Faults.{IsUnserved}
use Rattle.mj_serve.specs.declared.fault.ServeFault.{ServeFault}
use Rattle.mj_serve.specs.declared.fault.ServeFault.TheVariants as faults
use Rattle.mj_serve.specs.declared.summary.Summary.{Summary}
use Rattle.mj_store.specs.Opening.{NoneLawful}
use Rattle.mj_prog.specs.declared.halt.Halt.{Halt}
use Rattle.mj_prog.specs.declared.halt.Halt.TheVariants as halts
use Rattle.mj_prog.specs.declared.halt.StoreFault.{StoreFault}
use Rattle.mj_prog.specs.declared.halt.StoreFault.TheVariants as stores
use Rattle.mj_prog.specs.declared.progress.Progress.{Progress}
use Rattle.mj_prog.specs.declared.script_ports.Stage.{Stage}
use Rattle.mj_prog.specs.declared.script_ports.Stage.TheVariants as stages
use Rattle.mj_prog.specs.Script.{WithText, AtUnlawful, IsLawful, script, ended_part}
use Rattle.mj_prog.specs.Made.{IsMadeWhole, Made, printed}
use Rattle.mj_prog.specs.ReplayTable.{IsCutOff, IsInput}

-- ---- why it ended

abbrev pub is_stopped : Stage → Bool
is_stopped stages.Going = false
is_stopped stages.Over = true
is_stopped (stages.Line number) = true
is_stopped stages.Unread = true
is_stopped stages.Unwritten = true

abbrev pub halt_at : Stage → Halt
halt_at stages.Going = halts.NoMemory
halt_at stages.Over = halts.Over
halt_at (stages.Line number) = halts.Line number
halt_at stages.Unread = halts.Read
halt_at stages.Unwritten = halts.Write

abbrev pub halt_for : ServeFault → Halt
halt_for faults.NotAStore = halts.Store stores.NotAStore
halt_for (faults.Version version) = halts.Store (stores.Version version)
halt_for (faults.Damaged at) = halts.Store (stores.Damaged at)
halt_for faults.DiskFault = halts.Disk
halt_for faults.NoMemory = halts.NoMemory

abbrev pub halt_after : Result Summary ServeFault → Stage → Halt
halt_after (Ok summary) stage = halt_at stage
halt_after (Err fault) stage = halt_for fault

-- a write that wasn't done comes first
abbrev pub halt_by : Result Summary ServeFault → Stage → WriteAnswer → Halt
halt_by answer stage writes.Done = halt_after answer stage
halt_by answer stage writes.NoMemory = halts.NoMemory
halt_by answer stage writes.Failed = halts.Write

-- the events that a run took which ended well
abbrev pub events_of : Result Summary ServeFault → ℕ
events_of (Ok summary) = summary.events
events_of (Err fault) = 0

-- ---- where it begins

-- nothing of the script was read
pub record IsFresh (p : Progress) : Type 0 where
  pub pending : p.pending.items ≡ []
  pub room : p.room ≡ 2 ^ 40
  pub lines : p.lines ≡ 0

-- ---- where it stands then

abbrev pub IsHalted : ℕ → Machine → Made → Option (List ℕ) → Option (List ℕ) → Option (List ℕ) → Option (List ℕ) → ℕ → Halt → Type 0
IsHalted lanes first made from left old new events halts.Over =
    (text : List ℕ) × IsInput from text × IsMadeWhole (script lanes text).events made × IsLawful (script lanes text).ending × (events ≡ length (script lanes text).events) × Appends old new (printed first made)
IsHalted lanes first made from left old new events (halts.Line number) =
    (text : List ℕ) × IsInput from text × IsMadeWhole (script lanes text).events made × ((script lanes text).ending ≡ AtUnlawful number) × Appends old new (printed first made)
IsHalted lanes first made from left old new events (halts.Store fault) = IsCutOff lanes first made from old new
IsHalted lanes first made from left old new events halts.Disk = Unit {0}
IsHalted lanes first made from left old new events halts.Read =
    (read : List ℕ) × Consumes from left read × IsMadeWhole (script lanes (ended_part read)).events made × ((script lanes (ended_part read)).ending ≡ WithText) × Appends old new (printed first made)
IsHalted lanes first made from left old new events halts.Write = IsCutOff lanes first made from old new
IsHalted lanes first made from left old new events halts.NoMemory = IsCutOff lanes first made from old new

-- ---- why it failed

-- the faults before and now: of the disk, of the source and of the sink
pub record FaultCounts : Type 0 where
  pub disk_before : ℕ
  pub disk_now : ℕ
  pub source_before : ℕ
  pub source_now : ℕ
  pub sink_before : ℕ

abbrev pub fault_counts : ℕ → ℕ → ℕ → ℕ → ℕ → FaultCounts
fault_counts disk_before disk_now source_before source_now sink_before =
    record { disk_before = disk_before; disk_now = disk_now; source_before = source_before; source_now = source_now; sink_before = sink_before }

-- a failure raised the count of its faults
abbrev pub HaltCause : FaultCounts → ℕ → Halt → Type 0
HaltCause counts sink_now halts.Over = ⊤
HaltCause counts sink_now (halts.Line number) = ⊤
HaltCause counts sink_now (halts.Store fault) = ⊤
HaltCause counts sink_now halts.Disk = Rose counts.disk_before counts.disk_now
HaltCause counts sink_now halts.Read = Rose counts.source_before counts.source_now
HaltCause counts sink_now halts.Write = Rose counts.sink_before sink_now
HaltCause counts sink_now halts.NoMemory = ⊤

-- ---- a file that is refused

abbrev pub served_fault : StoreFault → ServeFault
served_fault stores.NotAStore = faults.NotAStore
served_fault (stores.Version version) = faults.Version version
served_fault (stores.Damaged at) = faults.Damaged at

-- for what stands in it, of a disk that tells; and then it is as it was
pub record IsFileRefused (fault : StoreFault) (before after : Option History) : Type 0 where
  pub why : IsUnserved (served_fault fault) before after
  pub unlawful : NoneLawful before
  pub kept : Turns KeepsFile before after

-- no event was taken
abbrev pub IsUntaken : Halt → Type 0
IsUntaken halts.Over = ⊥
IsUntaken (halts.Line number) = ⊥
IsUntaken (halts.Store fault) = ⊤
IsUntaken halts.Disk = ⊤
IsUntaken halts.Read = ⊥
IsUntaken halts.Write = ⊥
IsUntaken halts.NoMemory = ⊤
