-- What is said of a file that isn't compacted.
use Rattle.std.specs.Prelude.{ℕ, List, ◌++◌, codes}
use Rattle.std.specs.Fmt.{decimal}
use Rattle.mj_journal.specs.declared.fault.OpenFault.{OpenFault}
use Rattle.mj_journal.specs.declared.fault.OpenFault.TheVariants as opening
use Rattle.mj_compact.specs.declared.fault.CompactFault.{CompactFault}
use Rattle.mj_compact.specs.declared.fault.CompactFault.TheVariants as faults
use Rattle.mj_compact_prog.specs.declared.halt.Halt.{Halt}
use Rattle.mj_compact_prog.specs.declared.halt.Halt.TheVariants as halts
use Rattle.mj_compact_prog.specs.declared.halt.Refusal.{Refusal}
use Rattle.mj_compact_prog.specs.declared.halt.Refusal.TheVariants as refusals

abbrev pub unopened : OpenFault → Halt
unopened opening.NotAStore = halts.Refused refusals.NotAStore
unopened (opening.Version version) = halts.Refused (refusals.Version version)
unopened (opening.Damaged at) = halts.Refused (refusals.Damaged at)
unopened opening.NoMemory = halts.NoMemory
unopened opening.DiskFault = halts.Disk

abbrev pub halt_of : CompactFault → Halt
halt_of (faults.Unopened fault) = unopened fault
halt_of faults.Numbers = halts.Refused refusals.Numbers
halt_of faults.NotEmpty = halts.Refused refusals.NotEmpty
halt_of (faults.Damaged at) = halts.Refused (refusals.Damaged at)
halt_of faults.NoMemory = halts.NoMemory
halt_of faults.DiskFault = halts.Disk

-- ---- lines

-- why a file is refused
abbrev pub store_line : Refusal → List ℕ
store_line refusals.NotAStore = codes "fault store not-a-store\n"
store_line (refusals.Version version) = codes "fault store version " ++ (decimal version ++ codes "\n")
store_line (refusals.Damaged at) = codes "fault store damaged " ++ (decimal at ++ codes "\n")
store_line refusals.Numbers = codes "fault store numbers\n"
store_line refusals.NotEmpty = codes "fault store not-empty\n"

abbrev pub fault_disk : List ℕ
fault_disk = codes "fault disk\n"
