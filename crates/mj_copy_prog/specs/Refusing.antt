-- What is said of a file that isn't opened.
use Rattle.std.specs.Prelude.{Option, None, Some}
use Rattle.mj_journal.specs.declared.fault.OpenFault.{OpenFault}
use Rattle.mj_journal.specs.declared.fault.OpenFault.TheVariants as opening
use Rattle.mj_copy_prog.specs.declared.refusal.Refusal.{Refusal}
use Rattle.mj_copy_prog.specs.declared.refusal.Refusal.TheVariants as refusals

-- None where it isn't refused for what stands in it
abbrev pub refusal_of : OpenFault → Option Refusal
refusal_of opening.NotAStore = Some refusals.NotAStore
refusal_of (opening.Version version) = Some (refusals.Version version)
refusal_of (opening.Damaged at) = Some (refusals.Damaged at)
refusal_of opening.NoMemory = None
refusal_of opening.DiskFault = None
