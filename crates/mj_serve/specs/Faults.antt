-- Why a run ended early.
use Rattle.std.specs.Prelude.{Option}
use Rattle.mj_disk.specs.DiskModel.{History}
use Rattle.mj_journal.specs.declared.fault.OpenFault.{OpenFault}
use Rattle.mj_journal.specs.declared.fault.OpenFault.TheVariants as opening
use Rattle.mj_store.specs.Opening.{IsUnopened}
use Rattle.mj_serve.specs.declared.fault.ServeFault.{ServeFault}
use Rattle.mj_serve.specs.declared.fault.ServeFault.TheVariants as faults

-- the file was refused
abbrev pub IsFileFault : ServeFault → Type 0
IsFileFault faults.NotAStore = Unit {0}
IsFileFault (faults.Version version) = Unit {0}
IsFileFault (faults.Damaged at) = Unit {0}
IsFileFault faults.DiskFault = ⊥
IsFileFault faults.NoMemory = ⊥

-- why it was refused, by what stood in it
abbrev pub IsUnserved : ServeFault → Option History → Option History → Type 0
IsUnserved faults.NotAStore before after = IsUnopened opening.NotAStore before after
IsUnserved (faults.Version version) before after = IsUnopened (opening.Version version) before after
IsUnserved (faults.Damaged at) before after = IsUnopened (opening.Damaged at) before after
IsUnserved faults.DiskFault before after = Unit {0}
IsUnserved faults.NoMemory before after = Unit {0}

abbrev pub served_as : OpenFault → ServeFault
served_as opening.NotAStore = faults.NotAStore
served_as (opening.Version version) = faults.Version version
served_as (opening.Damaged at) = faults.Damaged at
served_as opening.DiskFault = faults.DiskFault
served_as opening.NoMemory = faults.NoMemory
