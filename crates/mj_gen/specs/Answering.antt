-- How a run of the load ended.
use Rattle.std.specs.Prelude.{Bool, true, false, Option, Some, None, Result, Ok, Err}
use Rattle.mj_serve.specs.declared.fault.ServeFault.{ServeFault}
use Rattle.mj_serve.specs.declared.fault.ServeFault.TheVariants.{DiskFault, NoMemory}
use Rattle.mj_serve.specs.declared.summary.Summary.{Summary}
use Rattle.mj_gen.specs.declared.counts.Counts.{Counts}

abbrev pub counts_or : Option Counts → Result Counts ServeFault
counts_or None = Err NoMemory
counts_or (Some counts) = Ok counts

-- an act on the disk that failed comes first, then a number that is too large
abbrev pub answered : Result Summary ServeFault → Bool → Option Counts → Result Counts ServeFault
answered (Ok summary) true counts = Err DiskFault
answered (Ok summary) false counts = counts_or counts
answered (Err fault) shut counts = Err fault
