-- The numbers that the program exits with.
use Rattle.std.specs.Prelude.{ℕ, ◌≡◌, ◌⊎◌}
use Rattle.mj_gen.specs.declared.status.Status.{Status as GenStatus}
use Rattle.mj_gen.specs.declared.status.Status.TheVariants as gens
use Rattle.mj_prog.specs.declared.status.Status.{Status}
use Rattle.mj_prog.specs.declared.status.Status.TheVariants as statuses

abbrev pub code_of : Status → ℕ
code_of statuses.Done = 0
code_of statuses.Words = 1
code_of statuses.Line = 2
code_of statuses.Store = 3
code_of statuses.NoMemory = 4
code_of statuses.Disk = 5
code_of statuses.Read = 6
code_of statuses.Write = 7

-- the status of a load's run
abbrev pub status_as : GenStatus → Status
status_as gens.Done = statuses.Done
status_as gens.Store = statuses.Store
status_as gens.NoMemory = statuses.NoMemory
status_as gens.Disk = statuses.Disk
status_as gens.Write = statuses.Write

-- one of these numbers, or 12, where a transcript breaks a law
abbrev pub IsStatus : ℕ → Type 0
IsStatus number = ((status : Status) × (number ≡ code_of status)) ⊎ (number ≡ 12)
