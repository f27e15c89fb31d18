-- The numbers that the program exits with.
use Rattle.std.specs.Prelude.{ℕ, ◌≡◌}
use Rattle.mj_gen.specs.declared.status.Status.{Status}
use Rattle.mj_gen.specs.declared.status.Status.TheVariants as statuses

abbrev pub code_of : Status → ℕ
code_of statuses.Done = 0
code_of statuses.Store = 3
code_of statuses.NoMemory = 4
code_of statuses.Disk = 5
code_of statuses.Write = 7

-- one of these numbers
abbrev pub IsStatus : ℕ → Type 0
IsStatus number = (status : Status) × (number ≡ code_of status)
