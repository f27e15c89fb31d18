-- Counts of faults, which stop at the greatest number that they can hold.
use Rattle.std.specs.Prelude.{ℕ, ◌+◌, ◌-◌, ◌^◌, ◌≤◌, min}

-- one more
abbrev pub risen : ℕ → ℕ
risen count = min (count + 1) (2 ^ 64 - 1)

-- the count is larger than before, or stands at its greatest value
abbrev pub Rose : ℕ → ℕ → Type 0
Rose before now = risen before ≤ now
