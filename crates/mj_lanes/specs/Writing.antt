-- What is written of pieces without waiting.
use Rattle.std.specs.Prelude.{ℕ, ◌≤◌, List, ◌++◌, length, take, drop, Option}
use Rattle.std.specs.List.{concat}
use Rattle.std.specs.Io.KnownBytes.{Appends}

-- so many bytes of the piece behind so many
abbrev pub front_of_next : List (List ℕ) → ℕ → ℕ → List ℕ
front_of_next pieces whole at = take at (concat (take 1 (drop whole pieces)))

-- so many pieces were written whole, and so many bytes of the next one
abbrev pub WritesNow : Option (List ℕ) → Option (List ℕ) → ℕ → ℕ → List (List ℕ) → Type 0
WritesNow old new whole at pieces = (whole ≤ length pieces) × Appends old new (concat (take whole pieces) ++ front_of_next pieces whole at)
