-- How far a source is read: no further than the piece in which the script stops.
use Rattle.std.specs.Prelude.{ℕ, ◌≡◌, ◌+◌, ◌<◌, ◌≤◌, ◌⊎◌, List, Option}
use Rattle.std.specs.Io.KnownBytes.{Consumes}
use Rattle.mj_prog.specs.Script.{WithText, script, ended_part}

-- of the bytes in front of what is left then, each whole line is an event or nothing
abbrev pub IsBehindEvents : ℕ → Option (List ℕ) → Option (List ℕ) → Type 0
IsBehindEvents lanes from last =
    (read : List ℕ) × Consumes from last read × ((script lanes (ended_part read)).ending ≡ WithText)

-- what was left as the last read began, before and now: there was no read, or the last one began behind such lines alone
abbrev pub ReadsNoFurther : ℕ → Option (List ℕ) → Option (List ℕ) → Option (List ℕ) → Type 0
ReadsNoFurther lanes from before now = (now ≡ before) ⊎ IsBehindEvents lanes from now

-- the bytes that may still be read, and the reads that gave nothing, each before and now: behind such a read there is none
pub record StopsReading (room left misses now : ℕ) : Type 0 where
  pub ended : room ≡ 0 → (left ≡ 0) × (now ≡ misses)
  pub going : 0 < left → now ≡ misses
  pub most : now ≤ misses + 1
