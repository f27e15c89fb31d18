-- The ends of a chain that are kept as three numbers, since a hall's own fields are numbers and rows alone.
use Rattle.std.specs.Prelude.{◌≡◌, ℕ, ◌==◌, if◌then◌else◌, List, length, None, Some}
use Rattle.mj_chain.specs.declared.node.Ends.{Ends}
use Rattle.mj_chain.specs.Links.{ends_of}
use Rattle.mj_chain.specs.Seats.{Seat, seat_key}

-- none where the count is 0
abbrev pub ends_from : ℕ → ℕ → ℕ → Ends
ends_from first last count = if count == 0 then record { first = None; last = None } else record { first = Some first; last = Some last }

-- these are the ends of this list, and its length
pub record EndsAre {T : Type 0} (first last count : ℕ) (xs : List (Seat T)) : Type 0 where
  pub ends : ends_from first last count ≡ ends_of seat_key xs
  pub len : count ≡ length xs
