-- The lanes, by number.
use Rattle.std.specs.Prelude.{ℕ, ◌≡◌, ◌≢◌, List, Option, None, slice_index_or}
use Rattle.mj_audit.specs.declared.lane.Lane.{Lane}

-- who is on a lane
abbrev pub slot_of : List (Option Lane) → ℕ → Option Lane
slot_of lanes lane = slice_index_or lanes lane None

abbrev pub KeepsOthers : ℕ → List (Option Lane) → List (Option Lane) → Type 0
KeepsOthers lane old new = (other : ℕ) → other ≢ lane → slot_of new other ≡ slot_of old other
