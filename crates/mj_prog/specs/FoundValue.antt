-- What the search for the value of an option gives.
use Rattle.std.specs.Prelude.{ℕ, ◌≡◌, ◌≤◌, ◌<◌, List, [], ◌∷◌, length, slice_index_or}
use Rattle.mj_prog.specs.declared.words.Found.{Found}
use Rattle.mj_prog.specs.declared.words.Found.TheVariants as founds

-- the values are the one that was found among the words, and then the rest
abbrev pub IsFound : List (List ℕ) → Found → List (List ℕ) → List (List ℕ) → Type 0
IsFound words founds.Nowhere rest values = values ≡ rest
IsFound words (founds.At place) rest values = (place < length words) × (values ≡ slice_index_or words place [] ∷ rest)
IsFound words founds.Twice rest values = 2 ≤ length values

-- one more value, at this place
abbrev pub found_after : Found → ℕ → Found
found_after founds.Nowhere place = founds.At place
found_after (founds.At first) place = founds.Twice
found_after founds.Twice place = founds.Twice
