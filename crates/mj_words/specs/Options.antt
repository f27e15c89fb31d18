-- Options among the words of a command line: each is two words, its name and its value.
use Rattle.std.specs.Prelude.{ℕ, ◌≡◌, ◌≤◌, ◌<◌, ◌&&◌, ◌||◌, Bool, true, false, nat_le, List, [], ◌∷◌, length, slice_index_or, Option, Some, None, if◌then◌else◌}
use Rattle.std.specs.Str.{bytes_eq}
use Rattle.mj_words.specs.Numbers.{number_of}
use Rattle.mj_words.specs.declared.options.Found.{Found}
use Rattle.mj_words.specs.declared.options.Found.TheVariants as founds

-- one of these names
abbrev pub is_among : List ℕ → List ℕ → List ℕ → List ℕ → Bool
is_among one two three name = bytes_eq name one || (bytes_eq name two || bytes_eq name three)

-- each option's name is known
abbrev pub are_options : (List ℕ → Bool) → List (List ℕ) → Bool
are_options known [] = true
are_options known (word ∷ []) = false
are_options known (name ∷ value ∷ more) = known name && are_options known more

-- the values of the option with this name
abbrev pub values_of : List ℕ → List (List ℕ) → List (List ℕ)
values_of name [] = []
values_of name (word ∷ []) = []
values_of name (other ∷ value ∷ more) = if bytes_eq other name then value ∷ values_of name more else values_of name more

-- an option is given at most once; this stands for it where it isn't given
abbrev pub once_or : {A : Type 0} → A → (List ℕ → Option A) → List (List ℕ) → Option A
once_or default read [] = Some default
once_or default read (value ∷ []) = read value
once_or default read (value ∷ other ∷ more) = None

abbrev pub between : ℕ → ℕ → Option ℕ → Option ℕ
between least most None = None
between least most (Some n) = if nat_le least n && nat_le n most then Some n else None

-- a number from the least to the most
abbrev pub number_between : ℕ → ℕ → List ℕ → Option ℕ
number_between least most text = between least most (number_of text)

-- ---- the search for a value

-- the values are the one that was found among the words, and then the rest
abbrev pub IsFound : List (List ℕ) → Found → List (List ℕ) → List (List ℕ) → Type 0
IsFound words founds.Nowhere rest values = values ≡ rest
IsFound words (founds.At place) rest values = (place < length words) × (values ≡ slice_index_or words place [] ∷ rest)
IsFound words founds.Twice rest values = 2 ≤ length values

-- one more value, at this place
abbrev pub found_after : Found → ℕ → Found
found_after founds.Nowhere place = founds.At place
found_after (founds.At first) place = founds.Twice
found_after founds.Twice place = founds.Twice
