-- Pairs of numbers in rising order: by the first number, and where these are equal by the second.
use Rattle.std.specs.Prelude.{◌≡◌, ◌<◌, slice_get, ℕ, ◌==◌, nat_lt, Bool, true, false, ◌&&◌, ◌||◌, List, [], ◌∷◌, Option, None, Some, length}
use Rattle.std.specs.List.{list_all, filter}

abbrev pub same_pair : ℕ × ℕ → ℕ × ℕ → Bool
same_pair p q = (p.0 == q.0) && (p.1 == q.1)

abbrev pub is_below : ℕ × ℕ → ℕ × ℕ → Bool
is_below p q = nat_lt p.0 q.0 || ((p.0 == q.0) && nat_lt p.1 q.1)

-- each pair is below all behind it
abbrev pub is_rising : List (ℕ × ℕ) → Bool
is_rising [] = true
is_rising (p ∷ ps) = list_all (is_below p) ps && is_rising ps

abbrev pub has_pair : ℕ × ℕ → List (ℕ × ℕ) → Bool
has_pair p [] = false
has_pair p (q ∷ qs) = same_pair p q || has_pair p qs

-- what stands somewhere is this pair
abbrev pub is_pair : ℕ × ℕ → Option (ℕ × ℕ) → Bool
is_pair p None = false
is_pair p (Some q) = same_pair p q

-- what stands somewhere is a pair of this number
abbrev pub is_of : ℕ → Option (ℕ × ℕ) → Bool
is_of n None = false
is_of n (Some q) = q.0 == n

-- how many pairs are below this one
abbrev pub below : ℕ × ℕ → List (ℕ × ℕ) → ℕ
below p pairs = length (filter (λ q. is_below q p) pairs)

-- a pair is there, nothing is below it where it stands first, and what stands behind it is above it
pub record StandsAt (pairs : List (ℕ × ℕ)) (at : ℕ) (p : ℕ × ℕ) : Type 0 where
  pub there : has_pair p pairs ≡ true
  pub least : at ≡ 0 → (q : ℕ × ℕ) → is_below q p ≡ true → has_pair q pairs ≡ false
  pub behind : (i : ℕ) (q : ℕ × ℕ) → at < i → slice_get pairs i ≡ Some q → is_below p q ≡ true

-- different pairs in rising order, and how many more there is room for
pub record Pairs : Type 0 where
  pub pairs : List (ℕ × ℕ)
  pub spare : ℕ
