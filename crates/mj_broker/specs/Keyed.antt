-- Elements of a list that have a number each: the first one of a number, its place, and it changed.
use Rattle.std.specs.Prelude.{ℕ, ◌≡◌, ◌==◌, if◌then◌else◌, List, [], ◌∷◌, slice_get, slice_set, Option, None, Some}
use Rattle.std.specs.List.{find}

abbrev pub first_of : {X : Type 0} → (X → ℕ) → ℕ → List X → Option X
first_of key n xs = find (λ x. key x == n) xs

abbrev pub changed_by : {X : Type 0} → (X → ℕ) → ℕ → (X → X) → List X → List X
changed_by key n f [] = []
changed_by key n f (x ∷ xs) = if key x == n then f x ∷ xs else x ∷ changed_by key n f xs

pub record IsFirstOf {X : Type 0} (key : X → ℕ) (n : ℕ) (xs : List X) (at : ℕ) (x : X) : Type 0 where
  pub here : slice_get xs at ≡ Some x
  pub found : first_of key n xs ≡ Some x
  pub changed_is : (f : X → X) → changed_by key n f xs ≡ slice_set xs at (f x)

pub record IsOfNone {X : Type 0} (key : X → ℕ) (n : ℕ) (xs : List X) : Type 0 where
  pub none : first_of key n xs ≡ None
  pub same : (f : X → X) → changed_by key n f xs ≡ xs

-- the place of the first one of this number, or None where there is none
abbrev pub IsPlaceIn : {X : Type 0} → (X → ℕ) → ℕ → List X → Option ℕ → Type 0
IsPlaceIn key n xs None = IsOfNone key n xs
IsPlaceIn {X = X} key n xs (Some at) = (x : X) × IsFirstOf key n xs at x
