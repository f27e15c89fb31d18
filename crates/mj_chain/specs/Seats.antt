-- Lists of things with keys: where a key stands, and what stands beside it.
use Rattle.std.specs.Prelude.{ℕ, ◌==◌, Bool, true, false, not, ◌&&◌, ◌||◌, if◌then◌else◌, List, [], ◌∷◌, Option, None, Some}
use Rattle.std.specs.List.{filter}

-- a value that stands in a row of this key
pub record Seat (T : Type 0) : Type 0 where
  pub key : ℕ
  pub value : T

abbrev pub seat_key : {T : Type 0} → Seat T → ℕ
seat_key s = s.key

-- the key j stands here
abbrev pub is_key : ℕ → Option ℕ → Bool
is_key j None = false
is_key j (Some k) = k == j

abbrev pub is_no_key : Option ℕ → Bool
is_no_key None = true
is_no_key (Some k) = false

module _ {X : Type 0} (key : X → ℕ) where
  -- the first key, or None
  abbrev pub head_of : List X → Option ℕ
  head_of [] = None
  head_of (x ∷ xs) = Some (key x)

  -- the last key, or `before` where there is none
  abbrev pub last_from : Option ℕ → List X → Option ℕ
  last_from before [] = before
  last_from before (x ∷ xs) = last_from (Some (key x)) xs

  -- the key behind k, or None
  abbrev pub next_in : ℕ → List X → Option ℕ
  next_in k [] = None
  next_in k (x ∷ xs) = if key x == k then head_of xs else next_in k xs

  -- the key in front of k, where `before` stands in front of the list; None where k isn't there
  abbrev pub prev_from : Option ℕ → ℕ → List X → Option ℕ
  prev_from before k [] = None
  prev_from before k (x ∷ xs) = if key x == k then before else prev_from (Some (key x)) k xs

  abbrev pub has_key : ℕ → List X → Bool
  has_key k [] = false
  has_key k (x ∷ xs) = (key x == k) || has_key k xs

  abbrev pub are_distinct : List X → Bool
  are_distinct [] = true
  are_distinct (x ∷ xs) = not (has_key (key x) xs) && are_distinct xs

  abbrev pub take_out : ℕ → List X → List X
  take_out k xs = filter (λ x. not (key x == k)) xs

module _ {T : Type 0} where
  -- the value at the key k
  abbrev pub found : ℕ → List (Seat T) → Option T
  found k [] = None
  found k (s ∷ ss) = if s.key == k then Some s.value else found k ss
