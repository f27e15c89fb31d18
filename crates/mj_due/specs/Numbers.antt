-- Numbers in rising order.
use Rattle.std.specs.Prelude.{ℕ, zero, suc, ◌==◌, nat_le, Bool, false, if◌then◌else◌, List, [], ◌∷◌, Option, None, Some}
use Rattle.std.specs.Ordering.{nat_cmp}
use Rattle.std.specs.FinMap.Entries.{by_order}

-- the number in its place; one that is there stays alone
abbrev pub put_once : ℕ → List ℕ → List ℕ
put_once n [] = n ∷ []
put_once n (x ∷ xs) = by_order (nat_cmp n x) (n ∷ x ∷ xs) (x ∷ xs) (x ∷ put_once n xs)

-- the second numbers of these pairs, each put in its place
abbrev pub put_all : List ℕ → List (ℕ × ℕ) → List ℕ
put_all numbers [] = numbers
put_all numbers (p ∷ ps) = put_all (put_once p.1 numbers) ps

-- how many numbers in front are below n
abbrev pub place_in : ℕ → List ℕ → ℕ
place_in n [] = zero
place_in n (x ∷ xs) = if nat_le n x then zero else suc (place_in n xs)

-- what stands somewhere is this number
abbrev pub is_number : ℕ → Option ℕ → Bool
is_number n None = false
is_number n (Some x) = x == n
