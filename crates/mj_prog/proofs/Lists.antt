-- Laws of lists.
use Rattle.std.proofs.Common.{◌≡◌, ◌≤◌, ℕ, zero, suc, List, [], ◌∷◌, length, take, drop, refl, ap, arith}

pub take-all : (n : ℕ) (xs : List ℕ) → length xs ≤ n → take n xs ≡ xs
take-all zero [] few = refl
take-all zero (x ∷ xs) few = absurd (omega arith)
take-all (suc n) [] few = refl
take-all (suc n) (x ∷ xs) few = ap (λ (ys : List ℕ). x ∷ ys) (take-all n xs (omega arith))

pub drop-all : (xs : List ℕ) → drop (length xs) xs ≡ []
drop-all [] = refl
drop-all (x ∷ xs) = drop-all xs
