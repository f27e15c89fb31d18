-- Numbers that rise.
use Rattle.std.proofs.Common.{ℕ, zero, suc, ◌<◌, ◌≤◌, List, [], ◌∷◌, ◌++◌, length, map, get_or, arith}
use Rattle.std.specs.List.{AllByRecursion}
use Rattle.std.specs.List.Sorted.{IsNonDecreasingBy}
use Rattle.mj_tickets.specs.Fold.{RisesTo}

pub rises_bound : (low : ℕ) (ns : List ℕ) (high : ℕ) → RisesTo low ns high → low ≤ high
rises_bound low [] high r = r
rises_bound low (n ∷ ns) high r = omega (arith, rises_bound n ns high r.1, r.0)

pub rises_weaker : (low lower : ℕ) (ns : List ℕ) (high : ℕ) → lower ≤ low → RisesTo low ns high → RisesTo lower ns high
rises_weaker low lower [] high le r = omega arith
rises_weaker low lower (n ∷ ns) high le r = (omega (arith, r.0), r.1)

-- one number more at the end
pub rises_push : (low : ℕ) (ns : List ℕ) (high n : ℕ) → high < n → RisesTo low ns high → RisesTo low (ns ++ n ∷ []) n
rises_push low [] high n above r = (omega arith, omega arith)
rises_push low (m ∷ ns) high n above r = (r.0, rises_push m ns high n above r.1)

pub all_above : (low : ℕ) (ns : List ℕ) (high : ℕ) → RisesTo low ns high → AllByRecursion (λ m. low < m) ns
all_above low [] high r = tt
all_above low (n ∷ ns) high r = (r.0, weaker n ns (omega (arith, r.0)) (all_above n ns high r.1))
  where
    weaker : (m : ℕ) (xs : List ℕ) → low ≤ m → AllByRecursion (λ x. m < x) xs → AllByRecursion (λ x. low < x) xs
    weaker m [] le all = tt
    weaker m (x ∷ xs) le all = (omega (arith, all.0), weaker m xs le all.1)

pub rises_apart : (low : ℕ) (ns : List ℕ) (high i j : ℕ) → RisesTo low ns high → i < j → j < length ns → get_or ns i 0 < get_or ns j 0
rises_apart low [] high i j r lt within = absurd (omega arith)
rises_apart low (n ∷ ns) high i zero r lt within = absurd (omega arith)
rises_apart low (n ∷ ns) high zero (suc j) r lt within = first n ns j r.1 (omega arith)
  where
    first : (m : ℕ) (ms : List ℕ) (k : ℕ) → RisesTo m ms high → k < length ms → m < get_or ms k 0
    first m [] k rest inside = absurd (omega arith)
    first m (x ∷ ms) zero rest inside = rest.0
    first m (x ∷ ms) (suc k) rest inside = omega (arith, first x ms k rest.1 (omega arith), rest.0)
rises_apart low (n ∷ ns) high (suc i) (suc j) r lt within = rises_apart n ns high i j r.1 (omega arith) (omega arith)

module _ {X : Type 0} (number : X → ℕ) where
  above_at : (low : ℕ) (xs : List X) (high j : ℕ) (d : X) → RisesTo low (map number xs) high → j < length xs → low < number (get_or xs j d)
  above_at low [] high j d r within = absurd (omega arith)
  above_at low (x ∷ xs) high zero d r within = r.0
  above_at low (x ∷ xs) high (suc j) d r within = omega (arith, above_at (number x) xs high j d r.1 (omega arith), r.0)

  pub rises_by : (low : ℕ) (xs : List X) (high : ℕ) → RisesTo low (map number xs) high → IsNonDecreasingBy number xs
  rises_by low [] high r i j d le within = absurd (omega arith)
  rises_by low (x ∷ xs) high r zero zero d le within = omega arith
  rises_by low (x ∷ xs) high r zero (suc j) d le within = omega (arith, above_at (number x) xs high j d r.1 (omega arith))
  rises_by low (x ∷ xs) high r (suc i) zero d le within = absurd (omega arith)
  rises_by low (x ∷ xs) high r (suc i) (suc j) d le within = rises_by (number x) xs high r.1 i j d (omega arith) (omega arith)
