-- The place of a connection among those that stand by rising number.
use Rattle.std.proofs.Common.{◌≡◌, ◌≢◌, ◌<◌, ◌≤◌, ◌==◌, ℕ, zero, suc, Bool, true, false, cond, List, [], ◌∷◌, length, get_or, slice_get, is_some, ltb, Some, refl, ap, subst, arith}
use Rattle.std.proofs.lemmas.Bool.Decides.{nat_tests}
use Rattle.std.proofs.lemmas.Bool.{ltb-true, ltb-false}
use Rattle.std.specs.List.Sorted.{IsPartitionPoint}
use Rattle.mj_machine.specs.declared.connection.Connection.{Connection}
use Rattle.mj_machine.specs.Connections.{connection_of}
use Rattle.mj_machine.proofs.ConnectionLemmas.{differs, equal}
use Rattle.mj_routing.specs.Lanes.{AllAbove, IsSplit, Rise}
use Rattle.mj_routing.specs.Places.{IsNowhere, IsPlaceOf}

-- ---- the numbers rise

above-at : (n : ℕ) (cs : List Connection) (j : ℕ) (d : Connection) → AllAbove n cs → j < length cs → n < (get_or cs j d).number
above-at n [] j d above within = absurd (omega arith)
above-at n (c ∷ cs) zero d above within = above.0
above-at n (c ∷ cs) (suc j) d above within = above-at n cs j d above.1 (omega arith)

pub rises-by : (cs : List Connection) → Rise cs → (i j : ℕ) (d : Connection) → i ≤ j → j < length cs → (get_or cs i d).number ≤ (get_or cs j d).number
rises-by [] rise i j d le within = absurd (omega arith)
rises-by (c ∷ cs) rise zero zero d le within = omega arith
rises-by (c ∷ cs) rise zero (suc j) d le within = let more = above-at c.number cs j d rise.0 (omega arith) in omega (arith, more)
rises-by (c ∷ cs) rise (suc i) zero d le within = absurd (omega arith)
rises-by (c ∷ cs) rise (suc i) (suc j) d le within = rises-by cs rise.1 i j d (omega arith) (omega arith)

pub above-weaker : (m n : ℕ) (cs : List Connection) → m ≤ n → AllAbove n cs → AllAbove m cs
above-weaker m n [] le above = tt
above-weaker m n (c ∷ cs) le above = let more : n < c.number = above.0 in (omega (arith, le, more), above-weaker m n cs le above.1)

-- ---- a split

split : (n : ℕ) (cs : List Connection) (at : ℕ) → at ≤ length cs → ((k : ℕ) (d : Connection) → k < at → k < length cs → (get_or cs k d).number < n)
    → ((k : ℕ) (d : Connection) → at ≤ k → k < length cs → n ≤ (get_or cs k d).number) → IsSplit n cs at
split n [] zero within below above = tt
split n [] (suc at) within below above = absurd (omega arith)
split n (c ∷ cs) zero within below above = above 0 c (omega arith) (omega arith)
split n (c ∷ cs) (suc at) within below above = (
  below 0 c (omega arith) (omega arith),
  split n cs at (omega arith) (λ k d less inside. below (suc k) d (omega arith) (omega arith)) (λ k d le inside. above (suc k) d (omega arith) (omega arith)),
)

pub split-at : (n : ℕ) (cs : List Connection) (at : ℕ) → at ≤ length cs → IsPartitionPoint (λ (c : Connection). ltb c.number n ≡ true) (λ (c : Connection). ltb c.number n ≡ false) cs at → IsSplit n cs at
split-at n cs at within point = split n cs at within (λ k d less inside. ltb-true _ _ (point.0 k d (omega arith) less)) (λ k d le inside. ltb-false _ _ (point.1 k d le inside))

-- ---- numbers above are others

pub nowhere-above : (n : ℕ) (cs : List Connection) → AllAbove n cs → IsNowhere n cs
nowhere-above n [] above = record { none = refl; same = λ f. refl; whole = refl }
nowhere-above n (c ∷ cs) above =
    let apart : (c.number == n) ≡ false = differs c.number n (λ e. let lt : n < c.number = above.0 in absurd (omega (arith, lt, e))) in
    let rest = nowhere-above n cs above.1 in
    record { none = rw apart rest.none; same = λ f. rw apart (ap (λ (ds : List Connection). c ∷ ds) (rest.same f)); whole = rw apart (ap (λ (ds : List Connection). c ∷ ds) rest.whole) }

behind : (n : ℕ) (c : Connection) (cs : List Connection) → (c.number == n) ≡ false → IsNowhere n cs → IsNowhere n (c ∷ cs)
behind n c cs apart rest = record {
  none = rw apart rest.none;
  same = λ f. rw apart (ap (λ (ds : List Connection). c ∷ ds) (rest.same f));
  whole = rw apart (ap (λ (ds : List Connection). c ∷ ds) rest.whole);
}

below-apart : (n : ℕ) (c : Connection) → c.number < n → (c.number == n) ≡ false
below-apart n c less = differs c.number n (λ e. absurd (omega (arith, less, e)))

-- ---- what stands at the place

pub place-here : (n : ℕ) (cs : List Connection) (at : ℕ) (d : Connection) → Rise cs → IsSplit n cs at → at < length cs → (get_or cs at d).number ≡ n → (c : Connection) × IsPlaceOf n cs at c
place-here n [] at d rise split inside is = absurd (omega arith)
place-here n (c ∷ cs) zero d rise split inside is =
    let same : (c.number == n) ≡ true = subst (λ (k : ℕ). (c.number == k) ≡ true) is (equal c.number) in
    let rest = nowhere-above n cs (subst (λ (k : ℕ). AllAbove k cs) is rise.0) in
    (c, record { here = refl; found = rw same refl; changed_is = λ f. rw same refl; without_is = rw same rest.whole })
place-here n (c ∷ cs) (suc at) d rise split inside is =
    let apart = below-apart n c split.0 in
    let rest = place-here n cs at d rise.1 split.1 (omega arith) is in (
      rest.0,
      record {
        here = rest.1.here;
        found = rw apart rest.1.found;
        changed_is = λ f. rw apart (ap (λ (ds : List Connection). c ∷ ds) (rest.1.changed_is f));
        without_is = rw apart (ap (λ (ds : List Connection). c ∷ ds) rest.1.without_is);
      },
    )

-- another stands there
pub place-other : (n : ℕ) (cs : List Connection) (at : ℕ) (d : Connection) → Rise cs → IsSplit n cs at → at < length cs → (get_or cs at d).number ≢ n → IsNowhere n cs
place-other n [] at d rise split inside other = absurd (omega arith)
place-other n (c ∷ cs) zero d rise split inside other =
    let least : n ≤ c.number = split in
    let above : n < c.number = below n c.number least other in
    nowhere-above n (c ∷ cs) (above, above-weaker n c.number cs least rise.0)
  where
    below : (a b : ℕ) → a ≤ b → b ≢ a → a < b
    below a b le apart = grind (arith, nat_tests)
place-other n (c ∷ cs) (suc at) d rise split inside other = behind n c cs (below-apart n c split.0) (place-other n cs at d rise.1 split.1 (omega arith) other)

-- nobody stands there
pub place-end : (n : ℕ) (cs : List Connection) (at : ℕ) → IsSplit n cs at → length cs ≤ at → IsNowhere n cs
place-end n [] at split over = record { none = refl; same = λ f. refl; whole = refl }
place-end n (c ∷ cs) zero split over = absurd (omega arith)
place-end n (c ∷ cs) (suc at) split over = behind n c cs (below-apart n c split.0) (place-end n cs at split.1 (omega arith))

pub at-place : {X : Type 0} (xs : List X) (at : ℕ) (x d : X) → slice_get xs at ≡ Some x → get_or xs at d ≡ x
at-place [] zero x d e = cc
at-place [] (suc at) x d e = cc
at-place (y ∷ ys) zero x d e = cc
at-place (y ∷ ys) (suc at) x d e = at-place ys at x d e

-- a connection that stands at some place is there
pub found-at : (n : ℕ) (cs : List Connection) (at : ℕ) (d : Connection) → at < length cs → (get_or cs at d).number ≡ n → is_some (connection_of n cs) ≡ true
found-at n [] at d inside is = absurd (omega arith)
found-at n (c ∷ cs) at d inside is = by (c.number == n) refl at inside is (λ k more there. found-at n cs k d more there)
  where
    by : (b : Bool) → (c.number == n) ≡ b → (at : ℕ) → at < suc (length cs) → (get_or (c ∷ cs) at d).number ≡ n
        → ((k : ℕ) → k < length cs → (get_or cs k d).number ≡ n → is_some (connection_of n cs) ≡ true) → is_some (cond b (Some c) (connection_of n cs)) ≡ true
    by true e at inside is rest = refl
    by false e zero inside is rest = let same : (c.number == n) ≡ true = grind (arith, nat_tests) in cc
    by false e (suc at) inside is rest = rest at (omega arith) is
