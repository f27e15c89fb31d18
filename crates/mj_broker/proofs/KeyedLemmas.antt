-- The place of the first element of a number.
use Rattle.std.proofs.Common.{◌≡◌, ◌+◌, ◌<◌, ◌≤◌, ◌==◌, ℕ, zero, suc, Bool, true, false, not, nat_lt, cond, List, [], ◌∷◌, length, None, Some, refl, sym, ap, subst, arith}
use Rattle.std.specs.List.{position, position_or_len}
use Rattle.std.proofs.lemmas.Bool.Decides.{nat_tests}
use Rattle.mj_broker.specs.Keyed.{IsFirstOf, IsOfNone, IsPlaceIn}

module _ {X : Type 0} (key : X → ℕ) where
  abbrev test : ℕ → X → Bool
  test n x = key x == n

  abbrev IsFirst : ℕ → List X → ℕ → Type 0
  IsFirst n xs at = (x : X) × IsFirstOf key n xs at x

  first-there : (n : ℕ) (x : X) (xs : List X) → (key x == n) ≡ true → IsFirst n (x ∷ xs) zero
  first-there n x xs e = (x, record { here = refl; found = rw e refl; changed_is = λ f. rw e refl })

  first-behind : (n : ℕ) (x : X) (xs : List X) (at : ℕ) → (key x == n) ≡ false → IsFirst n xs at → IsFirst n (x ∷ xs) (suc at)
  first-behind n x xs at e is = (
    is.0,
    record {
      here = is.1.here;
      found = rw e is.1.found;
      changed_is = λ f. rw e (ap (λ (ys : List X). x ∷ ys) (is.1.changed_is f));
    },
  )

  first : (n : ℕ) (xs : List X) → position_or_len (test n) xs < length xs → IsFirst n xs (position_or_len (test n) xs)
  first n [] some = absurd (omega arith)
  first n (x ∷ xs) some = by (key x == n) refl some (first n xs)
    where
      by : (b : Bool) → (key x == n) ≡ b → cond (not b) (1 + position_or_len (test n) xs) 0 < suc (length xs)
          → (position_or_len (test n) xs < length xs → IsFirst n xs (position_or_len (test n) xs)) → IsFirst n (x ∷ xs) (cond (not b) (1 + position_or_len (test n) xs) 0)
      by true e h rest = first-there n x xs e
      by false e h rest =
          let one_more : 1 + position_or_len (test n) xs ≡ suc (position_or_len (test n) xs) = omega arith in
          subst (λ (at : ℕ). IsFirst n (x ∷ xs) at) (sym one_more) (first-behind n x xs (position_or_len (test n) xs) e (rest (omega arith)))

  none : (n : ℕ) (xs : List X) → length xs ≤ position_or_len (test n) xs → IsOfNone key n xs
  none n [] over = record { none = refl; same = λ f. refl }
  none n (x ∷ xs) over = by (key x == n) refl over (none n xs)
    where
      by : (b : Bool) → (key x == n) ≡ b → suc (length xs) ≤ cond (not b) (1 + position_or_len (test n) xs) 0
          → (length xs ≤ position_or_len (test n) xs → IsOfNone key n xs) → IsOfNone key n (x ∷ xs)
      by true e h rest = absurd (omega arith)
      by false e h rest =
          let is = rest (omega arith) in
          record { none = rw e is.none; same = λ f. rw e (ap (λ (ys : List X). x ∷ ys) (is.same f)) }

  pub place-in : (n : ℕ) (xs : List X) → IsPlaceIn key n xs (position (test n) xs)
  place-in n xs = of (nat_lt (position_or_len (test n) xs) (length xs)) refl
    where
      of : (b : Bool) → nat_lt (position_or_len (test n) xs) (length xs) ≡ b → IsPlaceIn key n xs (cond b (Some (position_or_len (test n) xs)) None)
      of true e = first n xs (grind (arith, nat_tests))
      of false e = none n xs (grind (arith, nat_tests))
