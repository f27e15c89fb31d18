-- How often a number stands in a list.
use Rattle.std.proofs.Common.{◌≡◌, ◌≢◌, ◌+◌, ◌==◌, ℕ, Bool, true, false, not, cond, List, [], ◌∷◌, ◌++◌, refl, sym, ap, subst, ◌∙◌, arith}
use Rattle.std.specs.List.{AllByRecursion, filter}
use Rattle.mj_queue.specs.PairLaw.{IsFirst}
use Rattle.mj_machine.proofs.ConnectionLemmas.{agrees, differs, equal}
use Rattle.mj_laws.specs.Soundness.{one_if, times}
use Rattle.mj_machine.proofs.ListLemmas.{all-append, all-front, all-rest}

pub passed-apart : (a b : ℕ) → not (a == b) ≡ true → a ≢ b
passed-apart a b passed same = by (a == b) refl passed
  where
    by : (t : Bool) → (a == b) ≡ t → not t ≡ true → ⊥
    by true e passed = cc passed
    by false e passed = cc (e, equal-true)
      where
        equal-true : (a == b) ≡ true
        equal-true = subst (λ (x : ℕ). (x == b) ≡ true) (sym same) (equal b)

module _ {X : Type 0} where
  pub times-append : (p : X → Bool) (xs ys : List X) → times p (xs ++ ys) ≡ times p xs + times p ys
  times-append p [] ys = omega arith
  times-append p (x ∷ xs) ys = let rest = times-append p xs ys in omega (arith, rest)

  pub times-without-same : (key : X → ℕ) (n : ℕ) (xs : List X) → times (λ x. key x == n) (filter (λ x. not (key x == n)) xs) ≡ 0
  times-without-same key n [] = refl
  times-without-same key n (x ∷ xs) = by (key x == n) refl (times-without-same key n xs)
    where
      by : (b : Bool) → (key x == n) ≡ b → times (λ x. key x == n) (filter (λ x. not (key x == n)) xs) ≡ 0
          → times (λ x. key x == n) (cond {A = List X} (not b) (x ∷ filter (λ x. not (key x == n)) xs) (filter (λ x. not (key x == n)) xs)) ≡ 0
      by true e rest = rest
      by false e rest = rw e (let r = rest in omega (arith, r))

  pub times-without-other : (key : X → ℕ) (n q : ℕ) → n ≢ q → (xs : List X) → times (λ x. key x == n) (filter (λ x. not (key x == q)) xs) ≡ times (λ x. key x == n) xs
  times-without-other key n q apart [] = refl
  times-without-other key n q apart (x ∷ xs) = by (key x == q) refl (times-without-other key n q apart xs)
    where
      by : (b : Bool) → (key x == q) ≡ b → times (λ x. key x == n) (filter (λ x. not (key x == q)) xs) ≡ times (λ x. key x == n) xs
          → times (λ x. key x == n) (cond {A = List X} (not b) (x ∷ filter (λ x. not (key x == q)) xs) (filter (λ x. not (key x == q)) xs)) ≡ one_if (key x == n) + times (λ x. key x == n) xs
      by true e rest = rw (differs (key x) n (λ same. apart (sym same ∙ agrees (key x) q e))) (let r = rest in omega (arith, r))
      by false e rest = let r = rest in omega (arith, r)

  -- the first that passes, taken out
  pub times-first : (p test : X → Bool) (xs : List X) (x : X) (rest : List X) → IsFirst test xs x rest → times p xs ≡ times p rest + one_if (p x)
  times-first p test xs x rest is =
      let whole = ap (times p) is.whole in
      let parts = times-append p is.before (x ∷ is.after) in
      let left = ap (times p) is.rest_is in
      let left_parts = times-append p is.before is.after in
      omega (arith, whole, parts, left, left_parts)

  pub all-first : (P : X → Type 0) (test : X → Bool) (xs : List X) (x : X) (rest : List X) → IsFirst test xs x rest → AllByRecursion P xs → P x × AllByRecursion P rest
  all-first P test xs x rest is all =
      let parts = subst (AllByRecursion P) is.whole all in
      let behind = all-rest P is.before (x ∷ is.after) parts in
      (behind.0, subst (AllByRecursion P) (sym is.rest_is) (all-append P is.before is.after (all-front P is.before (x ∷ is.after) parts) behind.1))
