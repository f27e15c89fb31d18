-- What holds of each element of a list.
use Rattle.std.proofs.Common.{◌≡◌, ◌||◌, Bool, true, false, cond, List, [], ◌∷◌, ◌++◌, refl}
use Rattle.std.specs.List.{AllByRecursion, filter, list_any}

module _ {X : Type 0} where
  pub all-map : (P Q : X → Type 0) → ((x : X) → P x → Q x) → (xs : List X) → AllByRecursion P xs → AllByRecursion Q xs
  all-map P Q step [] all = tt
  all-map P Q step (x ∷ xs) all = (step x all.0, all-map P Q step xs all.1)

  pub all-both : (P Q : X → Type 0) (xs : List X) → AllByRecursion P xs → AllByRecursion Q xs → AllByRecursion (λ x. P x × Q x) xs
  all-both P Q [] one two = tt
  all-both P Q (x ∷ xs) one two = ((one.0, two.0), all-both P Q xs one.1 two.1)

  pub all-append : (P : X → Type 0) (xs ys : List X) → AllByRecursion P xs → AllByRecursion P ys → AllByRecursion P (xs ++ ys)
  all-append P [] ys first second = second
  all-append P (x ∷ xs) ys first second = (first.0, all-append P xs ys first.1 second)

  pub all-front : (P : X → Type 0) (xs ys : List X) → AllByRecursion P (xs ++ ys) → AllByRecursion P xs
  all-front P [] ys all = tt
  all-front P (x ∷ xs) ys all = (all.0, all-front P xs ys all.1)

  pub all-rest : (P : X → Type 0) (xs ys : List X) → AllByRecursion P (xs ++ ys) → AllByRecursion P ys
  all-rest P [] ys all = all
  all-rest P (x ∷ xs) ys all = all-rest P xs ys all.1

  pub all-filter : (P : X → Type 0) (p : X → Bool) (xs : List X) → AllByRecursion P xs → AllByRecursion P (filter p xs)
  all-filter P p [] all = tt
  all-filter P p (x ∷ xs) all = by (p x) (all-filter P p xs all.1)
    where
      by : (b : Bool) → AllByRecursion P (filter p xs) → AllByRecursion P (cond {A = List X} b (x ∷ filter p xs) (filter p xs))
      by true rest = (all.0, rest)
      by false rest = rest

  -- what passes a filter passes its test
  pub all-passed : (P : X → Type 0) (p : X → Bool) (xs : List X) → AllByRecursion P xs → AllByRecursion (λ x. P x × (p x ≡ true)) (filter p xs)
  all-passed P p [] all = tt
  all-passed P p (x ∷ xs) all = by (p x) refl (all-passed P p xs all.1)
    where
      by : (b : Bool) → p x ≡ b → AllByRecursion (λ x. P x × (p x ≡ true)) (filter p xs)
          → AllByRecursion (λ x. P x × (p x ≡ true)) (cond {A = List X} b (x ∷ filter p xs) (filter p xs))
      by true e rest = ((all.0, e), rest)
      by false e rest = rest

  pub all-failed : (p : X → Bool) (xs : List X) → list_any p xs ≡ false → AllByRecursion (λ x. p x ≡ false) xs
  all-failed p [] none = tt
  all-failed p (x ∷ xs) none = by (p x) refl none (all-failed p xs)
    where
      by : (b : Bool) → p x ≡ b → (b || list_any p xs) ≡ false → (list_any p xs ≡ false → AllByRecursion (λ x. p x ≡ false) xs)
          → (p x ≡ false) × AllByRecursion (λ x. p x ≡ false) xs
      by true e found rest = absurd (cc found)
      by false e found rest = (e, rest found)
