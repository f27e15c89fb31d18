-- Items of which one at most is a message.
use Rattle.std.proofs.Common.{◌≡◌, ◌+◌, ◌≤◌, ◌<◌, ℕ, Bool, true, false, List, [], ◌∷◌, ◌++◌, length, take, get_or, refl, sym, ap, ◌∙◌, arith, inl, inr}
use Rattle.std.specs.List.{count_by, filter, flat_map}
use Rattle.std.proofs.lemmas.Bool.{cases_Bool, or_left}
use Rattle.std.proofs.lemmas.List.Sums.{count_by_more_no, count_by_more_yes, length-filter, sum_by-take-le}
use Rattle.std.proofs.Common.{cond}
use Rattle.std.proofs.lemmas.List.{flat_map_more, take_more}
use Rattle.std.proofs.lemmas.List.Folds.{list_any-append}
use Rattle.mj_ledger.specs.Events.{Event}
use Rattle.mj_ledger.specs.Standing.{is_known}
use Rattle.mj_ledger.specs.Workers.{is_opening}

-- before a message there is none
pub none-before : {X : Type 0} (p : X → Bool) (xs : List X) (i : ℕ) (x : X) → i < length xs → x ≡ get_or xs i x → p x ≡ true → length (filter p xs) < 2 → length (filter p (take i xs)) ≡ 0
none-before {X} p xs i x inside is yes_x few =
    let more = count_by_more_yes p xs i x inside (ap p (sym is) ∙ yes_x) in
    let less = sum_by-take-le (λ (y : X). cond (p y) 1 0) xs (i + 1) in
    let whole = length-filter p xs in
    let front = length-filter p (take i xs) in
    omega (arith, more, less, whole, front, few)

-- where none has come there is none yet, and the item isn't one
pub none-more : {X : Type 0} (p : X → Bool) (xs : List X) (i : ℕ) (x : X) → i < length xs → x ≡ get_or xs i x → length (filter p (take (i + 1) xs)) ≡ 0 → (length (filter p (take i xs)) ≡ 0) × (p x ≡ false)
none-more {X} p xs i x inside is none = elim (cases_Bool (p x)) [
  | inl here ↦
      (let more = count_by_more_yes p xs i x inside (ap p (sym is) ∙ here) in
      let whole = length-filter p (take (i + 1) xs) in
      absurd (omega (arith, more, whole, none)))
  | inr other ↦
      (let same = count_by_more_no p xs i x inside (ap p (sym is) ∙ other) in
      let whole = length-filter p (take (i + 1) xs) in
      let front = length-filter p (take i xs) in
      (omega (arith, same, whole, front, none), other))
]

-- one more item said what it says
pub one-more : {X A : Type 0} (f : X → List A) (es : List A) (xs : List X) (i : ℕ) (x : X) → i < length xs → x ≡ get_or xs i x → (es ++ flat_map f (take i xs)) ++ f x ≡ es ++ flat_map f (take (i + 1) xs)
one-more {X} {A} f es xs i x inside is =
    flat_map_more f es (take i xs) x ∙ ap (λ (l : List X). es ++ flat_map f l) (sym (take_more xs i x inside ∙ ap (λ (y : X). take i xs ++ y ∷ []) (sym is)))

pub known-more : (who : List ℕ) (es more : List Event) → is_known who es ≡ true → is_known who (es ++ more) ≡ true
known-more who es more there = list_any-append (is_opening who) es more ∙ or_left (is_known who es) (is_known who more) there
