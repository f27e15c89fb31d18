-- Pairs in rising order: where one stands, and what a list has once one is put in or taken out.
use Rattle.std.proofs.Common.{◌≡◌, ℕ, zero, suc, ◌<◌, ◌≤◌, ◌==◌, Bool, true, false, not, cond, ◌||◌, ◌&&◌, List, [], ◌∷◌, length, get_or, slice_get, rules, IfNone, IfSome, Option, Some, None, refl, sym, ◌∙◌, ap, subst, arith}
use Rattle.std.specs.List.{insert, remove, list_all, filter}
use Rattle.std.proofs.lemmas.Bool.{and_parts, and_from, or_parts}
use Rattle.std.proofs.lemmas.Bool.Decides.{nat_tests}
use Rattle.mj_counted.specs.Pairs.{StandsAt, below, has_pair, is_below, is_of, is_pair, is_rising, same_pair}

-- the order of pairs is total and strict
below_trans : (p q r : ℕ × ℕ) → is_below p q ≡ true → is_below q r ≡ true → is_below p r ≡ true
below_trans p q r e f = grind (arith, nat_tests)

below_apart : (p q : ℕ × ℕ) → is_below p q ≡ true → is_below q p ≡ false
below_apart p q e = grind (arith, nat_tests)

below_differs : (p q : ℕ × ℕ) → is_below p q ≡ true → same_pair p q ≡ false
below_differs p q e = grind (arith, nat_tests)

above_differs : (p q : ℕ × ℕ) → is_below p q ≡ true → same_pair q p ≡ false
above_differs p q e = grind (arith, nat_tests)

below_or_same : (p q : ℕ × ℕ) → is_below p q ≡ false → same_pair q p ≡ false → is_below q p ≡ true
below_or_same p q e f = grind (arith, nat_tests)

not_above : (p q r : ℕ × ℕ) → is_below p q ≡ false → is_below p r ≡ true → is_below r q ≡ false
not_above p q r e f = grind (arith, nat_tests)

not_itself : (p q : ℕ × ℕ) → same_pair p q ≡ true → is_below p q ≡ false
not_itself p q e = grind (arith, nat_tests)

same_sym : (p q : ℕ × ℕ) → same_pair p q ≡ same_pair q p
same_sym p q = grind (arith, nat_tests)

same_of_same : (p q r : ℕ × ℕ) → same_pair p q ≡ true → same_pair r p ≡ same_pair r q
same_of_same p q r e = grind (arith, nat_tests)

below_of_same : (p q r : ℕ × ℕ) → same_pair p q ≡ true → is_below q r ≡ is_below p r
below_of_same p q r e = grind (arith, nat_tests)

-- where a pair stands, or would stand: how many in front are below it
abbrev place : ℕ × ℕ → List (ℕ × ℕ) → ℕ
place p [] = zero
place p (x ∷ xs) = cond (is_below x p) (suc (place p xs)) zero

none_below : (x p : ℕ × ℕ) (xs : List (ℕ × ℕ)) → is_below x p ≡ false → list_all (is_below x) xs ≡ true → below p xs ≡ 0
none_below x p [] e all = refl
none_below x p (y ∷ ys) e all =
    let parts = and_parts (is_below x y) (list_all (is_below x) ys) all in
    rw (not_above x p y e parts.0) (none_below x p ys e parts.1)

pub below-place : (p : ℕ × ℕ) (xs : List (ℕ × ℕ)) → is_rising xs ≡ true → below p xs ≡ place p xs
below-place p [] rising = refl
below-place p (x ∷ xs) rising =
    let parts = and_parts (list_all (is_below x) xs) (is_rising xs) rising in
    of (is_below x p) refl (below-place p xs parts.1) (λ e. none_below x p xs e parts.0)
  where
    of : (b : Bool) → is_below x p ≡ b → below p xs ≡ place p xs → (is_below x p ≡ false → below p xs ≡ 0) → length (cond b (x ∷ filter (λ q. is_below q p) xs) (filter (λ q. is_below q p) xs)) ≡ cond b (suc (place p xs)) zero
    of true e same none = omega arith
    of false e same none = omega (arith, none e)

place-le : (p : ℕ × ℕ) (xs : List (ℕ × ℕ)) → place p xs ≤ length xs
place-le p [] = omega arith
place-le p (x ∷ xs) = of (is_below x p) (place-le p xs)
  where
    of : (b : Bool) → place p xs ≤ length xs → cond b (suc (place p xs)) zero ≤ suc (length xs)
    of true le = omega arith
    of false le = omega arith

pub below-le : (p : ℕ × ℕ) (xs : List (ℕ × ℕ)) → is_rising xs ≡ true → below p xs ≤ length xs
below-le p xs rising = subst (λ (n : ℕ). n ≤ length xs) (sym (below-place p xs rising)) (place-le p xs)

all_at : (x d : ℕ × ℕ) (xs : List (ℕ × ℕ)) (i : ℕ) → list_all (is_below x) xs ≡ true → i < length xs → is_below x (get_or xs i d) ≡ true
all_at x d [] i all h = absurd (omega arith)
all_at x d (y ∷ ys) zero all h = (and_parts (is_below x y) (list_all (is_below x) ys) all).0
all_at x d (y ∷ ys) (suc i) all h = all_at x d ys i (and_parts (is_below x y) (list_all (is_below x) ys) all).1 (omega arith)

-- a pair that is below this one stands before its place, and no other does
place_after : (p d : ℕ × ℕ) (xs : List (ℕ × ℕ)) (i : ℕ) → is_rising xs ≡ true → i < length xs → is_below (get_or xs i d) p ≡ true → i < place p xs
place_after p d [] i rising h e = absurd (omega arith)
place_after p d (x ∷ xs) zero rising h e = rw e (omega arith)
place_after p d (x ∷ xs) (suc i) rising h e =
    let parts = and_parts (list_all (is_below x) xs) (is_rising xs) rising in
    let short : i < length xs = omega arith in
    rw (below_trans x (get_or xs i d) p (all_at x d xs i parts.0 short) e) (let later = place_after p d xs i parts.1 short e in omega arith)

place_before : (p d : ℕ × ℕ) (xs : List (ℕ × ℕ)) (i : ℕ) → is_rising xs ≡ true → i < length xs → is_below (get_or xs i d) p ≡ false → place p xs ≤ i
place_before p d [] i rising h e = absurd (omega arith)
place_before p d (x ∷ xs) zero rising h e = rw e (omega arith)
place_before p d (x ∷ xs) (suc i) rising h e =
    let parts = and_parts (list_all (is_below x) xs) (is_rising xs) rising in
    of (is_below x p) (place_before p d xs i parts.1 (omega arith) e)
  where
    of : (b : Bool) → place p xs ≤ i → cond b (suc (place p xs)) zero ≤ suc i
    of true le = omega arith
    of false le = omega arith

pub is_after : (p d : ℕ × ℕ) (xs : List (ℕ × ℕ)) (i : ℕ) → is_rising xs ≡ true → i < length xs → is_below (get_or xs i d) p ≡ true → i < below p xs
is_after p d xs i rising h e = subst (λ (n : ℕ). i < n) (sym (below-place p xs rising)) (place_after p d xs i rising h e)

pub is_before : (p d : ℕ × ℕ) (xs : List (ℕ × ℕ)) (i : ℕ) → is_rising xs ≡ true → i < length xs → is_below (get_or xs i d) p ≡ false → below p xs ≤ i
is_before p d xs i rising h e = subst (λ (n : ℕ). n ≤ i) (sym (below-place p xs rising)) (place_before p d xs i rising h e)

-- a pair that is below the first isn't there
absent : (x p : ℕ × ℕ) (xs : List (ℕ × ℕ)) → is_below x p ≡ false → list_all (is_below x) xs ≡ true → has_pair p xs ≡ false
absent x p [] e all = refl
absent x p (y ∷ ys) e all =
    let parts = and_parts (is_below x y) (list_all (is_below x) ys) all in
    rw (differs y parts.0) (absent x p ys e parts.1)
  where
    differs : (y : ℕ × ℕ) → is_below x y ≡ true → same_pair p y ≡ false
    differs y f = grind (arith, nat_tests)

-- what is read at a place of a pair
pub has-place : (p : ℕ × ℕ) (xs : List (ℕ × ℕ)) → is_rising xs ≡ true → is_pair p (slice_get xs (below p xs)) ≡ has_pair p xs
has-place p xs rising = subst (λ (n : ℕ). is_pair p (slice_get xs n) ≡ has_pair p xs) (sym (below-place p xs rising)) (stands xs rising)
  where
    or_false : (b : Bool) → b ≡ (b || false)
    or_false true = refl
    or_false false = refl

    stands : (xs : List (ℕ × ℕ)) → is_rising xs ≡ true → is_pair p (slice_get xs (place p xs)) ≡ has_pair p xs
    stands [] rising = refl
    stands (x ∷ xs) rising =
        let parts = and_parts (list_all (is_below x) xs) (is_rising xs) rising in
        elim (is_below x p) as (λ b. is_below x p ≡ b → is_pair p (slice_get (x ∷ xs) (cond b (suc (place p xs)) zero)) ≡ (same_pair p x || has_pair p xs)) [
          | true ↦ λ e. rw (above_differs x p e) (stands xs parts.1)
          | false ↦ λ e. rw (absent x p xs e parts.0) (or_false (same_pair p x))
        ] refl

-- the list with one pair more
abbrev placed : ℕ × ℕ → List (ℕ × ℕ) → List (ℕ × ℕ)
placed p [] = p ∷ []
placed p (x ∷ xs) = cond (is_below x p) (x ∷ placed p xs) (p ∷ x ∷ xs)

placed_at : (p : ℕ × ℕ) (xs : List (ℕ × ℕ)) → insert xs (place p xs) p ≡ placed p xs
placed_at p [] = refl
placed_at p (x ∷ xs) =
    elim (is_below x p) as (λ b. insert (x ∷ xs) (cond b (suc (place p xs)) zero) p ≡ cond b (x ∷ placed p xs) (p ∷ x ∷ xs)) [ true ↦ ap (λ (ys : List (ℕ × ℕ)). x ∷ ys) (placed_at p xs) | false ↦ refl ]

all-placed : (x p : ℕ × ℕ) (xs : List (ℕ × ℕ)) → is_below x p ≡ true → list_all (is_below x) xs ≡ true → list_all (is_below x) (placed p xs) ≡ true
all-placed x p [] e all = rw e refl
all-placed x p (y ∷ ys) e all =
    let parts = and_parts (is_below x y) (list_all (is_below x) ys) all in
    elim (is_below y p) as (λ b. list_all (is_below x) (cond b (y ∷ placed p ys) (p ∷ y ∷ ys)) ≡ true) [ true ↦ rw parts.0 (all-placed x p ys e parts.1) | false ↦ rw (e, parts.0) parts.1 ]

all_above : (p x : ℕ × ℕ) (xs : List (ℕ × ℕ)) → is_below p x ≡ true → list_all (is_below x) xs ≡ true → list_all (is_below p) xs ≡ true
all_above p x [] e all = refl
all_above p x (y ∷ ys) e all =
    let parts = and_parts (is_below x y) (list_all (is_below x) ys) all in
    rw (below_trans p x y e parts.0) (all_above p x ys e parts.1)

rising-placed : (p : ℕ × ℕ) (xs : List (ℕ × ℕ)) → is_rising xs ≡ true → has_pair p xs ≡ false → is_rising (placed p xs) ≡ true
rising-placed p [] rising free = refl
rising-placed p (x ∷ xs) rising free =
    let parts = and_parts (list_all (is_below x) xs) (is_rising xs) rising in
    let others = or_parts (same_pair p x) (has_pair p xs) free in
    elim (is_below x p) as (λ b. is_below x p ≡ b → is_rising (cond b (x ∷ placed p xs) (p ∷ x ∷ xs)) ≡ true) [
      | true ↦ λ e. and_from _ _ (all-placed x p xs e parts.0) (rising-placed p xs parts.1 others.1)
      | false ↦ λ e.
          let less : is_below p x ≡ true = below_or_same x p e others.0 in
          and_from _ _ (and_from _ _ less (all_above p x xs less parts.0)) rising
    ] refl

has-placed : (p q : ℕ × ℕ) (xs : List (ℕ × ℕ)) → has_pair q (placed p xs) ≡ (same_pair q p || has_pair q xs)
has-placed p q [] = refl
has-placed p q (x ∷ xs) =
    elim (is_below x p) as (λ b. has_pair q (cond b (x ∷ placed p xs) (p ∷ x ∷ xs)) ≡ (same_pair q p || (same_pair q x || has_pair q xs))) [
      | true ↦ rw (has-placed p q xs) (turned (same_pair q x) (same_pair q p) (has_pair q xs))
      | false ↦ refl
    ]
  where
    turned : (a b c : Bool) → (a || (b || c)) ≡ (b || (a || c))
    turned true true c = refl
    turned true false c = refl
    turned false true c = refl
    turned false false c = refl

pub rising-insert : (p : ℕ × ℕ) (xs : List (ℕ × ℕ)) → is_rising xs ≡ true → has_pair p xs ≡ false → is_rising (insert xs (below p xs) p) ≡ true
rising-insert p xs rising free = rw (below-place p xs rising, placed_at p xs) (rising-placed p xs rising free)

pub has-insert : (p q : ℕ × ℕ) (xs : List (ℕ × ℕ)) → is_rising xs ≡ true → has_pair q (insert xs (below p xs) p) ≡ (same_pair q p || has_pair q xs)
has-insert p q xs rising = rw (below-place p xs rising, placed_at p xs) (has-placed p q xs)

-- the list without a pair that is there
abbrev left : ℕ × ℕ → List (ℕ × ℕ) → List (ℕ × ℕ)
left p [] = []
left p (x ∷ xs) = cond (is_below x p) (x ∷ left p xs) xs

left_at : (p : ℕ × ℕ) (xs : List (ℕ × ℕ)) → remove xs (place p xs) ≡ left p xs
left_at p [] = refl
left_at p (x ∷ xs) =
    elim (is_below x p) as (λ b. remove (x ∷ xs) (cond b (suc (place p xs)) zero) ≡ cond b (x ∷ left p xs) xs) [ true ↦ ap (λ (ys : List (ℕ × ℕ)). x ∷ ys) (left_at p xs) | false ↦ refl ]

all-left : (x p : ℕ × ℕ) (xs : List (ℕ × ℕ)) → list_all (is_below x) xs ≡ true → list_all (is_below x) (left p xs) ≡ true
all-left x p [] all = refl
all-left x p (y ∷ ys) all =
    let parts = and_parts (is_below x y) (list_all (is_below x) ys) all in
    elim (is_below y p) as (λ b. list_all (is_below x) (cond b (y ∷ left p ys) ys) ≡ true) [ true ↦ rw parts.0 (all-left x p ys parts.1) | false ↦ parts.1 ]

rising-left : (p : ℕ × ℕ) (xs : List (ℕ × ℕ)) → is_rising xs ≡ true → is_rising (left p xs) ≡ true
rising-left p [] rising = refl
rising-left p (x ∷ xs) rising =
    let parts = and_parts (list_all (is_below x) xs) (is_rising xs) rising in
    elim (is_below x p) as (λ b. is_rising (cond b (x ∷ left p xs) xs) ≡ true) [ true ↦ and_from _ _ (all-left x p xs parts.0) (rising-left p xs parts.1) | false ↦ parts.1 ]

has-left : (p q : ℕ × ℕ) (xs : List (ℕ × ℕ)) → is_rising xs ≡ true → has_pair p xs ≡ true → has_pair q (left p xs) ≡ (not (same_pair q p) && has_pair q xs)
has-left p q [] rising there = cc
has-left p q (x ∷ xs) rising there =
    let parts = and_parts (list_all (is_below x) xs) (is_rising xs) rising in
    elim (is_below x p) as (λ b. is_below x p ≡ b → has_pair q (cond b (x ∷ left p xs) xs) ≡ (not (same_pair q p) && (same_pair q x || has_pair q xs))) [
      | true ↦ λ e.
          let later : has_pair p xs ≡ true = rw (above_differs x p e) at there in
          rw (has-left p q xs parts.1 later) (apart (same_pair q x) (same_pair q p) (has_pair q xs) (λ f g. both x p q e f g))
      | false ↦ λ e.
          let here : same_pair p x ≡ true = first (same_pair p x) (has_pair p xs) (absent x p xs e parts.0) there in
          whole q x p here (same_pair q x) refl (λ f. absent x q xs (own q x f) parts.0)
    ] refl
  where
    first : (a b : Bool) → b ≡ false → (a || b) ≡ true → a ≡ true
    first true b e f = refl
    first false b e f = cc

    both : (x p q : ℕ × ℕ) → is_below x p ≡ true → same_pair q x ≡ true → same_pair q p ≡ true → true ≡ false
    both x p q e f g = grind (arith, nat_tests)

    apart : (a b c : Bool) → (a ≡ true → b ≡ true → true ≡ false) → (a || (not b && c)) ≡ (not b && (a || c))
    apart true true c h = h refl refl
    apart true false c h = refl
    apart false true c h = refl
    apart false false c h = refl

    own : (q x : ℕ × ℕ) → same_pair q x ≡ true → is_below x q ≡ false
    own q x f = grind (arith, nat_tests)

    alike : (q x p : ℕ × ℕ) → same_pair p x ≡ true → same_pair q p ≡ same_pair q x
    alike q x p e = grind (arith, nat_tests)

    whole : (q x p : ℕ × ℕ) → same_pair p x ≡ true → (b : Bool) → same_pair q x ≡ b → (same_pair q x ≡ true → has_pair q xs ≡ false) → has_pair q xs ≡ (not (same_pair q p) && (same_pair q x || has_pair q xs))
    whole q x p here true e none = rw (alike q x p here, e) (none e)
    whole q x p here false e none = rw (alike q x p here, e) refl

pub rising-remove : (p : ℕ × ℕ) (xs : List (ℕ × ℕ)) → is_rising xs ≡ true → is_rising (remove xs (below p xs)) ≡ true
rising-remove p xs rising = rw (below-place p xs rising, left_at p xs) (rising-left p xs rising)

pub has-remove : (p q : ℕ × ℕ) (xs : List (ℕ × ℕ)) → is_rising xs ≡ true → has_pair p xs ≡ true → has_pair q (remove xs (below p xs)) ≡ (not (same_pair q p) && has_pair q xs)
has-remove p q xs rising there = rw (below-place p xs rising, left_at p xs) (has-left p q xs rising there)

-- a pair that isn't there takes nothing out
pub has-stays : (p q : ℕ × ℕ) (xs : List (ℕ × ℕ)) → has_pair p xs ≡ false → has_pair q xs ≡ (not (same_pair q p) && has_pair q xs)
has-stays p q xs free = of (same_pair q p) refl
  where
    same_has : (xs : List (ℕ × ℕ)) → same_pair q p ≡ true → has_pair q xs ≡ has_pair p xs
    same_has [] e = refl
    same_has (x ∷ xs) e = rw (alike x, same_has xs e) refl
      where
        alike : (x : ℕ × ℕ) → same_pair q x ≡ same_pair p x
        alike x = grind (arith, nat_tests)

    of : (b : Bool) → same_pair q p ≡ b → has_pair q xs ≡ (not b && has_pair q xs)
    of true e = same_has xs e ∙ free
    of false e = refl

-- what is read is there, and what stands behind it is above
pub is_there : (p : ℕ × ℕ) (xs : List (ℕ × ℕ)) (i : ℕ) → slice_get xs i ≡ Some p → has_pair p xs ≡ true
is_there p [] i e = cc
is_there p (x ∷ xs) zero e =
    let same : x ≡ p = cc in
    subst (λ (q : ℕ × ℕ). has_pair q (x ∷ xs) ≡ true) same (rw (own x) refl)
  where
    own : (x : ℕ × ℕ) → same_pair x x ≡ true
    own x = grind (arith, nat_tests)
is_there p (x ∷ xs) (suc i) e = rw (is_there p xs i e) (or_true (same_pair p x))
  where
    or_true : (b : Bool) → (b || true) ≡ true
    or_true true = refl
    or_true false = refl

all_get : (x p : ℕ × ℕ) (xs : List (ℕ × ℕ)) (i : ℕ) → list_all (is_below x) xs ≡ true → slice_get xs i ≡ Some p → is_below x p ≡ true
all_get x p [] i all e = cc
all_get x p (y ∷ ys) zero all e =
    let same : y ≡ p = cc in
    subst (λ (q : ℕ × ℕ). is_below x q ≡ true) same (and_parts (is_below x y) (list_all (is_below x) ys) all).0
all_get x p (y ∷ ys) (suc i) all e = all_get x p ys i (and_parts (is_below x y) (list_all (is_below x) ys) all).1 e

pub is_above : (p q : ℕ × ℕ) (xs : List (ℕ × ℕ)) (i j : ℕ) → is_rising xs ≡ true → slice_get xs i ≡ Some p → i < j → slice_get xs j ≡ Some q → is_below p q ≡ true
is_above p q [] i j rising e h f = cc
is_above p q (x ∷ xs) zero zero rising e h f = absurd (omega arith)
is_above p q (x ∷ xs) zero (suc j) rising e h f =
    let same : x ≡ p = cc in
    subst (λ (r : ℕ × ℕ). is_below r q ≡ true) same (all_get x q xs j (and_parts (list_all (is_below x) xs) (is_rising xs) rising).0 f)
is_above p q (x ∷ xs) (suc i) zero rising e h f = absurd (omega arith)
is_above p q (x ∷ xs) (suc i) (suc j) rising e h f = is_above p q xs i j (and_parts (list_all (is_below x) xs) (is_rising xs) rising).1 e (omega arith) f

-- nothing is below the first
pub is_least : (p q : ℕ × ℕ) (xs : List (ℕ × ℕ)) → is_rising xs ≡ true → slice_get xs 0 ≡ Some p → is_below q p ≡ true → has_pair q xs ≡ false
is_least p q [] rising e lt = refl
is_least p q (x ∷ xs) rising e lt =
    let same : p ≡ x = cc in
    let less : is_below q x ≡ true = subst (λ (r : ℕ × ℕ). is_below q r ≡ true) same lt in
    rw (below_differs q x less) (absent x q xs (below_apart q x less) (and_parts (list_all (is_below x) xs) (is_rising xs) rising).0)

pub is_empty : (q : ℕ × ℕ) (xs : List (ℕ × ℕ)) → slice_get xs 0 ≡ None → has_pair q xs ≡ false
is_empty q [] e = refl
is_empty q (x ∷ xs) e = cc

-- where the pair at the place of (n, 0) is of another number, none is of n
pub none_of : (n k : ℕ) (xs : List (ℕ × ℕ)) → is_rising xs ≡ true → is_of n (slice_get xs (below (n, 0) xs)) ≡ false → has_pair (n, k) xs ≡ false
none_of n k xs rising e = stands xs rising (subst (λ (i : ℕ). is_of n (slice_get xs i) ≡ false) (below-place (n, 0) xs rising) e)
  where
    lower : (x : ℕ × ℕ) → is_below x (n, 0) ≡ true → same_pair (n, k) x ≡ false
    lower x e = grind (arith, nat_tests)

    other : (x : ℕ × ℕ) → (x.0 == n) ≡ false → same_pair (n, k) x ≡ false
    other x e = grind (arith, nat_tests)

    higher : (x : ℕ × ℕ) → is_below x (n, 0) ≡ false → (x.0 == n) ≡ false → is_below x (n, k) ≡ false
    higher x e f = grind (arith, nat_tests)

    stands : (xs : List (ℕ × ℕ)) → is_rising xs ≡ true → is_of n (slice_get xs (place (n, 0) xs)) ≡ false → has_pair (n, k) xs ≡ false
    stands [] rising e = refl
    stands (x ∷ xs) rising e =
        let parts = and_parts (list_all (is_below x) xs) (is_rising xs) rising in
        elim (is_below x (n, 0)) as (λ b. is_below x (n, 0) ≡ b → is_of n (slice_get (x ∷ xs) (cond b (suc (place (n, 0) xs)) zero)) ≡ false → (same_pair (n, k) x || has_pair (n, k) xs) ≡ false) [
          | true ↦ λ lt f. rw (lower x lt) (stands xs parts.1 f)
          | false ↦ λ ge f. rw (other x f) (absent x (n, k) xs (higher x ge f) parts.0)
        ] refl e

-- the calls of an order: `read` is what the call saw, `items` what it keeps, and `xs` its value
pub find_none : (pair : ℕ × ℕ) (at : ℕ) (read items xs : List (ℕ × ℕ)) → read ≡ items → items ≡ xs → is_rising items ≡ true → at ≡ below pair read → pair.1 ≡ 0 → is_of pair.0 (slice_get xs at) ≡ false
    → (key : ℕ) → has_pair (pair.0, key) xs ≡ false
find_none pair at read items xs same is rising place_is none e key =
    let at_is : at ≡ below (pair.0, 0) xs = place_is ∙ ap (below pair) (same ∙ is) ∙ ap (λ (n : ℕ). below (pair.0, n) xs) none in
    none_of pair.0 key xs (subst (λ (ys : List (ℕ × ℕ)). is_rising ys ≡ true) is rising) (subst (λ (i : ℕ). is_of pair.0 (slice_get xs i) ≡ false) at_is e)

pub get_stands : (found : Option (ℕ × ℕ)) (at : ℕ) (items xs : List (ℕ × ℕ)) → items ≡ xs → is_rising items ≡ true → found ≡ slice_get xs at → IfSome found (StandsAt xs at)
get_stands None at items xs is rising e = search rules
get_stands (Some p) at items xs is rising e =
    let up : is_rising xs ≡ true = subst (λ (ys : List (ℕ × ℕ)). is_rising ys ≡ true) is rising in
    let here : slice_get xs at ≡ Some p = sym e in
    IfSome_from (record {
      there = is_there p xs at here;
      least = λ first q lt. is_least p q xs up (subst (λ (i : ℕ). slice_get xs i ≡ Some p) first here) lt;
      behind = λ i q h f. is_above p q xs at i up here h f;
    })
  where
    IfSome_from : StandsAt xs at p → IfSome (Some p) (StandsAt xs at)
    IfSome_from s = s

pub insert_rising : (pair : ℕ × ℕ) (at : ℕ) (read items after xs : List (ℕ × ℕ)) → read ≡ items → items ≡ xs → is_rising items ≡ true → at ≡ below pair read → has_pair pair xs ≡ false → after ≡ insert items at pair → is_rising after ≡ true
insert_rising pair at read items after xs same is rising place_is free e =
    let at_is : at ≡ below pair items = place_is ∙ ap (below pair) same in
    subst (λ (ys : List (ℕ × ℕ)). is_rising ys ≡ true) (sym (e ∙ ap (λ (i : ℕ). insert items i pair) at_is))
    (rising-insert pair items rising (subst (λ (ys : List (ℕ × ℕ)). has_pair pair ys ≡ false) (sym is) free))

pub insert_changed : (pair : ℕ × ℕ) (at : ℕ) (read items after xs : List (ℕ × ℕ)) → read ≡ items → items ≡ xs → is_rising items ≡ true → at ≡ below pair read → after ≡ insert items at pair → (p : ℕ × ℕ) → has_pair p after ≡ (same_pair p pair || has_pair p xs)
insert_changed pair at read items after xs same is rising place_is e p =
    let at_is : at ≡ below pair items = place_is ∙ ap (below pair) same in
    ap (has_pair p) (e ∙ ap (λ (i : ℕ). insert items i pair) at_is) ∙ has-insert pair p items rising ∙ ap (λ (ys : List (ℕ × ℕ)). same_pair p pair || has_pair p ys) is

-- what was seen at the place tells whether the pair is there
pub seen_there : (pair : ℕ × ℕ) (at : ℕ) (read items again xs : List (ℕ × ℕ)) (answer found : Bool) → read ≡ items → again ≡ items → items ≡ xs → is_rising items ≡ true → at ≡ below pair read → answer ≡ is_pair pair (slice_get again at) → answer ≡ found → has_pair pair xs ≡ found
seen_there pair at read items again xs answer found same same_again is rising place_is answer_is found_is =
    let at_is : at ≡ below pair items = place_is ∙ ap (below pair) same in
    ap (has_pair pair) (sym is) ∙ sym (has-place pair items rising) ∙ ap (λ (i : ℕ). is_pair pair (slice_get items i)) (sym at_is) ∙ ap (λ (ys : List (ℕ × ℕ)). is_pair pair (slice_get ys at)) (sym same_again) ∙ sym answer_is ∙ found_is

place_in : (p : ℕ × ℕ) (xs : List (ℕ × ℕ)) (i : ℕ) → is_pair p (slice_get xs i) ≡ true → i < length xs
place_in p [] i e = cc
place_in p (x ∷ xs) zero e = omega arith
place_in p (x ∷ xs) (suc i) e = let later = place_in p xs i e in omega arith

pub seen_within : (pair : ℕ × ℕ) (at : ℕ) (items again : List (ℕ × ℕ)) (answer : Bool) → again ≡ items → answer ≡ is_pair pair (slice_get again at) → answer ≡ true → at < length items
seen_within pair at items again answer same answer_is found_is = place_in pair items at (ap (λ (ys : List (ℕ × ℕ)). is_pair pair (slice_get ys at)) (sym same) ∙ sym answer_is ∙ found_is)

pub remove_rising : (pair : ℕ × ℕ) (at : ℕ) (read items after : List (ℕ × ℕ)) → read ≡ items → is_rising items ≡ true → at ≡ below pair read → after ≡ remove items at → is_rising after ≡ true
remove_rising pair at read items after same rising place_is e =
    let at_is : at ≡ below pair items = place_is ∙ ap (below pair) same in
    subst (λ (ys : List (ℕ × ℕ)). is_rising ys ≡ true) (sym (e ∙ ap (remove items) at_is)) (rising-remove pair items rising)

pub remove_changed : (pair : ℕ × ℕ) (at : ℕ) (read items after xs : List (ℕ × ℕ)) → read ≡ items → items ≡ xs → is_rising items ≡ true → at ≡ below pair read → has_pair pair xs ≡ true → after ≡ remove items at → (p : ℕ × ℕ) → has_pair p after ≡ (not (same_pair p pair) && has_pair p xs)
remove_changed pair at read items after xs same is rising place_is there e p =
    let at_is : at ≡ below pair items = place_is ∙ ap (below pair) same in
    ap (has_pair p) (e ∙ ap (remove items) at_is) ∙ has-remove pair p items rising (subst (λ (ys : List (ℕ × ℕ)). has_pair pair ys ≡ true) (sym is) there)
    ∙ ap (λ (ys : List (ℕ × ℕ)). not (same_pair p pair) && has_pair p ys) is

pub get_empty : (found : Option (ℕ × ℕ)) (at : ℕ) (items xs : List (ℕ × ℕ)) → items ≡ xs → found ≡ slice_get xs at → IfNone found (at ≡ 0 → (p : ℕ × ℕ) → has_pair p xs ≡ false)
get_empty None at items xs is e = λ first p. is_empty p xs (subst (λ (i : ℕ). slice_get xs i ≡ None) first (sym e))
get_empty (Some q) at items xs is e = search rules
