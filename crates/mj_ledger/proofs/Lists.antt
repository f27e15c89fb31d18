-- One more item at the end of a list.
use Rattle.std.proofs.Common.{◌≡◌, ◌+◌, ◌-◌, ◌≤◌, ℕ, Bool, true, false, cond, not, List, [], ◌∷◌, ◌++◌, length, drop, reverse, Option, Some, refl, sym, ap, subst, ◌∙◌, append_assoc, append-nil, arith, length-append}
use mathlib.Core.Bool.{◌&&◌, ◌||◌}
use Rattle.std.specs.List.{after_last, count_by, flat_map, last_or, list_all, list_any, prefix_len, suffix_len}
use Rattle.std.proofs.lemmas.List.{drop_all, drop-append-le, length-reverse, reverse-append}
use Rattle.std.proofs.lemmas.List.Concat.{flat_map-append}
use Rattle.std.proofs.lemmas.List.Folds.{list_all-append, list_any-append}
use Rattle.std.proofs.lemmas.List.Sums.{prefix_len-le-length, sum_by_push}
use Rattle.mj_ledger.specs.Moments.{moments, moments_from}

-- ---- tests

pub or-false : (b : Bool) → (b || false) ≡ b
or-false true = refl
or-false false = refl

pub or-true : (b : Bool) → (b || true) ≡ true
or-true true = refl
or-true false = refl

pub and-true : (b : Bool) → (b && true) ≡ b
and-true true = refl
and-true false = refl

pub and-false : (b : Bool) → (b && false) ≡ false
and-false true = refl
and-false false = refl

-- ---- one more item

pub any-push : {X : Type 0} (p : X → Bool) (xs : List X) (x : X) → list_any p (xs ++ x ∷ []) ≡ (list_any p xs || p x)
any-push {X} p xs x = list_any-append p xs (x ∷ []) ∙ ap (λ (b : Bool). list_any p xs || b) (or-false (p x))

pub all-push : {X : Type 0} (p : X → Bool) (xs : List X) (x : X) → list_all p (xs ++ x ∷ []) ≡ (list_all p xs && p x)
all-push {X} p xs x = list_all-append p xs (x ∷ []) ∙ ap (λ (b : Bool). list_all p xs && b) (and-true (p x))

pub flat-push : {X A : Type 0} (f : X → List A) (xs : List X) (x : X) → flat_map f (xs ++ x ∷ []) ≡ flat_map f xs ++ f x
flat-push {X} {A} f xs x = flat_map-append f xs (x ∷ []) ∙ ap (λ (l : List A). flat_map f xs ++ l) (append-nil (f x))

pub count-push : {X : Type 0} (p : X → Bool) (xs : List X) (x : X) → count_by p (xs ++ x ∷ []) ≡ count_by p xs + cond (p x) 1 0
count-push {X} p xs x = sum_by_push (λ (y : X). cond (p y) 1 0) xs x

pub last-append : {A : Type 0} (o : Option A) (xs ys : List A) → last_or o (xs ++ ys) ≡ last_or (last_or o xs) ys
last-append o [] ys = refl
last-append o (x ∷ xs) ys = last-append (Some x) xs ys

-- ---- behind the last that passes

suffix-push : {X : Type 0} (p : X → Bool) (xs : List X) (x : X) → suffix_len p (xs ++ x ∷ []) ≡ cond (p x) (1 + suffix_len p xs) 0
suffix-push {X} p xs x = ap (prefix_len p) (reverse-append xs (x ∷ []))

suffix-few : {X : Type 0} (p : X → Bool) (xs : List X) → suffix_len p xs ≤ length xs
suffix-few {X} p xs = let h = prefix_len-le-length p (reverse xs) in let l = length-reverse xs in omega (arith, h, l)

pub after-passed : {X : Type 0} (p : X → Bool) (xs : List X) (x : X) → p x ≡ true → after_last p (xs ++ x ∷ []) ≡ []
after-passed {X} p xs x true_is =
    let q = λ (y : X). not (p y) in
    let none : suffix_len q (xs ++ x ∷ []) ≡ 0 = suffix-push q xs x ∙ ap (λ (b : Bool). cond (not b) (1 + suffix_len q xs) 0) true_is in
    drop_all (length (xs ++ x ∷ []) - suffix_len q (xs ++ x ∷ [])) (xs ++ x ∷ []) (omega (arith, none))

pub after-other : {X : Type 0} (p : X → Bool) (xs : List X) (x : X) → p x ≡ false → after_last p (xs ++ x ∷ []) ≡ after_last p xs ++ x ∷ []
after-other {X} p xs x false_is =
    let q = λ (y : X). not (p y) in
    let more : suffix_len q (xs ++ x ∷ []) ≡ 1 + suffix_len q xs = suffix-push q xs x ∙ ap (λ (b : Bool). cond (not b) (1 + suffix_len q xs) 0) false_is in
    let few = suffix-few q xs in
    let long : length (xs ++ x ∷ []) ≡ length xs + 1 = length-append xs (x ∷ []) in
    let place : length (xs ++ x ∷ []) - suffix_len q (xs ++ x ∷ []) ≡ length xs - suffix_len q xs = omega (arith, more, few, long) in
    ap (λ (n : ℕ). drop n (xs ++ x ∷ [])) place ∙ drop-append-le (length xs - suffix_len q xs) xs (x ∷ []) (omega arith)

any-behind-at : {X : Type 0} (p q : X → Bool) (xs : List X) (x : X) (b : Bool) → p x ≡ b → list_any q (after_last p (xs ++ x ∷ [])) ≡ (not b && (list_any q (after_last p xs) || q x))
any-behind-at p q xs x true is = ap (list_any q) (after-passed p xs x is)
any-behind-at p q xs x false is = ap (list_any q) (after-other p xs x is) ∙ any-push q (after_last p xs) x

pub any-behind-push : {X : Type 0} (p q : X → Bool) (xs : List X) (x : X) → list_any q (after_last p (xs ++ x ∷ [])) ≡ (not (p x) && (list_any q (after_last p xs) || q x))
any-behind-push {X} p q xs x = any-behind-at p q xs x (p x) refl

-- ---- each item with those before it

moments-from-push : {X : Type 0} (before xs : List X) (x : X) → moments_from before (xs ++ x ∷ []) ≡ moments_from before xs ++ (before ++ xs, x) ∷ []
moments-from-push {X} before [] x = ap (λ (l : List X). (l, x) ∷ []) (sym (append-nil before))
moments-from-push {X} before (y ∷ ys) x =
    ap (λ (l : List (List X × X)). (before, y) ∷ l)
    (moments-from-push (before ++ y ∷ []) ys x
    ∙ ap (λ (l : List X). moments_from (before ++ y ∷ []) ys ++ (l, x) ∷ []) (append_assoc before (y ∷ []) ys))

pub moments-push : {X : Type 0} (xs : List X) (x : X) → moments (xs ++ x ∷ []) ≡ moments xs ++ (xs, x) ∷ []
moments-push {X} xs x = moments-from-push [] xs x

pub all-moments-push : {X : Type 0} (f : List X → X → Bool) (xs : List X) (x : X) → list_all (λ m. f m.0 m.1) (moments (xs ++ x ∷ [])) ≡ (list_all (λ m. f m.0 m.1) (moments xs) && f xs x)
all-moments-push {X} f xs x = ap (list_all (λ (m : List X × X). f m.0 m.1)) (moments-push xs x) ∙ all-push (λ (m : List X × X). f m.0 m.1) (moments xs) (xs, x)

pub any-moments-push : {X : Type 0} (f : List X → X → Bool) (xs : List X) (x : X) → list_any (λ m. f m.0 m.1) (moments (xs ++ x ∷ [])) ≡ (list_any (λ m. f m.0 m.1) (moments xs) || f xs x)
any-moments-push {X} f xs x = ap (list_any (λ (m : List X × X). f m.0 m.1)) (moments-push xs x) ∙ any-push (λ (m : List X × X). f m.0 m.1) (moments xs) (xs, x)

pub flat-moments-push : {X A : Type 0} (f : List X → X → List A) (xs : List X) (x : X) → flat_map (λ m. f m.0 m.1) (moments (xs ++ x ∷ [])) ≡ flat_map (λ m. f m.0 m.1) (moments xs) ++ f xs x
flat-moments-push {X} {A} f xs x = ap (flat_map (λ (m : List X × X). f m.0 m.1)) (moments-push xs x) ∙ flat-push (λ (m : List X × X). f m.0 m.1) (moments xs) (xs, x)

pub count-moments-push : {X : Type 0} (f : List X → X → Bool) (xs : List X) (x : X) → count_by (λ m. f m.0 m.1) (moments (xs ++ x ∷ [])) ≡ count_by (λ m. f m.0 m.1) (moments xs) + cond (f xs x) 1 0
count-moments-push {X} f xs x = ap (count_by (λ (m : List X × X). f m.0 m.1)) (moments-push xs x) ∙ count-push (λ (m : List X × X). f m.0 m.1) (moments xs) (xs, x)

-- ---- from the front to the end

by-pushes-from : {X : Type 0} (P : List X → Type 0) → ((xs : List X) (x : X) → P xs → P (xs ++ x ∷ [])) → (before xs : List X) → P before → P (before ++ xs)
by-pushes-from {X} P step before [] here = subst P (sym (append-nil before)) here
by-pushes-from {X} P step before (x ∷ xs) here = subst P (append_assoc before (x ∷ []) xs) (by-pushes-from P step (before ++ x ∷ []) xs (step before x here))

pub by-pushes : {X : Type 0} (P : List X → Type 0) → P [] → ((xs : List X) (x : X) → P xs → P (xs ++ x ∷ [])) → (xs : List X) → P xs
by-pushes {X} P base step xs = by-pushes-from P step [] xs base
