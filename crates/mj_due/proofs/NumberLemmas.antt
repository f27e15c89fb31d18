-- A number in its place among rising ones.
use Rattle.std.proofs.Common.{◌≡◌, ℕ, zero, suc, ◌+◌, ◌≤◌, ◌==◌, nat_le, nat_lt, Bool, true, false, not, cond, List, [], ◌∷◌, ◌++◌, length, drop, take, ◌-◌, slice_get, Some, None, unwrap_or, refl, sym, ◌∙◌, ap, arith}
use Rattle.std.specs.List.{insert, position, position_or_len}
use Rattle.std.specs.Ordering.{nat_cmp}
use Rattle.std.specs.declared.cmp.Ordering.TheVariants.{Less, Equal, Greater}
use Rattle.std.proofs.lemmas.List.{length-drop, take_all}
use Rattle.std.proofs.lemmas.Bool.Decides.{nat_tests}
use Rattle.mj_due.specs.Numbers.{is_number, place_in, put_once}

cmp_less : (k x : ℕ) → nat_le k x ≡ true → (x == k) ≡ false → nat_cmp k x ≡ Less
cmp_less k x e f = grind (arith, nat_tests)

cmp_equal : (k x : ℕ) → (x == k) ≡ true → nat_cmp k x ≡ Equal
cmp_equal k x e = grind (arith, nat_tests)

cmp_greater : (k x : ℕ) → nat_le k x ≡ false → nat_cmp k x ≡ Greater
cmp_greater k x e = grind (arith, nat_tests)

pub once-there : (n : ℕ) (xs : List ℕ) → is_number n (slice_get xs (place_in n xs)) ≡ true → put_once n xs ≡ xs
once-there n [] here = cc
once-there n (x ∷ xs) here =
    elim (nat_le n x) as (λ b. nat_le n x ≡ b → is_number n (slice_get (x ∷ xs) (cond b zero (suc (place_in n xs)))) ≡ true → put_once n (x ∷ xs) ≡ x ∷ xs) [
      | true ↦ λ le is. rw (cmp_equal n x is) refl
      | false ↦ λ gt is. rw (cmp_greater n x gt) (ap (λ (ys : List ℕ). x ∷ ys) (once-there n xs is))
    ] refl here

pub once-missing : (n : ℕ) (xs : List ℕ) → is_number n (slice_get xs (place_in n xs)) ≡ false → insert xs (place_in n xs) n ≡ put_once n xs
once-missing n [] missing = refl
once-missing n (x ∷ xs) missing =
    elim (nat_le n x) as (λ b. nat_le n x ≡ b → is_number n (slice_get (x ∷ xs) (cond b zero (suc (place_in n xs)))) ≡ false → insert (x ∷ xs) (cond b zero (suc (place_in n xs))) n ≡ put_once n (x ∷ xs)) [
      | true ↦ λ le is. rw (cmp_less n x le is) refl
      | false ↦ λ gt is. rw (cmp_greater n x gt) (ap (λ (ys : List ℕ). x ∷ ys) (once-missing n xs is))
    ] refl missing

pub place_in-le : (n : ℕ) (xs : List ℕ) → place_in n xs ≤ length xs
place_in-le n [] = omega arith
place_in-le n (x ∷ xs) = elim (nat_le n x) as (λ b. cond b zero (suc (place_in n xs)) ≤ suc (length xs)) [ true ↦ omega arith | false ↦ omega (arith, place_in-le n xs) ]

place_in-first : (n : ℕ) (xs : List ℕ) → position_or_len (λ x. nat_le n x) xs ≡ place_in n xs
place_in-first n [] = refl
place_in-first n (x ∷ xs) =
    elim (nat_le n x) as (λ b. cond (not b) (1 + position_or_len (λ x. nat_le n x) xs) 0 ≡ cond b zero (suc (place_in n xs))) [ true ↦ refl | false ↦ omega (arith, place_in-first n xs) ]

pub first-place : (n : ℕ) (xs : List ℕ) → unwrap_or (position (λ x. nat_le n x) xs) (length xs) ≡ place_in n xs
first-place n xs = of (nat_lt (position_or_len (λ x. nat_le n x) xs) (length xs)) refl
  where
    of : (b : Bool) → nat_lt (position_or_len (λ x. nat_le n x) xs) (length xs) ≡ b → unwrap_or (cond b (Some (position_or_len (λ x. nat_le n x) xs)) None) (length xs) ≡ place_in n xs
    of true is = place_in-first n xs
    of false is = grind (arith, nat_tests, place_in-first n xs, place_in-le n xs)

pub drop_front : (front back : List ℕ) (n : ℕ) → length front ≡ n → drop n (front ++ back) ≡ back
drop_front [] back n e = ap (λ (m : ℕ). drop m back) (sym e)
drop_front (x ∷ xs) back n e = ap (λ (m : ℕ). drop m (x ∷ (xs ++ back))) (sym e) ∙ drop_front xs back (length xs) refl

pub insert_behind : (front back : List ℕ) (n at x : ℕ) → length front ≡ n → insert (front ++ back) (n + at) x ≡ front ++ insert back at x
insert_behind front back n at x e = ap (λ (m : ℕ). insert (front ++ back) (m + at) x) (sym e) ∙ of front
  where
    shift : (m : ℕ) → suc m + at ≡ suc (m + at)
    shift m = omega arith

    of : (ys : List ℕ) → insert (ys ++ back) (length ys + at) x ≡ ys ++ insert back at x
    of [] = ap (λ (m : ℕ). insert back m x) (none at)
      where
        none : (m : ℕ) → 0 + m ≡ m
        none m = omega arith
    of (y ∷ ys) = ap (λ (m : ℕ). insert (y ∷ (ys ++ back)) m x) (shift (length ys)) ∙ ap (λ (zs : List ℕ). y ∷ zs) (of ys)

-- what stands from a place on, as a slice gives it
abbrev part : ℕ → List ℕ → List ℕ
part start xs = take (length xs - start) (drop start xs)

-- a number is put among those behind the front
module _ (n start at : ℕ) (items read read_again front back : List ℕ) (answer : Bool) (same : read ≡ items) (same_again : read_again ≡ items) (at_is : at ≡ place_in n (part start read)) (answer_is : answer ≡ is_number n (slice_get (part start read_again) at))
    (whole : items ≡ front ++ back) (long : length front ≡ start) where
  behind : (xs : List ℕ) → xs ≡ items → part start xs ≡ back
  behind xs e = take_all (length xs - start) (drop start xs) (omega (arith, length-drop start xs)) ∙ ap (drop start) (e ∙ whole) ∙ drop_front front back start long

  place : at ≡ place_in n back
  place = at_is ∙ ap (place_in n) (behind read same)

  here : is_number n (slice_get back (place_in n back)) ≡ answer
  here = ap (λ (i : ℕ). is_number n (slice_get back i)) (sym place) ∙ ap (λ (xs : List ℕ). is_number n (slice_get xs at)) (sym (behind read_again same_again)) ∙ sym answer_is

  pub put_behind : answer ≡ false → insert items (start + at) n ≡ front ++ put_once n back
  put_behind missing =
      ap (λ (xs : List ℕ). insert xs (start + at) n) whole ∙ insert_behind front back start at n long ∙ ap (λ (i : ℕ). front ++ insert back i n) place ∙ ap (λ (xs : List ℕ). front ++ xs) (once-missing n back (here ∙ missing))

  pub stays_behind : answer ≡ true → items ≡ front ++ put_once n back
  stays_behind there = whole ∙ ap (λ (xs : List ℕ). front ++ xs) (sym (once-there n back (here ∙ there)))
