-- Laws of decimal digits.
use Rattle.std.proofs.Common.{◌≡◌, ◌<◌, ◌≤◌, ◌^◌, ◌-◌, ℕ, zero, suc, Bool, true, false, ◌&&◌, not, nat_lt, nat_le, List, [], ◌∷◌, length, get_or, Some, None, cond, refl, sym, ap, ◌∙◌, subst, arith, rules}
use Rattle.std.proofs.Math.Nat.{pow-le-pow_right}
use Rattle.std.proofs.lemmas.Bool.Decides.{nat_tests}
use Rattle.std.proofs.lemmas.List.Folds.{list_all_at}
use Rattle.std.proofs.lemmas.Str.Parse.{IsNumeralModel, numerals_by_fold, digits_value_short}
use Rattle.std.proofs.lemmas.Fmt.{digits_decimal, digits_value-decimal, length-decimal-le, decimal_nonempty, first_decimal, decimal_digit, decimal-digits_value}
use Rattle.std.specs.List.{list_all}
use Rattle.std.specs.Fmt.{decimal}
use Rattle.mj_words.specs.Numbers.{is_digit, are_digits, digits_onto, is_number, number_of, has_leading_zero, NumbersAreDecimal}

pub below-pow : (value i : ℕ) → value < 10 ^ i → i < 19 → value < 10 ^ 18
below-pow value i small few =
    let bound : 10 ^ i ≤ 10 ^ 18 = pow-le-pow_right {n = 10} (omega arith) {i = i} {j = 18} (omega arith) in omega arith

digit_by : (b : Bool) (xs : List ℕ) (i : ℕ) → is_digit (get_or xs i 0) ≡ b → list_all is_digit xs ≡ true → i < length xs → is_digit (get_or xs i 0) ≡ true
digit_by true xs i e all inside = e
digit_by false xs i e all inside = cc (list_all_at is_digit xs i 0 inside e)

digit-small : (c : ℕ) → is_digit c ≡ true → c - 48 ≤ 9
digit-small c e = grind (arith, nat_tests)

pub digit-at : (xs : List ℕ) (i : ℕ) → list_all is_digit xs ≡ true → i < length xs → get_or xs i 0 - 48 ≤ 9
digit-at xs i all inside = digit-small (get_or xs i 0) (digit_by (is_digit (get_or xs i 0)) xs i refl all inside)

-- the digits and their value, as std's laws of decimal text know them
own : IsNumeralModel (λ ds. list_all is_digit ds ≡ true) (digits_onto 0)
own = numerals_by_fold _ (search rules) digits_onto (search rules)

pub decimal-digits : (n : ℕ) → n < 2 ^ 64 → list_all is_digit (decimal n) ≡ true
decimal-digits n fits = digits_decimal own n fits

some-is : (n m : ℕ) → Some n ≡ Some m → n ≡ m
some-is n m e = cc

number-parts : (b : Bool) (n m : ℕ) → cond b (Some m) None ≡ Some n → (b ≡ true) × (m ≡ n)
number-parts true n m e = (refl, some-is m n e)
number-parts false n m e = cc

number-tests : (text : List ℕ) → is_number text ≡ true
    → (0 < length text) × (length text ≤ 19) × (list_all is_digit text ≡ true) × (get_or text 0 0 ≡ 48 → length text ≡ 1)
number-tests text e = (grind (arith, nat_tests), grind (arith, nat_tests), grind (arith, nat_tests), λ zero. grind (arith, nat_tests))

to-decimal : (text : List ℕ) (n : ℕ) → number_of text ≡ Some n → (n < 10 ^ 19) × (text ≡ decimal n)
to-decimal text n e =
    let parts = number-parts (is_number text) n (digits_onto 0 text) e in
    let tests = number-tests text parts.0 in
    let small : digits_onto 0 text < 10 ^ 19 = digits_value_short own text 19 tests.2 tests.1 in (
      subst (λ (m : ℕ). m < 10 ^ 19) parts.1 small,
      sym (decimal-digits_value own text tests.2 tests.0 tests.3 (omega arith)) ∙ ap decimal parts.1,
    )

no-zero : (n : ℕ) → n < 10 ^ 19 → has_leading_zero (decimal n) ≡ false
no-zero zero small = let e : decimal 0 ≡ 48 ∷ [] = decimal_digit 0 (omega arith) in rw e refl
no-zero (suc n) small =
    let first : 48 < get_or (decimal (suc n)) 0 0 = first_decimal (suc n) (omega arith) (omega arith) in grind (arith, nat_tests)

all-four : (a b c d : Bool) → a ≡ true → b ≡ true → c ≡ true → d ≡ false → (a && (b && (c && not d))) ≡ true
all-four a b c d p q r s = rw (p) (rw (q) (rw (r) (rw (s) refl)))

is-number-decimal : (n : ℕ) → n < 10 ^ 19 → is_number (decimal n) ≡ true
is-number-decimal n small =
    let fits : n < 2 ^ 64 = omega arith in
    let some : 0 < length (decimal n) = decimal_nonempty n fits in
    let few : length (decimal n) ≤ 19 = length-decimal-le 19 n (omega arith) small fits in
    all-four (nat_lt 0 (length (decimal n))) (nat_le (length (decimal n)) 19) (are_digits (decimal n)) (has_leading_zero (decimal n))
    (grind (arith, nat_tests)) (grind (arith, nat_tests)) (digits_decimal own n fits) (no-zero n small)

from-decimal : (text : List ℕ) (n : ℕ) → n < 10 ^ 19 → text ≡ decimal n → number_of text ≡ Some n
from-decimal text n small e =
    let fits : n < 2 ^ 64 = omega arith in
    ap number_of e ∙ ap (λ (b : Bool). cond b (Some (digits_onto 0 (decimal n))) None) (is-number-decimal n small) ∙ ap Some (digits_value-decimal own n fits)

pub numbers-are-decimal : (text : List ℕ) → NumbersAreDecimal text
numbers-are-decimal text n = (to-decimal text n, λ h. from-decimal text n h.0 h.1)
