-- Numbers in words and scripts: 1 to 19 decimal digits without a leading zero, save `0` itself.
use Rattle.std.specs.Prelude.{ℕ, ◌+◌, ◌-◌, ◌*◌, ◌^◌, ◌<◌, ◌≡◌, ◌↔◌, Bool, ◌&&◌, not, nat_lt, nat_le, nat_eq, List, [], ◌∷◌, length, slice_index, Option, Some, None, if◌then◌else◌}
use Rattle.std.specs.List.{list_all}
use Rattle.std.specs.Fmt.{decimal}

abbrev pub is_digit : ℕ → Bool
is_digit c = nat_le 48 c && nat_le c 57

abbrev pub are_digits : List ℕ → Bool
are_digits text = list_all is_digit text

abbrev pub has_leading_zero : List ℕ → Bool
has_leading_zero text = nat_lt 1 (length text) && nat_eq (slice_index text 0) 48

abbrev pub is_number : List ℕ → Bool
is_number text = nat_lt 0 (length text) && (nat_le (length text) 19 && (are_digits text && not (has_leading_zero text)))

-- the number whose digits stand behind those of n
abbrev pub digits_onto : ℕ → List ℕ → ℕ
digits_onto n [] = n
digits_onto n (c ∷ cs) = digits_onto (10 * n + (c - 48)) cs

abbrev pub number_of : List ℕ → Option ℕ
number_of text = if is_number text then Some (digits_onto 0 text) else None

-- a text is a number exactly where it is the number's decimal text, of at most 19 digits
abbrev pub NumbersAreDecimal : List ℕ → Type 0
NumbersAreDecimal text = (n : ℕ) → (number_of text ≡ Some n) ↔ ((n < 10 ^ 19) × (text ≡ decimal n))
