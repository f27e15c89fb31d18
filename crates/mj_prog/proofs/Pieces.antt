-- Laws of pieces in hex.
use Rattle.std.proofs.Common.{◌≡◌, ◌<◌, ◌≤◌, ◌*◌, ◌%◌, ◌⊎◌, inl, inr, ℕ, Bool, true, false, ◌&&◌, nat_lt, nat_le, List, length, Option, Some, None, IsSome, IfSome, IfOk, Result, Ok, Err, cond, refl, sym, ap, ◌∙◌, subst, arith, rules}
use Rattle.std.proofs.lemmas.Bool.Decides.{nat_tests}
use Rattle.std.specs.List.{AllPass}
use Rattle.hex.specs.Hex.{decode_of, encode_lower, encode_upper, is_hex_digit, IsBytes, lower_digits, upper_digits}
use Rattle.hex.specs.declared.error.FromHexError.{FromHexError}
use Rattle.hex.proofs.HexLemmas.{decode_of-ok, decode_of-digits, decode_of-encode_lower, decode_of-encode_upper, length-encode_with}
use Rattle.mj_base.specs.declared.memory.NoMemory.{NoMemory}
use Rattle.mj_prog.specs.ReadSoFar.{IsPiece}
use Rattle.mj_prog.specs.Script.{piece_of, decoded, PiecesAreHex}

sized-test : (digits : List ℕ) → 0 < length digits → length digits ≤ 131072 → (nat_lt 0 (length digits) && nat_le (length digits) 131072) ≡ true
sized-test digits some few = grind (arith, nat_tests)

test-sized : (digits : List ℕ) → (nat_lt 0 (length digits) && nat_le (length digits) 131072) ≡ true → (0 < length digits) × (length digits ≤ 131072)
test-sized digits e = (grind (arith, nat_tests), grind (arith, nat_tests))

-- digits of a lawful number that decode are a piece
piece-decoded : (digits bytes : List ℕ) → 0 < length digits → length digits ≤ 131072 → decode_of digits ≡ Ok bytes → piece_of digits ≡ Some bytes
piece-decoded digits bytes some few e =
    ap (λ (b : Bool). cond b (decoded (decode_of digits)) None) (sized-test digits some few) ∙ ap decoded e

some-is : (a b : List ℕ) → Some a ≡ Some b → a ≡ b
some-is a b e = cc

some-decoded : (r : Result (List ℕ) FromHexError) → IsSome (decoded r) → (bytes : List ℕ) × (r ≡ Ok bytes)
some-decoded (Ok bytes) h = (bytes, refl)
some-decoded (Err e) h = absurd (search (rules, h))

some-sized : (b : Bool) (r : Result (List ℕ) FromHexError) → IsSome (cond b (decoded r) None) → (b ≡ true) × IsSome (decoded r)
some-sized true r h = (refl, h)
some-sized false r h = absurd (search (rules, h))

piece-digits : (digits : List ℕ) → IsSome (piece_of digits)
    → (0 < length digits) × (length digits ≤ 131072) × (length digits % 2 ≡ 0) × AllPass is_hex_digit digits
piece-digits digits h =
    let s = some-sized (nat_lt 0 (length digits) && nat_le (length digits) 131072) (decode_of digits) h in
    let sized = test-sized digits s.0 in
    let d = some-decoded (decode_of digits) s.1 in
    let ok = decode_of-ok digits d.0 d.1 in
    (sized.0, sized.1, ok.0, ok.1)

digits-piece : (digits : List ℕ) → 0 < length digits → length digits ≤ 131072 → length digits % 2 ≡ 0 → AllPass is_hex_digit digits → IsSome (piece_of digits)
digits-piece digits some few even all =
    let d = decode_of-digits digits even all in
    let e = piece-decoded digits d.0 some few d.1 in
    subst (λ (o : Option (List ℕ)). IsSome o) (sym e) (search rules)

hex-piece : (digits bytes : List ℕ) → 0 < length bytes → length bytes ≤ 65536 → IsBytes bytes
    → (digits ≡ encode_lower bytes) ⊎ (digits ≡ encode_upper bytes) → piece_of digits ≡ Some bytes
hex-piece digits bytes some few all (inl e) =
    let size : length (encode_lower bytes) ≡ 2 * length bytes = length-encode_with lower_digits bytes in
    ap piece_of e ∙ piece-decoded (encode_lower bytes) bytes (omega arith) (omega arith) (decode_of-encode_lower bytes all)
hex-piece digits bytes some few all (inr e) =
    let size : length (encode_upper bytes) ≡ 2 * length bytes = length-encode_with upper_digits bytes in
    ap piece_of e ∙ piece-decoded (encode_upper bytes) bytes (omega arith) (omega arith) (decode_of-encode_upper bytes all)

-- a piece has half as many bytes as digits
pub piece-sized : (digits : List ℕ) (read : Result (Option (List ℕ)) NoMemory) → 0 < length digits → length digits ≤ 131072
    → IfOk read (λ piece. piece ≡ decoded (decode_of digits)) → IfOk read (λ piece. IfSome piece IsPiece)
piece-sized digits (Err e) some few h = tt
piece-sized digits (Ok None) some few h = tt
piece-sized digits (Ok (Some bytes)) some few h =
    let d = some-decoded (decode_of digits) (subst (λ (o : Option (List ℕ)). IsSome o) h (search rules)) in
    let same : bytes ≡ d.0 = some-is bytes d.0 (h ∙ ap decoded d.1) in
    let ok = decode_of-ok digits d.0 d.1 in
    rw same (omega (arith, ok.2), omega (arith, ok.2))

pub pieces-are-hex : (digits : List ℕ) → PiecesAreHex digits
pieces-are-hex digits = ((piece-digits digits, λ h. digits-piece digits h.0 h.1 h.2 h.3), λ bytes some few all e. hex-piece digits bytes some few all e)
