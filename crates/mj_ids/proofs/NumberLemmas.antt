-- The id of a number holds it, and is an id.
use Rattle.std.proofs.Common.{◌≡◌, ℕ, ◌+◌, ◌*◌, ◌/◌, ◌%◌, ◌^◌, ◌<◌, ◌==◌, slice_index, List, refl, sym, ap, ◌∙◌, arith}
use Rattle.std.proofs.lemmas.Nat.{from_be_bytes-to_be_bytes_8}
use Rattle.std.proofs.lemmas.Bool.{and_from, eq-eqb}
use Rattle.mj_ids.specs.Ids.{id_with, id_of, number_of, IsId, word_of}

pub number-id_with : (first second number : ℕ) → number < 2 ^ 62 → number_of (id_with first second number) ≡ number
unfolding number_of
number-id_with first second number small =
    let back = from_be_bytes-to_be_bytes_8 (2 * 2 ^ 62 + number) (omega arith) in
    ap (λ (n : ℕ). n % 2 ^ 62) back ∙ omega arith

pub is_id : (first second number : ℕ) → number < 2 ^ 62 → IsId (id_with first second number)
is_id first second number small =
    let octets = id_with first second number in
    let version : slice_index octets 6 / 16 ≡ 8 = omega arith in
    let variant : slice_index octets 8 / 64 ≡ 2 = omega arith in
    record { sized = refl; marked = and_from (slice_index octets 6 / 16 == 8) (slice_index octets 8 / 64 == 2) (eq-eqb _ _ version) (eq-eqb _ _ variant) }

pub number-id_of : (seed : List ℕ) (number : ℕ) → number < 2 ^ 62 → number_of (id_of seed number) ≡ number
unfolding id_of
number-id_of seed number small = number-id_with (word_of seed (2 * number)) (word_of seed (2 * number + 1)) number small

pub apart : (seed other : List ℕ) (m n : ℕ) → m < 2 ^ 62 → n < 2 ^ 62 → id_of seed m ≡ id_of other n → m ≡ n
apart seed other m n low small same = sym (number-id_of seed m low) ∙ ap number_of same ∙ number-id_of other n small
