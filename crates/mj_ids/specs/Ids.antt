-- The id of a ticket: a UUID of version 8 (RFC 9562, section 5.8), whose last 62 bits are the ticket's number and whose
-- other bits are drawn by the seed of the run; and the texts that spell it (section 4).
use Rattle.std.specs.Prelude.{ℕ, ◌≡◌, ◌+◌, ◌*◌, ◌/◌, ◌%◌, ◌^◌, ◌==◌, ◌⊎◌, Bool, ◌&&◌, not, IsTrue, List, ◌++◌, length, drop, slice_index, nat_eq, Option, Some, None, if◌then◌else◌, codes}
use Rattle.std.specs.Int.{to_be_bytes, from_be_bytes, w16, w32, w64}
use Rattle.std.specs.List.{starts_with}
use Rattle.rand_chacha.specs.ChaCha.{word_at, key_of}
use Rattle.uuid.specs.Text.{lower, hyphenated_text, parsed, parsed_simple, parsed_hyphenated}

-- the word at a place of ChaCha20's stream 0 (RFC 8439, with Bernstein's 64 bits of counter), the seed being the key
unfoldable pub word_of : List ℕ → ℕ → ℕ
word_of seed place = word_at 10 (key_of seed) 0 place

-- 48 bits of the two words, the version in 4 bits, 12 bits of the second word, the variant in 2 bits, the number in 62
abbrev pub id_with : ℕ → ℕ → ℕ → List ℕ
id_with first second number = to_be_bytes w32 first ++ to_be_bytes w16 (second / 2 ^ 16) ++ to_be_bytes w16 (8 * 2 ^ 12 + second % 2 ^ 12) ++ to_be_bytes w64 (2 * 2 ^ 62 + number)

-- the id of this ticket under this seed
unfoldable pub id_of : List ℕ → ℕ → List ℕ
id_of seed number = id_with (word_of seed (2 * number)) (word_of seed (2 * number + 1)) number

-- the number of the ticket
unfoldable pub number_of : List ℕ → ℕ
number_of octets = from_be_bytes w64 (drop 8 octets) % 2 ^ 62

-- version 8, and the variant of RFC 9562
abbrev pub has_marks : List ℕ → Bool
has_marks octets = (slice_index octets 6 / 16 == 8) && (slice_index octets 8 / 64 == 2)

-- these bytes are an id
pub record IsId (octets : List ℕ) : Type 0 where
  pub sized : length octets ≡ 16
  pub marked : IsTrue (has_marks octets)

-- sixteen bytes as an id
abbrev pub id_in : List ℕ → Option (List ℕ)
id_in octets = if has_marks octets then Some octets else None

-- ---- texts

-- the text that is written: hyphenated, in lower case
abbrev pub text_of : List ℕ → List ℕ
text_of id = hyphenated_text lower id

-- a text spells these sixteen bytes in one of the four forms, with digits of either case
abbrev pub IsUuidText : List ℕ → List ℕ → Type 0
IsUuidText octets text =
    (parsed_simple text ≡ Some octets)
    ⊎ (parsed_hyphenated text ≡ Some octets)
    ⊎ ((inner : List ℕ) × (text ≡ codes "{" ++ inner ++ codes "}") × (parsed_hyphenated inner ≡ Some octets))
    ⊎ ((inner : List ℕ) × (text ≡ codes "urn:uuid:" ++ inner) × (parsed_hyphenated inner ≡ Some octets))

abbrev pub IsIdText : List ℕ → List ℕ → Type 0
IsIdText id text = IsTrue (has_marks id) × IsUuidText id text

-- the UUID that a text spells; 45 bytes are the length of the form behind the prefix
abbrev pub spelled : List ℕ → Option (List ℕ)
spelled text = if (length text == 45) && not (starts_with nat_eq text (codes "urn:uuid:")) then None else parsed text

abbrev pub id_found : Option (List ℕ) → Option (List ℕ)
id_found None = None
id_found (Some octets) = id_in octets

-- the id that a text is
unfoldable pub read_of : List ℕ → Option (List ℕ)
read_of text = id_found (spelled text)
