-- The messages between the two ends of a copy, and how they stand on a link: one frame each (ZeroMQ RFC 23, framing), in
-- the spelling that is written.
use Rattle.std.specs.Prelude.{ℕ, ◌<◌, ◌≤◌, ◌^◌, ◌==◌, nat_lt, nat_le, Bool, false, ◌&&◌, ◌||◌, List, [], ◌∷◌, ◌++◌, length, take, drop, Option, None, Some, if◌then◌else◌}
use Rattle.std.specs.Int.{to_be_bytes, from_be_bytes, w64}
use Rattle.mj_frame.specs.FrameSpelling.{canonical}
use Rattle.mj_frame.specs.HeadReading.{head_at}
use Rattle.mj_frame.specs.declared.head.HeadAnswer.{HeadAnswer}
use Rattle.mj_frame.specs.declared.head.HeadAnswer.TheVariants as answers

-- the source's base; how many commands the copy has; a command's payload and its offset; there are no more
pub data Message : Type 0 where
  Base : (base : ℕ) → Message
  Have : (count : ℕ) → Message
  Send : (at : ℕ) (payload : List ℕ) → Message
  End : Message

-- eight bytes, the most significant first
unfoldable pub number : ℕ → List ℕ
number n = to_be_bytes w64 n

unfoldable pub number_in : List ℕ → ℕ
number_in octets = from_be_bytes w64 octets

-- the letters B, H, S and E
abbrev pub body_of : Message → List ℕ
body_of (Base base) = 66 ∷ number base
body_of (Have count) = 72 ∷ number count
body_of (Send at payload) = 83 ∷ (number at ++ payload)
body_of End = 69 ∷ []

abbrev pub framed : List ℕ → List ℕ
framed body = canonical false false body

abbrev pub octets_of : Message → List ℕ
octets_of message = framed (body_of message)

-- messages one behind the other
abbrev pub spelled : List Message → List ℕ
spelled [] = []
spelled (message ∷ messages) = octets_of message ++ spelled messages

-- what can be written
abbrev pub Fits : Message → Type 0
Fits (Base base) = (1 ≤ base) × (base ≤ 2 ^ 61)
Fits (Have count) = count < 2 ^ 64
Fits (Send at payload) = (at < 2 ^ 64) × (1 ≤ length payload) × (length payload ≤ 2097152)
Fits End = Unit {0}

-- ---- reading

-- the link's bytes begin with a message, with what may still become one, or with neither
pub data Reading : Type 0 where
  Whole : (message : Message) (rest : List ℕ) → Reading
  Short : Reading
  Wrong : Reading

abbrev pub base_in : ℕ → Option Message
base_in base = if nat_le 1 base && nat_le base (2 ^ 61) then Some (Base base) else None

abbrev pub numbered : ℕ → ℕ → Option Message
numbered letter n = if letter == 66 then base_in n else (if letter == 72 then Some (Have n) else None)

-- by the letter, and the number of bytes behind it
abbrev pub lettered : ℕ → List ℕ → Option Message
lettered letter rest =
    if length rest == 0 then (if letter == 69 then Some End else None)
    else (if length rest == 8 then numbered letter (number_in (take 8 rest))
    else (if (letter == 83) && nat_lt 8 (length rest) then Some (Send (number_in (take 8 rest)) (drop 8 rest)) else None))

-- the body of a frame of a lawful size
abbrev pub message_in : List ℕ → Option Message
message_in [] = None
message_in (letter ∷ rest) = lettered letter rest

abbrev pub is_size : ℕ → Bool
is_size n = (n == 1) || (n == 9) || (nat_le 10 n && nat_le n 2097161)

-- a head of two bytes where that is enough
abbrev pub is_canonical : ℕ → ℕ → Bool
is_canonical size head = head == (if nat_lt size 256 then 2 else 9)

abbrev pub read_as : Option Message → List ℕ → Reading
read_as None rest = Wrong
read_as (Some message) rest = Whole message rest

abbrev pub behind_head : ℕ → List ℕ → Reading
behind_head size octets =
    if nat_lt (length octets) size then Short else read_as (message_in (take size octets)) (drop size octets)

abbrev pub headed : HeadAnswer → List ℕ → Reading
headed answers.Short octets = Short
headed answers.BadFlags octets = Wrong
headed (answers.Head h n) octets = if is_size h.size && is_canonical h.size n then behind_head h.size (drop n octets) else Wrong

-- the flags byte is looked at as soon as it is there, the size as soon as the head is whole, the body when it is whole
abbrev pub reading : List ℕ → Reading
reading [] = Short
reading (flags ∷ octets) = if (flags == 0) || (flags == 2) then headed (head_at (flags ∷ octets)) (flags ∷ octets) else Wrong
