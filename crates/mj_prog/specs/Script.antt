-- Scripts: a text of lines, each of which is an event, nothing, `stop`, or unlawful.
use Rattle.std.specs.Prelude.{ℕ, ◌+◌, ◌%◌, ◌<◌, ◌≤◌, ◌≡◌, ◌⊎◌, ◌↔◌, IsSome, ⊤, Bool, true, nat_lt, nat_le, nat_eq, ◌&&◌, List, [], ◌∷◌, length, take, drop, Option, Some, None, Result, Ok, Err, if◌then◌else◌, codes}
use Rattle.std.specs.List.{position, AllPass}
use Rattle.std.specs.Str.{bytes_eq}
use Rattle.hex.specs.Hex.{decode_of, encode_lower, encode_upper, is_hex_digit, IsBytes}
use Rattle.hex.specs.declared.error.FromHexError.{FromHexError}
use Rattle.mj_base.specs.declared.event.Event.{Event}
use Rattle.mj_base.specs.declared.event.Event.TheVariants as events
use Rattle.mj_prog.specs.declared.meaning.Meaning.{Meaning}
use Rattle.mj_prog.specs.declared.meaning.Meaning.TheVariants.{Act, Nothing, Stop, Unlawful}
use Rattle.mj_words.specs.Numbers.{number_of}

abbrev pub is_newline : ℕ → Bool
is_newline c = nat_eq c 10

abbrev pub is_space : ℕ → Bool
is_space c = nat_eq c 32

-- the lines of a text: a newline ends each, and the last may lack it
abbrev pub in_front : ℕ → List (List ℕ) → List (List ℕ)
in_front c [] = (c ∷ []) ∷ []
in_front c (line ∷ lines) = (c ∷ line) ∷ lines

abbrev pub lines_of : List ℕ → List (List ℕ)
lines_of [] = []
lines_of (c ∷ cs) = if is_newline c then [] ∷ lines_of cs else in_front c (lines_of cs)

-- the text up to its last newline, with it
abbrev pub before_end : ℕ → List ℕ → List ℕ
before_end c [] = if is_newline c then c ∷ [] else []
before_end c (d ∷ ds) = c ∷ d ∷ ds

abbrev pub ended_part : List ℕ → List ℕ
ended_part [] = []
ended_part (c ∷ cs) = before_end c (ended_part cs)

-- a lane: a number below that of the lanes
abbrev pub lane_in : ℕ → Option ℕ → Option ℕ
lane_in lanes None = None
lane_in lanes (Some n) = if nat_lt n lanes then Some n else None

abbrev pub lane_of : ℕ → List ℕ → Option ℕ
lane_of lanes text = lane_in lanes (number_of text)

-- a piece: 2 to 131,072 hex digits of either case, an even number of them
abbrev pub decoded : Result (List ℕ) FromHexError → Option (List ℕ)
decoded (Ok bytes) = Some bytes
decoded (Err e) = None

abbrev pub piece_of : List ℕ → Option (List ℕ)
piece_of digits = if nat_lt 0 (length digits) && nat_le (length digits) 131072 then decoded (decode_of digits) else None

-- a piece is written as its bytes in hex, of lower or of upper case; and it is an even number of hex digits, from 2 to 131,072
abbrev pub PiecesAreHex : List ℕ → Type 0
PiecesAreHex digits =
    (IsSome (piece_of digits) ↔ ((0 < length digits) × (length digits ≤ 131072) × (length digits % 2 ≡ 0) × AllPass is_hex_digit digits))
    × ((bytes : List ℕ) → 0 < length bytes → length bytes ≤ 65536 → IsBytes bytes → (digits ≡ encode_lower bytes) ⊎ (digits ≡ encode_upper bytes) → piece_of digits ≡ Some bytes)

-- `open L`, `sent L` and `close L`
abbrev pub on_lane : (ℕ → Event) → Option ℕ → Option Event
on_lane event None = None
on_lane event (Some lane) = Some (event lane)

-- `bytes L HEX`: the lane stands before the next space, and the piece behind it
abbrev pub bytes_on : Option ℕ → Option (List ℕ) → Option Event
bytes_on None piece = None
bytes_on (Some lane) None = None
bytes_on (Some lane) (Some piece) = Some (events.Bytes lane piece)

abbrev pub bytes_at : ℕ → List ℕ → Option ℕ → Option Event
bytes_at lanes text None = None
bytes_at lanes text (Some space) = bytes_on (lane_of lanes (take space text)) (piece_of (drop (space + 1) text))

abbrev pub bytes_of : ℕ → List ℕ → Option Event
bytes_of lanes text = bytes_at lanes text (position is_space text)

-- `tick N`, N at most 10^15 ms
abbrev pub tick_at : Option ℕ → Option Event
tick_at None = None
tick_at (Some ms) = if nat_le ms 1000000000000000 then Some (events.Tick ms) else None

-- the event that a word names, with the text behind the space after it
abbrev pub event_named : ℕ → List ℕ → List ℕ → Option Event
event_named lanes word text =
    if bytes_eq word (codes "open") then on_lane events.Open (lane_of lanes text)
    else if bytes_eq word (codes "bytes") then bytes_of lanes text
    else if bytes_eq word (codes "sent") then on_lane events.Sent (lane_of lanes text)
    else if bytes_eq word (codes "close") then on_lane events.Close (lane_of lanes text)
    else if bytes_eq word (codes "tick") then tick_at (number_of text)
    else None

-- the line's first word ends at its first space
abbrev pub event_at : ℕ → List ℕ → Option ℕ → Option Event
event_at lanes line None = None
event_at lanes line (Some space) = event_named lanes (take space line) (drop (space + 1) line)

abbrev pub event_of : ℕ → List ℕ → Option Event
event_of lanes line = event_at lanes line (position is_space line)

-- an empty line, or a comment, which starts with `#`
abbrev pub is_silent : List ℕ → Bool
is_silent [] = true
is_silent (c ∷ cs) = nat_eq c 35

abbrev pub acting : Option Event → Meaning
acting None = Unlawful
acting (Some event) = Act event

-- what a line says, without its newline: at most 131,081 bytes
abbrev pub meaning_of : ℕ → List ℕ → Meaning
meaning_of lanes line =
    if nat_lt 131081 (length line) then Unlawful
    else if is_silent line then Nothing
    else if bytes_eq line (codes "stop") then Stop
    else acting (event_of lanes line)

-- how a script ends: with its text, at the line of this number that says `stop`, or at an unlawful one
pub data Ending : Type 0 where
  WithText : Ending
  AtStop : (number : ℕ) → Ending
  AtUnlawful : (number : ℕ) → Ending

abbrev pub events_on : Meaning → List Event → List Event
events_on (Act event) later = event ∷ later
events_on Nothing later = later
events_on Stop later = []
events_on Unlawful later = []

abbrev pub events_in : ℕ → List (List ℕ) → List Event
events_in lanes [] = []
events_in lanes (line ∷ lines) = events_on (meaning_of lanes line) (events_in lanes lines)

abbrev pub ending_on : Meaning → ℕ → Ending → Ending
ending_on (Act event) number later = later
ending_on Nothing number later = later
ending_on Stop number later = AtStop number
ending_on Unlawful number later = AtUnlawful number

abbrev pub ending_in : ℕ → ℕ → List (List ℕ) → Ending
ending_in lanes number [] = WithText
ending_in lanes number (line ∷ lines) = ending_on (meaning_of lanes line) number (ending_in lanes (number + 1) lines)

-- a script: the events of its lawful lines, and how it ends
pub record Script : Type 0 where
  pub events : List Event
  pub ending : Ending

abbrev pub script : ℕ → List ℕ → Script
script lanes text = record { events = events_in lanes (lines_of text); ending = ending_in lanes 1 (lines_of text) }

-- no line that was read is unlawful
abbrev pub IsLawful : Ending → Type 0
IsLawful WithText = ⊤
IsLawful (AtStop number) = ⊤
IsLawful (AtUnlawful number) = ⊥
