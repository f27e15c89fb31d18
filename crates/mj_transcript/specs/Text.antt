-- A line of a transcript as text.
use Rattle.std.specs.Prelude.{ℕ, ◌+◌, Bool, true, ◌&&◌, nat_eq, nat_le, nat_lt, List, [], ◌∷◌, length, take, drop, Option, Some, None, Result, Ok, Err, if◌then◌else◌, codes}
use Rattle.std.specs.List.{position}
use Rattle.std.specs.Str.{bytes_eq}
use Rattle.hex.specs.Hex.{decode_of}
use Rattle.hex.specs.declared.error.FromHexError.{FromHexError}
use Rattle.mj_words.specs.Numbers.{number_of}
use Rattle.mj_transcript.specs.declared.line.Line.{Line}
use Rattle.mj_transcript.specs.declared.line.Line.TheVariants.{Open, In, Out, Close, Lapse, Silent, Unlawful}
use Rattle.mj_transcript.specs.declared.reading.Placed.{Placed}

abbrev pub is_space : ℕ → Bool
is_space c = nat_eq c 32

-- a lane is a number below 64
abbrev pub lane_in : Option ℕ → Option ℕ
lane_in None = None
lane_in (Some n) = if nat_lt n 64 then Some n else None

abbrev pub lane_of : List ℕ → Option ℕ
lane_of text = lane_in (number_of text)

-- an even number of hex digits of either case, from 2 to so many
abbrev pub decoded : Result (List ℕ) FromHexError → Option (List ℕ)
decoded (Ok bytes) = Some bytes
decoded (Err e) = None

abbrev pub octets_of : ℕ → List ℕ → Option (List ℕ)
octets_of most digits = if nat_lt 0 (length digits) && nat_le (length digits) most then decoded (decode_of digits) else None

-- `L HEX`: the lane stands before the space
abbrev pub placed_on : Option ℕ → Option (List ℕ) → Option Placed
placed_on None octets = None
placed_on (Some lane) None = None
placed_on (Some lane) (Some octets) = Some (record { lane = lane; octets = octets })

abbrev pub placed_at : ℕ → List ℕ → Option ℕ → Option Placed
placed_at most text None = None
placed_at most text (Some space) = placed_on (lane_of (take space text)) (octets_of most (drop (space + 1) text))

abbrev pub placed_of : ℕ → List ℕ → Option Placed
placed_of most text = placed_at most text (position is_space text)

-- ---- the lines with bytes: `open L HEX` with an address of 1 to 255 bytes, `in L HEX` and `out L HEX` with 1 to 65,536

abbrev pub open_line : Option Placed → Line
open_line None = Unlawful
open_line (Some p) = Open p.lane p.octets

abbrev pub in_line : Option Placed → Line
in_line None = Unlawful
in_line (Some p) = In p.lane p.octets

abbrev pub out_line : Option Placed → Line
out_line None = Unlawful
out_line (Some p) = Out p.lane p.octets

-- ---- those without: `close L`, `lapse L`

abbrev pub close_line : Option ℕ → Line
close_line None = Unlawful
close_line (Some lane) = Close lane

abbrev pub lapse_line : Option ℕ → Line
lapse_line None = Unlawful
lapse_line (Some lane) = Lapse lane

-- ---- any line

-- the line that a word begins, with the text behind the space after it
abbrev pub worded : List ℕ → List ℕ → Line
worded word text =
    if bytes_eq word (codes "open") then open_line (placed_of 510 text)
    else if bytes_eq word (codes "in") then in_line (placed_of 131072 text)
    else if bytes_eq word (codes "out") then out_line (placed_of 131072 text)
    else if bytes_eq word (codes "close") then close_line (lane_of text)
    else if bytes_eq word (codes "lapse") then lapse_line (lane_of text)
    else Unlawful

-- the first word ends at the first space
abbrev pub worded_at : List ℕ → Option ℕ → Line
worded_at text None = Unlawful
worded_at text (Some space) = worded (take space text) (drop (space + 1) text)

-- an empty line, or a comment, which starts with `#`
abbrev pub is_silent : List ℕ → Bool
is_silent [] = true
is_silent (c ∷ cs) = nat_eq c 35

-- what a line says, without its newline: at most 131,081 bytes
abbrev pub line_of : List ℕ → Line
line_of text = if nat_lt 131081 (length text) then Unlawful else if is_silent text then Silent else worded_at text (position is_space text)
