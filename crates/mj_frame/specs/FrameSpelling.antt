-- How frames stand on the wire (ZeroMQ RFC 23, framing): a flags byte, the size in one byte or in eight, the body.
use Rattle.std.specs.Prelude.{ℕ, ◌≡◌, ◌≢◌, ◌+◌, ◌<◌, ◌^◌, ◌⊎◌, Bool, true, false, IsTrue, List, [], ◌∷◌, ◌++◌, length, slice_index, if◌then◌else◌, nat_lt}
use Rattle.std.specs.Int.{to_be_bytes, w64}
use Rattle.mj_frame.specs.declared.head.Head.{Head}

-- a frame: whether more frames of its message follow, whether it is a command, and its body
pub record Frame : Type 0 where
  pub more : Bool
  pub command : Bool
  pub body : List ℕ

-- the flags byte: bit 0 for more, bit 1 for a size of eight bytes, bit 2 for a command
abbrev pub flags : Bool → Bool → Bool → ℕ
flags more long command = (if more then 1 else 0) + ((if long then 2 else 0) + (if command then 4 else 0))

-- no command is followed by more
abbrev pub IsKind : Bool → Bool → Type 0
IsKind more command = ¬ (IsTrue more × IsTrue command)

abbrev pub short_head : Head → List ℕ
short_head h = flags h.more false h.command ∷ h.size ∷ []

abbrev pub long_head : Head → List ℕ
long_head h = flags h.more true h.command ∷ to_be_bytes w64 h.size

-- the head of a frame of this size stands as these bytes: every size may be long, those of one byte short
abbrev pub IsHead : Head → List ℕ → Type 0
IsHead h octets = IsKind h.more h.command × (((h.size < 256) × (octets ≡ short_head h)) ⊎ ((h.size < 2 ^ 64) × (octets ≡ long_head h)))

abbrev pub head_of : Frame → Head
head_of f = record { more = f.more; command = f.command; size = length f.body }

-- the frame stands as these bytes
abbrev pub IsFrame : Frame → List ℕ → Type 0
IsFrame f octets = (head : List ℕ) × IsHead (head_of f) head × (octets ≡ head ++ f.body)

-- the spelling that is written: short where there is a short one
abbrev pub canonical_head : Head → List ℕ
canonical_head h = if nat_lt h.size 256 then short_head h else long_head h

abbrev pub canonical : Bool → Bool → List ℕ → List ℕ
canonical more command body = canonical_head (record { more = more; command = command; size = length body }) ++ body

-- a message: more follows each frame but the last
abbrev pub message_octets : List (List ℕ) → List ℕ
message_octets [] = []
message_octets (frame ∷ []) = canonical false false frame
message_octets (frame ∷ other ∷ frames) = canonical true false frame ++ message_octets (other ∷ frames)

-- a proper front of some head
abbrev pub StartsHead : List ℕ → Type 0
StartsHead octets = (h : Head) × (rest : List ℕ) × (rest ≢ []) × IsHead h (octets ++ rest)

-- the first byte is there, and is the flags byte of no frame
abbrev pub StartsWrong : List ℕ → Type 0
StartsWrong [] = ⊥
StartsWrong (octet ∷ octets) = (more long command : Bool) → IsKind more command → octet ≢ flags more long command

-- each is a byte
abbrev pub IsBytes : List ℕ → Type 0
IsBytes octets = (i : ℕ) → slice_index octets i < 256

-- the frames stand one behind the other
abbrev pub AreFrames : List Frame → List ℕ → Type 0
AreFrames [] octets = octets ≡ []
AreFrames (f ∷ frames) octets = (first others : List ℕ) × IsFrame f first × AreFrames frames others × (octets ≡ first ++ others)

-- a message as frames: more follows each but the last
abbrev pub message_frames : List (List ℕ) → List Frame
message_frames [] = []
message_frames (body ∷ []) = record { more = false; command = false; body = body } ∷ []
message_frames (body ∷ other ∷ bodies) = record { more = true; command = false; body = body } ∷ message_frames (other ∷ bodies)

-- bytes were appended, or none
abbrev pub Grows : List ℕ → List ℕ → Type 0
Grows before now = (added : List ℕ) × (now ≡ before ++ added)
