-- What holds of the spelling of frames, whatever reads them.
use Rattle.std.specs.Prelude.{ℕ, ◌≡◌, ◌<◌, ◌^◌, Bool, List, ◌++◌, length}
use Rattle.std.specs.List.{AllByRecursion}
use Rattle.mj_frame.specs.declared.head.Head.{Head}
use Rattle.mj_frame.specs.declared.head.HeadAnswer.TheVariants as answers
use Rattle.mj_frame.specs.FrameSpelling.{Frame, IsKind, IsHead, IsFrame, AreFrames, canonical, message_octets, message_frames}
use Rattle.mj_frame.specs.HeadReading.{head_at}

-- each spelled head is read, whatever follows
abbrev pub EveryHeadIsRead : Type 0
EveryHeadIsRead = (h : Head) (octets rest : List ℕ) → IsHead h octets → head_at (octets ++ rest) ≡ answers.Head h (length octets)

-- no frame's spelling is a proper front of a frame's spelling
abbrev pub NoFrameStartsAnother : Type 0
NoFrameStartsAnother =
    (f g : Frame) (a b x y : List ℕ) → IsFrame f a → IsFrame g b → a ++ x ≡ b ++ y → (f ≡ g) × (a ≡ b)

-- so bytes stand for at most one list of frames
abbrev pub OneReading : Type 0
OneReading = (frames others : List Frame) (octets : List ℕ) → AreFrames frames octets → AreFrames others octets → frames ≡ others

-- the canonical spelling is one
abbrev pub WrittenIsSpelled : Type 0
WrittenIsSpelled =
    (more command : Bool) (body : List ℕ) → IsKind more command → length body < 2 ^ 64
    → IsFrame (record { more = more; command = command; body = body }) (canonical more command body)

-- a written message stands for its frames, which stand for no other message
abbrev pub WrittenMessageIsSpelled : Type 0
WrittenMessageIsSpelled =
    (message : List (List ℕ)) → AllByRecursion (λ body. length body < 2 ^ 64) message → AreFrames (message_frames message) (message_octets message)

abbrev pub OneMessage : Type 0
OneMessage = (message other : List (List ℕ)) → message_frames message ≡ message_frames other → message ≡ other
