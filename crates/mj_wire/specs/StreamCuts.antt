-- Cuts of a stream: an accepted greeting and whole frames behind it, within the limits (ZeroMQ RFC 23).
use Rattle.std.specs.Prelude.{ℕ, ◌≡◌, ◌≤◌, List, [], ◌∷◌, ◌++◌, length, map, sum_by, Result, Ok, Err, IsTrue, IsOk, if◌then◌else◌}
use Rattle.std.specs.List.{AllByRecursion}
use Rattle.mj_base.specs.declared.limits.Limits.{Limits}
use Rattle.mj_base.specs.declared.reason.Reason.{Reason}
use Rattle.mj_frame.specs.FrameSpelling.{Frame, AreFrames}
use Rattle.mj_greeting.specs.GreetingGrammar.{IsGreeting}
use Rattle.mj_handshake.specs.declared.socket_type.SocketType.{SocketType}
use Rattle.mj_handshake.specs.ReadyGrammar.{ready_of}
use Rattle.mj_wire.specs.declared.item.WireItem.{WireItem}
use Rattle.mj_wire.specs.declared.item.WireItem.TheVariants as items

-- the messages that these frames finish, behind the frames of one that has begun; commands may stand between
abbrev pub finished : List (List ℕ) → List Frame → List (List (List ℕ))
finished group [] = []
finished group (f ∷ frames) =
    if f.command then finished group frames
    else if f.more then finished (group ++ f.body ∷ []) frames
    else (group ++ f.body ∷ []) ∷ finished [] frames

-- the frames of the message that isn't finished
abbrev pub unfinished : List (List ℕ) → List Frame → List (List ℕ)
unfinished group [] = group
unfinished group (f ∷ frames) =
    if f.command then unfinished group frames
    else if f.more then unfinished (group ++ f.body ∷ []) frames
    else unfinished [] frames

abbrev pub IsSmallMessage : Limits → List (List ℕ) → Type 0
IsSmallMessage limits message = (length message ≤ limits.frames) × (sum_by length message ≤ limits.message)

abbrev pub IsSmallCommand : Limits → Frame → Type 0
IsSmallCommand limits f = IsTrue f.command → length f.body ≤ limits.command

-- each command, each finished message and the unfinished one are within the limits
pub record AreSmall (limits : Limits) (group : List (List ℕ)) (frames : List Frame) : Type 0 where
  pub commands : AllByRecursion (IsSmallCommand limits) frames
  pub messages : AllByRecursion (IsSmallMessage limits) (finished group frames)
  pub last : IsSmallMessage limits (unfinished group frames)

-- the first frame, if any, is a command with the body of a READY
abbrev pub BeginsReady : List Frame → Type 0
BeginsReady [] = Unit {0}
BeginsReady (f ∷ frames) = IsTrue f.command × IsOk (ready_of f.body)

-- the stream is a greeting, these frames and this rest
pub record IsCut (limits : Limits) (stream : List ℕ) (frames : List Frame) (rest : List ℕ) : Type 0 where
  pub greeting : List ℕ
  pub octets : List ℕ
  pub whole : stream ≡ greeting ++ (octets ++ rest)
  pub accepted : IsGreeting greeting
  pub spelled : AreFrames frames octets
  pub ready : BeginsReady frames
  pub small : AreSmall limits [] frames

-- no cut leaves less
pub record IsLongest (limits : Limits) (stream : List ℕ) (frames : List Frame) (rest : List ℕ) : Type 0 where
  pub cut : IsCut limits stream frames rest
  pub longest : (others : List Frame) (left : List ℕ) → IsCut limits stream others left → length rest ≤ length left

abbrev pub ready_items : Result SocketType Reason → List WireItem
ready_items (Ok kind) = items.Ready kind ∷ []
ready_items (Err reason) = []

abbrev pub frame_items : List Frame → List WireItem
frame_items [] = []
frame_items (f ∷ frames) = ready_items (ready_of f.body) ++ map (λ message. items.Message message) (finished [] frames)

-- what a cut of these frames says
abbrev pub cut_items : List Frame → List WireItem
cut_items frames = items.Accepted ∷ frame_items frames
