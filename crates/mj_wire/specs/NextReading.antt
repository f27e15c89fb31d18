-- What the bytes at a place in a stream begin with (ZeroMQ RFC 23): a part that is whole, a fault, or neither yet.
use Rattle.std.specs.Prelude.{ℕ, ◌+◌, Bool, true, false, not, ◌&&◌, nat_lt, nat_le, List, [], ◌∷◌, length, take, drop, sum_by, Option, Some, None, Result, Ok, Err, if◌then◌else◌}
use Rattle.mj_base.specs.declared.limits.Limits.{Limits}
use Rattle.mj_base.specs.declared.reason.Reason.{Reason}
use Rattle.mj_base.specs.declared.reason.Reason.TheVariants.{BadFlags, BadHandshake, TooMany, TooLong}
use Rattle.mj_frame.specs.declared.head.Head.{Head}
use Rattle.mj_frame.specs.declared.head.HeadAnswer.{HeadAnswer}
use Rattle.mj_frame.specs.declared.head.HeadAnswer.TheVariants as answers
use Rattle.mj_frame.specs.HeadReading.{head_at}
use Rattle.mj_greeting.specs.declared.greeting.GreetingFault.{GreetingFault}
use Rattle.mj_greeting.specs.GreetingGrammar.{fault_of}
use Rattle.mj_handshake.specs.declared.socket_type.SocketType.{SocketType}
use Rattle.mj_handshake.specs.ReadyGrammar.{ready_of}
use Rattle.mj_wire.specs.declared.place.Place.{Place}
use Rattle.mj_wire.specs.declared.place.Stage.{Stage}
use Rattle.mj_wire.specs.declared.place.Stage.TheVariants as stages
use Rattle.mj_wire.specs.declared.next.Next.{Next}
use Rattle.mj_wire.specs.declared.next.Next.TheVariants as next

abbrev pub in_handshake : Stage → Bool
in_handshake stages.Handshake = true
in_handshake stages.Greeting = false
in_handshake stages.Open = false
in_handshake stages.Ended = false

abbrev pub has_ended : Stage → Bool
has_ended stages.Ended = true
has_ended stages.Greeting = false
has_ended stages.Handshake = false
has_ended stages.Open = false

-- the first byte is there and no command's, where it is the flags byte of a frame
abbrev pub starts_message : List ℕ → Bool
starts_message [] = false
starts_message (octet ∷ octets) = nat_lt octet 4

-- a command by itself, a message with the frames before this one
abbrev pub is_too_long : Limits → ℕ → Head → Bool
is_too_long limits octets h = if h.command then nat_lt limits.command h.size else nat_lt limits.message (octets + h.size)

-- the faults that a head has, the first that counts first
abbrev pub head_fault : Limits → Place → Head → Option Reason
head_fault limits p h =
    if in_handshake p.stage && not h.command then Some BadHandshake
    else if not h.command && nat_le limits.frames (length p.group) then Some TooMany
    else if is_too_long limits (sum_by length p.group) h then Some TooLong
    else None

abbrev pub ready_next : Result SocketType Reason → ℕ → Next
ready_next (Ok kind) end = next.Ready kind end
ready_next (Err reason) end = next.Fault reason 0

abbrev pub body_next : Stage → Head → ℕ → List ℕ → Next
body_next stage h used body =
    if in_handshake stage then ready_next (ready_of body) (used + length body)
    else if h.command then next.Command (used + length body)
    else next.Frame h.more used (used + length body)

abbrev pub whole_next : Stage → Head → ℕ → List ℕ → Next
whole_next stage h used rest = if nat_lt (length rest) h.size then next.Wait else body_next stage h used (take h.size rest)

abbrev pub fault_or_whole : Option Reason → Stage → Head → ℕ → List ℕ → Next
fault_or_whole (Some reason) stage h used rest = next.Fault reason 0
fault_or_whole None stage h used rest = whole_next stage h used rest

abbrev pub headed_next : Limits → Place → Head → ℕ → List ℕ → Next
headed_next limits p h used rest = fault_or_whole (head_fault limits p h) p.stage h used rest

abbrev pub short_next : Stage → List ℕ → Next
short_next stage octets = if in_handshake stage && starts_message octets then next.Fault BadHandshake 0 else next.Wait

abbrev pub answer_next : HeadAnswer → Limits → Place → List ℕ → Next
answer_next answers.BadFlags limits p octets = next.Fault BadFlags 0
answer_next answers.Short limits p octets = short_next p.stage octets
answer_next (answers.Head h used) limits p octets = headed_next limits p h used (drop used octets)

-- what stands where a frame has to begin
unfoldable pub frame_next : Limits → Place → List ℕ → Next
frame_next limits p octets = answer_next (head_at octets) limits p octets

abbrev pub whole_greeting : List ℕ → Next
whole_greeting octets = if nat_lt (length octets) 64 then next.Wait else next.Greeting

abbrev pub fault_or_greeting : Option GreetingFault → List ℕ → Next
fault_or_greeting (Some fault) octets = next.Fault fault.reason fault.at
fault_or_greeting None octets = whole_greeting octets

abbrev pub greeting_next : List ℕ → Next
greeting_next octets = fault_or_greeting (fault_of (take 64 octets)) octets

abbrev pub stage_next : Stage → Limits → Place → List ℕ → Next
stage_next stages.Greeting limits p octets = greeting_next octets
stage_next stages.Handshake limits p octets = frame_next limits p octets
stage_next stages.Open limits p octets = frame_next limits p octets
stage_next stages.Ended limits p octets = next.Wait

-- what stands next
unfoldable pub next_of : Limits → Place → List ℕ → Next
next_of limits p octets = stage_next p.stage limits p octets
