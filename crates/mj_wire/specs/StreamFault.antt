-- The fault of a stream behind its longest cut: the first row of the table that the rest meets.
use Rattle.std.specs.Prelude.{ℕ, Bool, true, false, not, ◌&&◌, nat_lt, nat_le, List, [], ◌∷◌, length, take, drop, sum_by, Option, Some, None, Result, Ok, Err, if◌then◌else◌}
use Rattle.mj_base.specs.declared.limits.Limits.{Limits}
use Rattle.mj_base.specs.declared.reason.Reason.{Reason}
use Rattle.mj_base.specs.declared.reason.Reason.TheVariants.{BadFlags, BadHandshake, TooMany, TooLong}
use Rattle.mj_frame.specs.declared.head.HeadAnswer.{HeadAnswer}
use Rattle.mj_frame.specs.declared.head.HeadAnswer.TheVariants as answers
use Rattle.mj_frame.specs.FrameSpelling.{Frame}
use Rattle.mj_frame.specs.HeadReading.{head_at}
use Rattle.mj_greeting.specs.declared.greeting.GreetingFault.{GreetingFault}
use Rattle.mj_handshake.specs.declared.socket_type.SocketType.{SocketType}
use Rattle.mj_handshake.specs.ReadyGrammar.{ready_of}
use Rattle.mj_wire.specs.declared.item.WireItem.{WireItem}
use Rattle.mj_wire.specs.declared.item.WireItem.TheVariants as items
use Rattle.mj_wire.specs.NextReading.{starts_message, is_too_long}
use Rattle.mj_wire.specs.StreamCuts.{unfinished}

-- the flags byte is no frame's
abbrev pub has_wrong_flags : HeadAnswer → Bool
has_wrong_flags answers.BadFlags = true
has_wrong_flags answers.Short = false
has_wrong_flags (answers.Head h used) = false

-- a whole head of a message frame, of a message that has as many frames as it may
abbrev pub has_too_many : Limits → List (List ℕ) → HeadAnswer → Bool
has_too_many limits group answers.BadFlags = false
has_too_many limits group answers.Short = false
has_too_many limits group (answers.Head h used) = not h.command && nat_le limits.frames (length group)

-- a whole head of a command or a message that has too many bytes
abbrev pub has_too_long : Limits → List (List ℕ) → HeadAnswer → Bool
has_too_long limits group answers.BadFlags = false
has_too_long limits group answers.Short = false
has_too_long limits group (answers.Head h used) = is_too_long limits (sum_by length group) h

abbrev pub reason_of : Result SocketType Reason → Option Reason
reason_of (Ok kind) = None
reason_of (Err reason) = Some reason

-- a whole frame whose body is no READY's
abbrev pub ready_fault : List ℕ → HeadAnswer → Option Reason
ready_fault rest answers.BadFlags = None
ready_fault rest answers.Short = None
ready_fault rest (answers.Head h used) =
    if nat_lt (length (drop used rest)) h.size then None else reason_of (ready_of (take h.size (drop used rest)))

-- the table, in its order
abbrev pub fault_by : Limits → Bool → List (List ℕ) → List ℕ → HeadAnswer → Option Reason
fault_by limits first group rest answer =
    if has_wrong_flags answer then Some BadFlags
    else if first && starts_message rest then Some BadHandshake
    else if has_too_many limits group answer then Some TooMany
    else if has_too_long limits group answer then Some TooLong
    else if first then ready_fault rest answer
    else None

abbrev pub is_none : List Frame → Bool
is_none [] = true
is_none (f ∷ frames) = false

-- the fault of a rest behind these frames
abbrev pub fault : Limits → List Frame → List ℕ → Option Reason
fault limits frames rest = fault_by limits (is_none frames) (unfinished [] frames) rest (head_at rest)

abbrev pub ended_at : ℕ → Option Reason → List WireItem
ended_at at None = []
ended_at at (Some reason) = items.Ended reason at ∷ []

-- the fault of a stream that has no cut
abbrev pub greeting_end : Option GreetingFault → List WireItem
greeting_end None = []
greeting_end (Some wrong) = items.Ended wrong.reason wrong.at ∷ []
