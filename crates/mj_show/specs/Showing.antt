-- What `show` prints, by the status that it answers.
use Rattle.std.specs.Prelude.{ℕ, ◌≡◌, ◌≤◌, ◌^◌, List, [], ◌∷◌, ◌++◌, length, take, Option, Some, None, codes}
use Rattle.std.specs.Fmt.{decimal}
use Rattle.std.specs.Io.KnownBytes.{Appends, Consumes}
use Rattle.mj_base.specs.Rising.{Rose}
use Rattle.mj_base.specs.StandardLimits.{standard_limits}
use Rattle.mj_base.specs.Writing.{AppendsFront}
use Rattle.mj_base.specs.declared.reason.Reason.{Reason}
use Rattle.mj_base.specs.declared.reason.Reason.TheVariants as reasons
use Rattle.mj_client_cmd.specs.ClientReading.{client_of}
use Rattle.mj_client_cmd.specs.declared.command.ClientCmd.{ClientCmd}
use Rattle.mj_handshake.specs.declared.socket_type.SocketType.{SocketType}
use Rattle.mj_handshake.specs.declared.socket_type.SocketType.TheVariants as types
use Rattle.mj_wire.specs.StreamItems.{stream_items}
use Rattle.mj_wire.specs.declared.item.WireItem.{WireItem}
use Rattle.mj_wire.specs.declared.item.WireItem.TheVariants as item
use Rattle.mj_words.specs.Lines.{AppendsLine, body_line, done_line, fault_read}
use Rattle.mj_words.specs.SinkCounts.{SinkCounts}
use Rattle.mj_worker_cmd.specs.WorkerReading.{worker_of}
use Rattle.mj_worker_cmd.specs.declared.command.WorkerCmd.{WorkerCmd}

-- ---- lines

abbrev pub reason_word : Reason → List ℕ
reason_word reasons.BadSignature = codes "bad-signature"
reason_word reasons.BadVersion = codes "bad-version"
reason_word reasons.BadMechanism = codes "bad-mechanism"
reason_word reasons.BadFlags = codes "bad-flags"
reason_word reasons.BadHandshake = codes "bad-handshake"
reason_word reasons.BadSocketType = codes "bad-socket-type"
reason_word reasons.TooMany = codes "too-many"
reason_word reasons.TooLong = codes "too-long"
reason_word reasons.Slow = codes "slow"
reason_word reasons.QueueFull = codes "queue-full"

abbrev pub type_word : SocketType → List ℕ
type_word types.Req = codes "REQ"
type_word types.Dealer = codes "DEALER"
type_word types.Router = codes "ROUTER"

-- a message that is no client's request is a worker's command, or neither
abbrev pub other_word : Option WorkerCmd → List ℕ
other_word None = codes "message other"
other_word (Some cmd) = codes "message worker"

abbrev pub kind_word : Option ClientCmd → Option WorkerCmd → List ℕ
kind_word None worker = other_word worker
kind_word (Some cmd) worker = codes "message client"

abbrev pub end_line : List ℕ → ℕ → List ℕ
end_line reason at = codes "end " ++ (reason ++ (codes " " ++ (decimal at ++ codes "\n")))

abbrev pub ready_line : List ℕ → List ℕ
ready_line kind = codes "ready " ++ (kind ++ codes "\n")

abbrev pub message_line : List (List ℕ) → List ℕ
message_line message = body_line (kind_word (client_of message) (worker_of message)) message

-- `accepted`, `ready TYPE`, `message KIND FRAMES`, `end REASON AT`
abbrev pub item_line : WireItem → List ℕ
item_line item.Accepted = codes "accepted\n"
item_line (item.Ready kind) = ready_line (type_word kind)
item_line (item.Message message) = message_line message
item_line (item.Ended reason at) = end_line (reason_word reason) at

abbrev pub item_lines : List WireItem → List ℕ
item_lines [] = []
item_lines (x ∷ xs) = item_line x ++ item_lines xs

-- what a stream says, a line for each item
abbrev pub shown : List ℕ → List ℕ
shown stream = item_lines (stream_items standard_limits stream)

-- and how many bytes it has
abbrev pub output : List ℕ → List ℕ
output stream = shown stream ++ done_line (length stream)

-- ---- the table

-- the stream: the first 2^40 bytes of what the source has, where it tells
abbrev pub IsStream : Option (List ℕ) → List ℕ → Type 0
IsStream None stream = length stream ≤ 2 ^ 40
IsStream (Some all) stream = stream ≡ take (2 ^ 40) all

-- status 0
abbrev pub IsShown : Option (List ℕ) → Option (List ℕ) → Option (List ℕ) → Type 0
IsShown from old new = (stream : List ℕ) × IsStream from stream × Appends old new (output stream)

-- status 6: what the source gave is shown, and `fault read` stands behind it
abbrev pub IsUnread : Option (List ℕ) → Option (List ℕ) → Option (List ℕ) → Option (List ℕ) → SinkCounts → SinkCounts → Type 0
IsUnread from left old new before now = (read : List ℕ) × Consumes from left read × AppendsLine old new before now (shown read) fault_read

-- status 4 or 7: a front of what 0 prints
abbrev pub IsCutOff : Option (List ℕ) → Option (List ℕ) → Option (List ℕ) → Type 0
IsCutOff from old new = (stream : List ℕ) × IsStream from stream × AppendsFront old new (output stream)

-- what the source had left and has left, its failures before and now; what the sink had got and has got, and its counts; the status
pub data Shows (from left : Option (List ℕ)) (reads_before reads_now : ℕ) (old new : Option (List ℕ)) (before now : SinkCounts) (status : ℕ) : Type 0 where
  Whole : status ≡ 0 → IsShown from old new → Shows from left reads_before reads_now old new before now status
  Starved : status ≡ 4 → IsCutOff from old new → Shows from left reads_before reads_now old new before now status
  Unread : status ≡ 6 → Rose reads_before reads_now → IsUnread from left old new before now → Shows from left reads_before reads_now old new before now status
  Unwritten : status ≡ 7 → Rose before.faults now.faults → IsCutOff from old new → Shows from left reads_before reads_now old new before now status
