-- Reply ownership: replies reach their asker.
use Rattle.std.specs.Prelude.{ℕ, ◌≡◌, ◌<◌, ◌^◌, ◌⊎◌, Bool, true, false, List, length, Some}
use Rattle.std.specs.List.{AllByRecursion}
use Rattle.mj_base.specs.ServiceName.{is_reserved}
use Rattle.mj_base.specs.declared.event.Out.{Out}
use Rattle.mj_base.specs.declared.event.Out.TheVariants.{End, Note, Piece}
use Rattle.mj_base.specs.declared.limits.Limits.{Limits}
use Rattle.mj_base.specs.declared.version.Version.TheVariants.{Two}
use Rattle.mj_client_cmd.specs.ClientWriting.{reply_frames}
use Rattle.mj_client_cmd.specs.declared.command.ClientCmd.{ClientCmd}
use Rattle.mj_client_cmd.specs.declared.command.ClientReply.{ClientReply}
use Rattle.mj_frame.specs.FrameSpelling.{message_octets}
use Rattle.mj_wire.specs.declared.item.WireItem.TheVariants.{Message}
use Rattle.mj_queue.specs.declared.request.Origin.TheVariants.{Client}
use Rattle.mj_machine.specs.declared.connection.Connection.{Connection}
use Rattle.mj_machine.specs.declared.said.Said.TheVariants.{Asks}
use Rattle.mj_machine.specs.StoreState.{told_by}
use Rattle.mj_machine.specs.MachineState.{Machine, start}
use Rattle.mj_machine.specs.EventStep.{Noted}
use Rattle.mj_machine.specs.Connections.{connection_of, is_asking}
use Rattle.mj_machine.specs.MessageStep.{own_answer, request_of, said_in}
use Rattle.mj_machine.specs.TitanicAnswers.{IsTitanicAnswer}
use Rattle.mj_machine.specs.Sending.{reply_text}
use Rattle.mj_machine.specs.Steps.{Item, Step, run_steps}
use Rattle.mj_laws.specs.Requests.{Replies}

-- these bytes are some reply to a client (ZeroMQ RFC 7, Majordomo/Client)
abbrev pub IsReply : List ℕ → Type 0
IsReply octets = (reply : ClientReply) × (octets ≡ message_octets (reply_frames reply))

-- the step is a reply of a worker that held, before it, a request of the client on this lane; and the bytes are that
-- reply, in the request's service and version
pub record IsOwned (lane : ℕ) (octets : List ℕ) (t : Step) : Type 0 where
  pub worker : ℕ
  pub message : List (List ℕ)
  pub cause : t.cause ≡ Item worker (Message message)
  pub final : Bool
  pub says : Replies final worker (said_in message) t.before.routing
  pub client : ℕ
  pub origin : says.request.origin ≡ Client client
  pub asker : Connection
  pub there : connection_of client t.before.routing.connections ≡ Some asker
  pub asks : is_asking (Some asker) ≡ true
  pub lane_is : asker.lane ≡ lane
  pub text : octets ≡ reply_text final says.request says.body

-- the step is a request of the connection on this lane for a name that the broker always answers itself (ZeroMQ RFC 8),
-- and the bytes are the answer
pub record IsOwnAnswer (lane : ℕ) (octets : List ℕ) (t : Step) : Type 0 where
  pub client : ℕ
  pub message : List (List ℕ)
  pub cause : t.cause ≡ Item client (Message message)
  pub cmd : ClientCmd
  pub said_is : said_in message ≡ Asks cmd
  pub reserved : is_reserved false cmd.service ≡ true
  pub asker : Connection
  pub there : connection_of client t.before.routing.connections ≡ Some asker
  pub lane_is : asker.lane ≡ lane
  pub text : octets ≡ reply_text true (request_of client cmd) (own_answer (told_by t.before.store) (request_of client cmd) t.before.routing)

-- the step is a request of the connection on this lane for a name that the broker answers itself where it has a store
-- (ZeroMQ RFC 9), and the bytes say what is true of the store behind the step
pub record IsTitanics (lane : ℕ) (octets : List ℕ) (t : Step) : Type 0 where
  pub client : ℕ
  pub message : List (List ℕ)
  pub cause : t.cause ≡ Item client (Message message)
  pub cmd : ClientCmd
  pub said_is : said_in message ≡ Asks cmd
  pub free : is_reserved false cmd.service ≡ false
  pub reserved : is_reserved t.before.store.stored cmd.service ≡ true
  pub asker : Connection
  pub there : connection_of client t.before.routing.connections ≡ Some asker
  pub lane_is : asker.lane ≡ lane
  pub frames : List (List ℕ)
  pub says : IsTitanicAnswer t.after.routing.limits cmd.service cmd.body t.after.store frames
  pub text : octets ≡ reply_text true (request_of client cmd) frames

-- a piece that can be read as a reply
abbrev pub IsExplained : Step → Out → Type 0
IsExplained t (Piece lane octets) = IsReply octets → IsOwned lane octets t ⊎ (IsOwnAnswer lane octets t ⊎ IsTitanics lane octets t)
IsExplained t (End lane reason at) = Unit {0}
IsExplained t (Note note) = Unit {0}

abbrev pub RepliesAreOwned : Limits → Machine → List Noted → Type 0
RepliesAreOwned limits m events = AllByRecursion (λ t. AllByRecursion (IsExplained t) t.outs) (run_steps limits m events)

-- ---- without a store

abbrev pub IsExplainedWithout : Step → Out → Type 0
IsExplainedWithout t (Piece lane octets) = IsReply octets → IsOwned lane octets t ⊎ IsOwnAnswer lane octets t
IsExplainedWithout t (End lane reason at) = Unit {0}
IsExplainedWithout t (Note note) = Unit {0}

-- no reply is one of Titanic's
abbrev pub RepliesAreOwnedWithout : Limits → List Noted → Type 0
RepliesAreOwnedWithout limits events = AllByRecursion (λ t. AllByRecursion (IsExplainedWithout t) t.outs) (run_steps limits (start limits) events)

-- ---- one reply of bytes

abbrev pub AreShort : List (List ℕ) → Type 0
AreShort frames = AllByRecursion (λ frame. length frame < 2 ^ 64) frames

-- in 0.1 each reply is the last one
pub record SaysTheSame (reply other : ClientReply) : Type 0 where
  pub version : reply.version ≡ other.version
  pub lead : reply.lead ≡ other.lead
  pub service : reply.service ≡ other.service
  pub body : reply.body ≡ other.body
  pub last : reply.version ≡ Two → reply.last ≡ other.last

-- bytes can be read as one reply alone, whose frames have sizes that fit a head
abbrev pub OneReplyOfBytes : Type 0
OneReplyOfBytes = (reply other : ClientReply) → AreShort (reply_frames reply) → AreShort (reply_frames other)
    → message_octets (reply_frames reply) ≡ message_octets (reply_frames other) → SaysTheSame reply other
