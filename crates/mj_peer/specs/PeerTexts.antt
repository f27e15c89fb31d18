-- What the two ends write, and what they take a message of the broker for (ZeroMQ RFC 7 and 23).
use Rattle.std.specs.Prelude.{ℕ, ◌≡◌, ⊤, Bool, true, false, List, ◌++◌, Option}
use Rattle.mj_base.specs.declared.version.Version.{Version}
use Rattle.mj_base.specs.declared.version.Version.TheVariants.{One, Two}
use Rattle.mj_client_cmd.specs.ClientReading.{reply_of}
use Rattle.mj_client_cmd.specs.ClientWriting.{request_frames}
use Rattle.mj_client_cmd.specs.declared.command.ClientReply.{ClientReply}
use Rattle.mj_frame.specs.FrameSpelling.{message_octets}
use Rattle.mj_greeting.specs.GreetingGrammar.{broker_greeting}
use Rattle.mj_handshake.specs.ReadyGrammar.{ready_frame}
use Rattle.mj_handshake.specs.declared.socket_type.SocketType.{SocketType}
use Rattle.mj_handshake.specs.declared.socket_type.SocketType.TheVariants.{Req, Dealer}
use Rattle.mj_worker_cmd.specs.WorkerReading.{order_of}
use Rattle.mj_worker_cmd.specs.WorkerWriting.{worker_frames}
use Rattle.mj_worker_cmd.specs.declared.command.Order.{Order}
use Rattle.mj_worker_cmd.specs.declared.command.WorkerAct.{WorkerAct}
use Rattle.mj_worker_cmd.specs.declared.command.WorkerAct.TheVariants as said

-- how a link begins: the greeting, and READY of a socket of this type
unfoldable pub hello : SocketType → List ℕ
hello kind = broker_greeting ++ ready_frame kind

-- the socket that a client is
abbrev pub client_type : Version → SocketType
client_type One = Req
client_type Two = Dealer

-- in 0.1 the empty frame stands first; in 0.2 the ends leave it out
abbrev pub leads : Version → Bool
leads One = true
leads Two = false

abbrev pub same_version : Version → Version → Bool
same_version One One = true
same_version One Two = false
same_version Two One = false
same_version Two Two = true

-- a client's request: version, service and body
unfoldable pub request_text : Version → List ℕ → List (List ℕ) → List ℕ
request_text version service body = message_octets (request_frames (record { version = version; lead = leads version; service = service; body = body }))

-- a worker's command
unfoldable pub said_text : Version → WorkerAct → List ℕ
said_text version act = message_octets (worker_frames (record { version = version; lead = leads version; act = act }))

-- only in 0.2 is a reply followed by another
abbrev pub MaySay : WorkerAct → Version → Type 0
MaySay (said.Ready service) version = ⊤
MaySay (said.Reply true address body) version = ⊤
MaySay (said.Reply false address body) version = version ≡ Two
MaySay said.Heartbeat version = ⊤
MaySay said.Disconnect version = ⊤

-- the reply to a client that a message is
unfoldable pub reply_in : List (List ℕ) → Option ClientReply
reply_in message = reply_of message

-- the command to a worker that a message is
unfoldable pub order_in : List (List ℕ) → Option Order
order_in message = order_of message
