-- Sending a piece to a connection, and what becomes of a peer that doesn't take what it is sent.
use Rattle.std.specs.Prelude.{ℕ, ◌+◌, nat_le, nat_lt, Bool, true, false, ◌||◌, List, [], ◌∷◌, ◌++◌, length, sum, Option, None, Some}
use Rattle.std.specs.Int.{to_be_bytes, w64}
use Rattle.mj_base.specs.declared.event.Out.{Out}
use Rattle.mj_base.specs.declared.event.Out.TheVariants.{Piece}
use Rattle.mj_base.specs.declared.limits.Limits.{Limits}
use Rattle.mj_base.specs.declared.reason.Reason.TheVariants.{Slow}
use Rattle.mj_client_cmd.specs.ClientWriting.{reply_frames}
use Rattle.mj_frame.specs.FrameSpelling.{message_octets}
use Rattle.mj_queue.specs.declared.request.Origin.{Origin}
use Rattle.mj_queue.specs.declared.request.Origin.TheVariants.{Client, Ticket}
use Rattle.mj_queue.specs.declared.request.Request.{Request}
use Rattle.mj_worker_cmd.specs.WorkerWriting.{order_frames}
use Rattle.mj_worker_cmd.specs.declared.command.OrderAct.{OrderAct}
use Rattle.mj_machine.specs.declared.connection.Connection.{Connection}
use Rattle.mj_machine.specs.declared.connection.Voice.{Voice}
use Rattle.mj_machine.specs.StoreState.{Told}
use Rattle.mj_machine.specs.MachineState.{Done, State}
use Rattle.mj_machine.specs.Connections.{changed, connection_of, spoken_to}
use Rattle.mj_machine.specs.Acts.{quiet}
use Rattle.mj_machine.specs.Leaving.{ends}

-- one piece more would be too many, or their bytes too many
abbrev pub is_slow : Limits → Connection → ℕ → Bool
is_slow limits c octets = nat_le limits.out_pieces (length c.outstanding) || nat_lt limits.out_octets (sum c.outstanding + octets)

-- one piece more is on its way to the connection
abbrev pub sent : ℕ → ℕ → Connection → Connection
sent now octets c = record c { role = spoken_to now c.role; outstanding = c.outstanding ++ octets ∷ [] }

-- a peer that is too slow is cut off, with the bytes that it hasn't taken
abbrev pub sends_if : Bool → ℕ → List ℕ → Connection → Told → State → Done Out
sends_if true n piece c told s = ends c.lane n Slow (sum c.outstanding) told s
sends_if false n piece c told s = (record s { connections = changed n (sent s.now (length piece)) s.connections }, Piece c.lane piece ∷ [])

abbrev pub sends_to : ℕ → List ℕ → Option Connection → Told → State → Done Out
sends_to n piece None told s = quiet s
sends_to n piece (Some c) told s = sends_if (is_slow s.limits c (length piece)) n piece c told s

abbrev pub sends : ℕ → List ℕ → Told → State → Done Out
sends n piece told s = sends_to n piece (connection_of n s.connections) told s

-- the client's connection number behind `C`, a ticket's number behind `T`
abbrev pub address : Origin → List ℕ
address (Client n) = 67 ∷ to_be_bytes w64 n
address (Ticket n) = 84 ∷ to_be_bytes w64 n

-- the bytes of a command to a worker (ZeroMQ RFC 7, Majordomo/Worker)
abbrev pub order_text : Voice → OrderAct → List ℕ
order_text voice act = message_octets (order_frames (record { version = voice.version; lead = voice.lead; act = act }))

-- the bytes of a reply to a client, in its request's version and form (ZeroMQ RFC 7, Majordomo/Client)
abbrev pub reply_text : Bool → Request → List (List ℕ) → List ℕ
reply_text last request body = message_octets (reply_frames (record {
  version = request.version;
  lead = request.lead;
  last = last;
  service = request.service;
  body = body;
}))
