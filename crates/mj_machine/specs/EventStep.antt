-- What one event does: the machine after it, and what is then done to its lanes.
use Rattle.std.specs.Prelude.{ℕ, ◌+◌, ◌==◌, List, [], ◌∷◌, ◌++◌, drop, Option, None, Some, if◌then◌else◌}
use Rattle.std.specs.Option.{option_map, unwrap_or}
use Rattle.std.specs.List.{find}
use Rattle.mj_base.specs.declared.event.Event.{Event}
use Rattle.mj_base.specs.declared.event.Event.TheVariants as events
use Rattle.mj_base.specs.declared.event.Note.{Note}
use Rattle.mj_base.specs.declared.event.Out.{Out}
use Rattle.mj_base.specs.declared.limits.Limits.{Limits}
use Rattle.mj_base.specs.declared.reason.Reason.{Reason}
use Rattle.mj_greeting.specs.GreetingGrammar.{broker_greeting}
use Rattle.mj_handshake.specs.ReadyGrammar.{ready_frame}
use Rattle.mj_handshake.specs.declared.socket_type.SocketType.TheVariants.{Router}
use Rattle.mj_wire.specs.StreamItems.{gained}
use Rattle.mj_wire.specs.declared.item.WireItem.{WireItem}
use Rattle.mj_wire.specs.declared.item.WireItem.TheVariants as items
use Rattle.mj_machine.specs.declared.connection.Connection.{Connection}
use Rattle.mj_machine.specs.declared.connection.Role.TheVariants.{Fresh}
use Rattle.mj_machine.specs.StoreState.{Told}
use Rattle.mj_machine.specs.MachineState.{Act, Done, Machine, State, Stream, Whole, entered, machine_of}
use Rattle.mj_machine.specs.Connections.{changed, connection_of, number_on}
use Rattle.mj_machine.specs.Acts.{Doing, each, quiet, ◌then◌}
use Rattle.mj_machine.specs.Leaving.{ends, removed}
use Rattle.mj_machine.specs.Sending.{sends}
use Rattle.mj_machine.specs.DiskActs.{routes}
use Rattle.mj_machine.specs.Pairing.{settles}
use Rattle.mj_machine.specs.MessageStep.{message_step}
use Rattle.mj_machine.specs.TickStep.{ticks}

-- ---- one item of a stream

abbrev pub ends_by : ℕ → Option Connection → Reason → ℕ → Told → State → Done Out
ends_by n None reason at told s = quiet s
ends_by n (Some c) reason at told s = ends c.lane n reason at told s

abbrev pub ends_at : ℕ → Reason → ℕ → Told → State → Done Out
ends_at n reason at told s = ends_by n (connection_of n s.connections) reason at told s

-- READY follows the peer's greeting; the peer's READY says nothing further; a fault ends the connection
abbrev pub item_step : ℕ → WireItem → Act
item_step n items.Accepted w = routes (sends n (ready_frame Router)) w
item_step n (items.Ready kind) w = quiet w
item_step n (items.Message message) w = message_step n message w
item_step n (items.Ended reason at) w = routes (ends_at n reason at) w

-- ---- an event, with the items of a stream in place of its bytes

pub data Happening : Type 0 where
  Opens : (lane : ℕ) → Happening
  Gains : (lane : ℕ) (gain : List WireItem) → Happening
  Reports : (lane : ℕ) → Happening
  Closes : (lane : ℕ) → Happening
  Ticks : (ms : ℕ) → Happening
  Stops : Happening

abbrev pub closes : Option ℕ → Told → State → State
closes None told s = s
closes (Some n) told s = removed n told s

abbrev pub closes_on : ℕ → Told → State → Done Out
closes_on lane told s = quiet (closes (number_on lane s.connections) told s)

-- a connection that nothing was sent to and that has sent nothing
abbrev pub opened : ℕ → State → State
opened lane s = record s {
  next = s.next + 1;
  connections = s.connections ++ record { lane = lane; number = s.next; role = Fresh; outstanding = [] } ∷ [];
}

-- it is greeted at once
abbrev pub opens : ℕ → Told → State → Done Out
opens lane told s = sends s.next broker_greeting told (opened lane s)

abbrev pub gains : Option ℕ → List WireItem → Act
gains None gain w = quiet w
gains (Some n) gain w = each (item_step n) gain w

-- the oldest piece was sent
abbrev pub delivered : Connection → Connection
delivered c = record c { outstanding = drop 1 c.outstanding }

abbrev pub reports : Option ℕ → State → State
reports None s = s
reports (Some n) s = record s { connections = changed n delivered s.connections }

abbrev pub reports_on : ℕ → Told → State → Done Out
reports_on lane told s = quiet (reports (number_on lane s.connections) s)

abbrev pub effect : Happening → Act
effect (Opens lane) w = routes (closes_on lane) w then routes (opens lane)
effect (Gains lane gain) w = gains (number_on lane w.routing.connections) gain w
effect (Reports lane) w = routes (reports_on lane) w
effect (Closes lane) w = routes (closes_on lane) w
effect (Ticks ms) w = routes (ticks ms) w
effect Stops w = quiet w

-- settling comes last
abbrev pub happens : Happening → Act
happens h w = effect h w then settles

-- ---- an event

-- an event, and the notes that say what becomes of its acts on the disk
pub record Noted : Type 0 where
  pub event : Event
  pub notes : List Note

abbrev pub stream_of : ℕ → List Stream → List ℕ
stream_of n streams = unwrap_or (option_map (λ t. t.octets) (find (λ t. t.number == n) streams)) []

abbrev pub longer : List ℕ → Stream → Stream
longer piece t = record t { octets = t.octets ++ piece }

abbrev pub fed : ℕ → List ℕ → List Stream → List Stream
fed n piece [] = []
fed n piece (t ∷ ts) = if t.number == n then longer piece t ∷ ts else t ∷ fed n piece ts

abbrev pub fed_by : Option ℕ → List ℕ → List Stream → List Stream
fed_by None piece streams = streams
fed_by (Some n) piece streams = fed n piece streams

-- the items that a piece adds to the connection's stream
abbrev pub gain_of : Limits → Option ℕ → List ℕ → List Stream → List WireItem
gain_of limits None piece streams = []
gain_of limits (Some n) piece streams = gained limits (stream_of n streams) piece

abbrev pub happening : Limits → Machine → Event → Happening
happening limits m (events.Open lane) = Opens lane
happening limits m (events.Bytes lane piece) = Gains lane (gain_of limits (number_on lane m.state.connections) piece m.streams)
happening limits m (events.Sent lane) = Reports lane
happening limits m (events.Close lane) = Closes lane
happening limits m (events.Tick ms) = Ticks ms
happening limits m events.Stop = Stops

abbrev pub streams_after : Machine → Event → List Stream
streams_after m (events.Open lane) = record { number = m.state.next; octets = [] } ∷ m.streams
streams_after m (events.Bytes lane piece) = fed_by (number_on lane m.state.connections) piece m.streams
streams_after m (events.Sent lane) = m.streams
streams_after m (events.Close lane) = m.streams
streams_after m (events.Tick ms) = m.streams
streams_after m events.Stop = m.streams

abbrev pub does : Limits → Machine → Noted → Doing Whole Out
does limits m e = happens (happening limits m e.event) (entered m.state m.store e.notes)

abbrev pub state_after : Limits → Machine → Noted → Machine
state_after limits m e = machine_of (does limits m e).0 (streams_after m e.event)

abbrev pub outs_of : Limits → Machine → Noted → List Out
outs_of limits m e = (does limits m e).1
