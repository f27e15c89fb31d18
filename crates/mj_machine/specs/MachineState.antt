-- What the broker is between two events, and inside one (ZeroMQ RFC 7 and 9; the guide, chapter 4).
use Rattle.std.specs.Prelude.{ℕ, List, []}
use Rattle.mj_base.specs.declared.event.Note.{Note}
use Rattle.mj_base.specs.declared.event.Out.{Out}
use Rattle.mj_base.specs.declared.limits.Limits.{Limits}
use Rattle.mj_queue.specs.declared.request.Request.{Request}
use Rattle.mj_queue.specs.declared.worker.Waiter.{Waiter}
use Rattle.mj_machine.specs.declared.connection.Connection.{Connection}
use Rattle.mj_machine.specs.declared.held.Held.{Held}
use Rattle.mj_machine.specs.Acts.{Doing}
use Rattle.mj_machine.specs.StoreState.{Store, no_store, tickets_of, waiting_tickets}

-- ---- what is routed

-- the moment in milliseconds and the next connection's number; the connections by rising number; the waiting workers,
-- longest waiting first; the requests that workers hold; and the queued ones, oldest first, of clients and tickets
pub record State : Type 0 where
  pub limits : Limits
  pub now : ℕ
  pub next : ℕ
  pub connections : List Connection
  pub waiting : List Waiter
  pub held : List Held
  pub queue : List Request

-- an act on what is routed
abbrev pub Done : Type 0 → Type 0
Done A = Doing State A

abbrev pub start_state : Limits → State
start_state limits = record { limits = limits; now = 0; next = 1; connections = []; waiting = []; held = []; queue = [] }

-- ---- inside an event

-- what is routed and the store; how many acts on the disk the event has made, and the notes that say what became of each
pub record Whole : Type 0 where
  pub routing : State
  pub store : Store
  pub acts : ℕ
  pub notes : List Note

abbrev pub Act : Type 0
Act = Whole → Doing Whole Out

-- the event begins
abbrev pub entered : State → Store → List Note → Whole
entered state store notes = record { routing = state; store = store; acts = 0; notes = notes }

-- ---- between events

-- all that a connection's peer has sent
pub record Stream : Type 0 where
  pub number : ℕ
  pub octets : List ℕ

-- what is routed, the store, and the streams of all connections that were opened, newest first
pub record Machine : Type 0 where
  pub state : State
  pub store : Store
  pub streams : List Stream

abbrev pub machine_of : Whole → List Stream → Machine
machine_of w streams = record { state = w.routing; store = w.store; streams = streams }

-- a machine between two events
abbrev pub between : Machine → Whole
between m = entered m.state m.store []

-- nobody is connected, and the pending tickets are queued by number
abbrev pub start_with : Limits → Store → Machine
start_with limits store = record { state = record (start_state limits) { queue = waiting_tickets [] (tickets_of store) }; store = store; streams = [] }

-- without a store
abbrev pub start : Limits → Machine
start limits = start_with limits no_store
