-- When a broker stands for the machine.
use Rattle.std.specs.Prelude.{ℕ, ◌≡◌, ⊤, true, false, List, [], ◌∷◌, None, Some}
use Rattle.mj_base.specs.LawfulLimits.{are_lawful}
use Rattle.mj_base.specs.declared.limits.Limits.{Limits}
use Rattle.mj_base.specs.declared.event.Event.{Event}
use Rattle.mj_base.specs.declared.event.Event.TheVariants as events
use Rattle.mj_base.specs.declared.event.Note.{Note}
use Rattle.mj_base.specs.declared.event.Out.{Out}
use Rattle.mj_disk.specs.declared.disk.Disk.{Ghosts}
use Rattle.mj_queue.specs.Settling.{pair}
use Rattle.mj_machine.specs.StoreState.{Store, Told}
use Rattle.mj_machine.specs.MachineState.{Machine, State, Whole, entered}
use Rattle.mj_machine.specs.EventStep.{Happening, happening, happens, streams_after}
use Rattle.mj_machine.specs.Connections.{connection_of, number_on}
use Rattle.mj_machine.specs.Steps.{stores_of}
use Rattle.mj_machine.specs.declared.connection.Connection.{Connection}
use Rattle.mj_keeper.specs.Standing.{IsOneOf, told_on}
use Rattle.mj_keeper.specs.declared.keeper.Keeper.{Keeper}
use Rattle.mj_routing.specs.Returning.{BringsNothing}
use Rattle.mj_routing.specs.RoutingState.{IsIdleAt}
use Rattle.mj_routing.specs.Staying.{IsQueueOf}
use Rattle.mj_wire.specs.WireState.{StandsFor}
use Rattle.mj_titanic.specs.Acting.{Did, Stopped, seen}
use Rattle.mj_titanic.specs.declared.fault.ActFault.{ActFault}
use Rattle.mj_titanic.specs.declared.parts.Parts.{Parts}
use Rattle.mj_broker.specs.declared.wires.Link.{Link}
use Rattle.mj_broker.specs.Wires.{AreFresh, AreLimited, WiresStand, wire_of}

-- each image of the one list of stores is one of the other
abbrev pub AreAmong : List Store → List Store → Type 0
AreAmong xs ys = (image : List ℕ) → IsOneOf xs image → IsOneOf ys image

-- each connection has a reader that may be fed
pub record AreReady (connections : List Connection) (wires : List Link) : Type 0 where
  pub covered : (n : ℕ) → wire_of n wires ≡ None → connection_of n connections ≡ None
  pub fresh : AreFresh wires

-- and no other connection has one; no queued request has a waiting worker
pub record AreSettled (state : State) (wires : List Link) : Type 0 where
  pub ready : AreReady state.connections wires
  pub ended : (n : ℕ) → connection_of n state.connections ≡ None → wire_of n wires ≡ None
  pub settled : pair state.waiting state.queue ≡ None

-- the connection on this lane, where there is one, holds no ticket that still pends
abbrev pub ClosesNothing : Told → ℕ → State → Type 0
ClosesNothing told lane s = (n : ℕ) → number_on lane s.connections ≡ Some n → BringsNothing told n s

-- events that want no memory, where no queued request has a waiting worker: a report, a closing of a connection that
-- holds no ticket, and a tick at which no lease ends and no heartbeat is due
abbrev pub IsIdle : Told → State → Event → Type 0
IsIdle told s (events.Open lane) = ⊥
IsIdle told s (events.Bytes lane piece) = ⊥
IsIdle told s (events.Sent lane) = ⊤
IsIdle told s (events.Close lane) = ClosesNothing told lane s
IsIdle told s (events.Tick ms) = IsIdleAt ms s
IsIdle told s events.Stop = ⊤

-- what holds of a broker that isn't spent: with a store the limits are lawful
pub record IsKept (keeper : Keeper) (state : State) (wires : List Link) : Type 0 where
  pub settled : AreSettled state wires
  pub queue : IsQueueOf keeper.shelf state.queue
  pub lawful : (told_on keeper.shelf).stored ≡ true → are_lawful keeper.limits ≡ true
  pub limited : AreLimited keeper.limits wires

-- an event took the parts and the readers of the connections to those behind it
pub record Happened {D : Type 0} (disks : Ghosts D) (event : Event) (old : Parts) (disk : D) (new : Parts) (after : D) (wires wires_now : List Link) (before outs : List Out) : Type 0 where
  pub what : Happening
  pub stores : Whole → List Store
  pub did : Did disks (seen old) disk (seen new) after before outs (happens what) stores
  pub is : (m : Machine) → old.routing ≡ m.state → WiresStand old.keeping.keeper.limits wires m.streams → happening old.keeping.keeper.limits m event ≡ what
  pub streams : (m : Machine) → old.routing ≡ m.state → WiresStand old.keeping.keeper.limits wires m.streams → WiresStand old.keeping.keeper.limits wires_now (streams_after m event)
  pub among : (m : Machine) (notes : List Note) → old.routing ≡ m.state → WiresStand old.keeping.keeper.limits wires m.streams → AreAmong (stores (entered m.state m.store notes)) (stores_of old.keeping.keeper.limits m (record { event = event; notes = notes }))

-- it ended early
pub record Halted {D : Type 0} (disks : Ghosts D) (fault : ActFault) (event : Event) (old : Parts) (disk after : D) (wires : List Link) : Type 0 where
  pub stores : Whole → List Store
  pub stopped : Stopped disks fault (seen old) disk after stores
  pub among : (m : Machine) (notes : List Note) → old.routing ≡ m.state → WiresStand old.keeping.keeper.limits wires m.streams → AreAmong (stores (entered m.state m.store notes)) (stores_of old.keeping.keeper.limits m (record { event = event; notes = notes }))

-- a reader with these limits was put in front, which was fed nothing
pub record Links (limits : Limits) (number : ℕ) (before now : List Link) : Type 0 where
  pub link : Link
  pub whole : now ≡ link ∷ before
  pub numbered : link.number ≡ number
  pub unspent : link.wire.spent ≡ false
  pub limited : link.wire.limits ≡ limits
  pub stands : StandsFor limits link.wire []
