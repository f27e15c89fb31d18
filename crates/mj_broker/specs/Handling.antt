-- What a broker that keeps tickets does of an event: what the machine does of the event with the notes that it gave.
use Rattle.std.specs.Prelude.{ℕ, ◌≡◌, ◌≤◌, Bool, List, [], ◌++◌, Option, None, Some}
use Rattle.mj_base.specs.declared.event.Event.{Event}
use Rattle.mj_base.specs.declared.event.Note.{Note}
use Rattle.mj_base.specs.declared.event.Out.{Out}
use Rattle.mj_base.specs.declared.limits.Limits.{Limits}
use Rattle.mj_disk.specs.declared.disk.Disk.{Ghosts}
use Rattle.mj_queue.specs.declared.request.Request.{Request}
use Rattle.mj_store.specs.Opening.{IsRefusal}
use Rattle.mj_store.specs.Standing.{StoreValue}
use Rattle.mj_machine.specs.DiskActs.{notes_in}
use Rattle.mj_machine.specs.EventStep.{Noted, outs_of, state_after}
use Rattle.mj_machine.specs.MachineState.{Machine, State, start_state}
use Rattle.mj_machine.specs.Steps.{stores_of}
use Rattle.mj_machine.specs.StoreState.{waiting_tickets}
use Rattle.mj_keeper.specs.Standing.{GoesOn, Sees}
use Rattle.mj_keeper.specs.declared.keeper.Keeper.{Keeper}
use Rattle.mj_keeper.specs.declared.keeper.Shelf.{Shelf}
use Rattle.mj_keeper.specs.declared.keeper.Shelf.TheVariants.{Absent, Open}
use Rattle.mj_titanic.specs.Acting.{RoseBy, shut_count}
use Rattle.mj_broker.specs.Wires.{WiresStand}
use Rattle.mj_broker.specs.declared.fault.EventFault.{EventFault}
use Rattle.mj_broker.specs.declared.fault.EventFault.TheVariants as faults
use Rattle.mj_broker.specs.declared.wires.Link.{Link}

-- ---- a broker

-- what contracts see of it: what is routed, what keeps tickets, the reader of each connection's stream, and whether a
-- fault has ended it
pub record BrokerValue : Type 0 where
  pub state : State
  pub keeper : Keeper
  pub wires : List Link
  pub spent : Bool

abbrev pub limits_of : BrokerValue → Limits
limits_of broker = broker.keeper.limits

-- broker and disk stand for the machine: its state, its store, and the whole stream of each connection
pub record IsBroker {D : Type 0} (disks : Ghosts D) (broker : BrokerValue) (disk : D) (m : Machine) : Type 0 where
  pub state : broker.state ≡ m.state
  pub limited : limits_of broker ≡ m.state.limits
  pub store : Sees disks broker.keeper disk m.store
  pub streams : WiresStand (limits_of broker) broker.wires m.streams

-- ---- where it begins

-- there is no store, or its file was opened
abbrev pub shelf_of : Option StoreValue → Shelf
shelf_of None = Absent
shelf_of (Some held) = Open held

-- the requests of its pending tickets, by number
abbrev pub tickets_on : Option StoreValue → List Request
tickets_on None = []
tickets_on (Some held) = waiting_tickets [] held.index

-- nobody is connected, and the pending tickets are queued
abbrev pub begun_state : Limits → Option StoreValue → State
begun_state limits store = record (start_state limits) { queue = tickets_on store }

abbrev pub begun_keeper : Limits → List ℕ → Option StoreValue → Keeper
begun_keeper limits seed store = record { limits = limits; seed = seed; shelf = shelf_of store }

-- ---- an event

-- the event, with what it said of its acts on the disk
abbrev pub noted : Event → List Out → Noted
noted event added = record { event = event; notes = notes_in added }

-- whichever machine broker and disk stood for: they stand for the one after the event, what was added is what it does,
-- and each image of a crash since an earlier start opens as before or as one of the event's stores. The disk's count of
-- faults rose by the acts that failed. Without a store the disk is left as it is.
pub record Handled {D : Type 0} (disks : Ghosts D) (old : BrokerValue) (disk : D) (new : BrokerValue) (after : D) (event : Event) (before behind : List Out) : Type 0 where
  pub added : List Out
  pub outs_are : behind ≡ before ++ added
  pub ends : (m : Machine) → IsBroker disks old disk m
      → IsBroker disks new after (state_after (limits_of old) m (noted event added)) × (outs_of (limits_of old) m (noted event added) ≡ added)
  pub crash : (m : Machine) → IsBroker disks old disk m → GoesOn disks disk after (stores_of (limits_of old) m (noted event added))
  pub count : RoseBy (shut_count (notes_in added)) (disks.faults disk) (disks.faults after)
  pub silent : disks.told after ≡ None → disks.told disk ≡ None
  pub plain : old.keeper.shelf ≡ Absent → (new.keeper.shelf ≡ Absent) × (disks.told after ≡ disks.told disk)

-- ---- an event that ends early

-- the file can't be opened again, or a body in it is damaged
abbrev pub IsRefusing : EventFault → Type 0
IsRefusing faults.Spent = ⊥
IsRefusing faults.NoMemory = ⊥
IsRefusing (faults.Refused fault) = Unit {0}

-- a file is refused for what is in it
abbrev pub IsEventFault : EventFault → Type 0
IsEventFault faults.Spent = Unit {0}
IsEventFault faults.NoMemory = Unit {0}
IsEventFault (faults.Refused fault) = IsRefusal fault

-- for some outcome of its acts each image of a crash opens as before or as one of the event's stores; a refusal never
-- comes of a disk that tells what it holds
pub record Broke {D : Type 0} (disks : Ghosts D) (fault : EventFault) (old : BrokerValue) (disk after : D) (event : Event) : Type 0 where
  pub notes : List Note
  pub crash : (m : Machine) → IsBroker disks old disk m → GoesOn disks disk after (stores_of (limits_of old) m (record { event = event; notes = notes }))
  pub count : disks.faults disk ≤ disks.faults after
  pub refused : IsRefusing fault → disks.told disk ≡ None
  pub plain : old.keeper.shelf ≡ Absent → disks.told after ≡ disks.told disk
