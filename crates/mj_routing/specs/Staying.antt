-- What no act on what is routed changes, but for an opening.
use Rattle.std.specs.Prelude.{ℕ, ◌≡◌, ⊤, true, false, List, [], None}
use Rattle.std.specs.List.{AllByRecursion}
use Rattle.mj_base.specs.declared.event.Out.{Out}
use Rattle.mj_queue.specs.Settling.{is_of_client}
use Rattle.mj_queue.specs.declared.request.Request.{Request}
use Rattle.mj_machine.specs.Connections.{connection_of}
use Rattle.mj_machine.specs.DiskActs.{notes_in}
use Rattle.mj_machine.specs.MachineState.{Done, State}
use Rattle.mj_machine.specs.StoreState.{Told}
use Rattle.mj_keeper.specs.declared.keeper.Shelf.{Shelf}
use Rattle.mj_keeper.specs.declared.keeper.Shelf.TheVariants.{Absent, Open, Shut}

-- requests of clients, and none of a ticket
abbrev pub OnlyClients : List Request → Type 0
OnlyClients requests = AllByRecursion (λ r. is_of_client r.origin ≡ true) requests

-- no ticket is told to be pending
abbrev pub TellsNothing : Told → Type 0
TellsNothing told = (n : ℕ) → told.pends n ≡ false

-- the limits and the next number; no connection is new; and no ticket is queued where none was and none is pending
pub record Stays (told : Told) (old now : State) : Type 0 where
  pub limits : now.limits ≡ old.limits
  pub next : now.next ≡ old.next
  pub absent : (n : ℕ) → connection_of n old.connections ≡ None → connection_of n now.connections ≡ None
  pub clients : TellsNothing told → OnlyClients old.queue → OnlyClients now.queue

-- an act that is told so much: it says nothing of the disk
pub record IsPlain (told : Told) (s : State) (d : Done Out) : Type 0 where
  pub notes : notes_in d.1 ≡ []
  pub stays : Stays told s d.0

-- no ticket is queued unless the store is open
abbrev pub IsQueueOf : Shelf → List Request → Type 0
IsQueueOf Absent queue = OnlyClients queue
IsQueueOf (Open held) queue = ⊤
IsQueueOf (Shut end) queue = OnlyClients queue

-- the same where the shelf may have changed
pub record StaysBeside (shelf shelf_now : Shelf) (old now : State) : Type 0 where
  pub limits : now.limits ≡ old.limits
  pub next : now.next ≡ old.next
  pub absent : (n : ℕ) → connection_of n old.connections ≡ None → connection_of n now.connections ≡ None
  pub queue : IsQueueOf shelf old.queue → IsQueueOf shelf_now now.queue
