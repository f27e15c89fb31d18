-- What holds of the broker at every moment of every run.
use Rattle.std.specs.Prelude.{ℕ, ◌≡◌, ◌≢◌, ◌⊎◌, ◌+◌, ◌==◌, ◌<◌, ◌≤◌, Bool, true, false, List, [], ◌∷◌, length, sum, Option, None, Some}
use Rattle.std.specs.List.{AllByRecursion}
use Rattle.mj_base.specs.declared.limits.Limits.{Limits}
use Rattle.mj_queue.specs.declared.request.Origin.{Origin}
use Rattle.mj_queue.specs.declared.request.Origin.TheVariants as origins
use Rattle.mj_queue.specs.declared.worker.Waiter.{Waiter}
use Rattle.mj_machine.specs.declared.connection.Connection.{Connection}
use Rattle.mj_machine.specs.declared.held.Held.{Held}
use Rattle.mj_machine.specs.StoreState.{Store, no_store, opened_store}
use Rattle.mj_machine.specs.MachineState.{Machine, State}
use Rattle.mj_machine.specs.Connections.{connection_of, is_asking, service_of}
use Rattle.mj_machine.specs.EventStep.{Noted}
use Rattle.mj_machine.specs.MachineRun.{run_state}
use Rattle.mj_tickets.specs.declared.command.TicketCmd.{TicketCmd}
use Rattle.mj_machine.specs.Steps.{run_steps}

-- ---- workers

-- in how many places a worker stands
abbrev pub places : Option (List ℕ) → ℕ
places None = 0
places (Some service) = 1

abbrev pub one_if : Bool → ℕ
one_if true = 1
one_if false = 0

-- how many elements pass
abbrev pub times : {X : Type 0} → (X → Bool) → List X → ℕ
times p [] = 0
times p (x ∷ xs) = one_if (p x) + times p xs

abbrev pub waitings : ℕ → List Waiter → ℕ
waitings n waiting = times (λ w. w.worker == n) waiting

abbrev pub holdings : ℕ → List Held → ℕ
holdings n held = times (λ h. h.worker == n) held

-- each worker waits once or holds one request, and nobody else does either
abbrev pub WorkersStandOnce : State → Type 0
WorkersStandOnce s = (n : ℕ) → waitings n s.waiting + holdings n s.held ≡ places (service_of (connection_of n s.connections))

-- it waits for its own service, and holds requests for it alone
abbrev pub ServicesAgree : State → Type 0
ServicesAgree s =
    AllByRecursion (λ w. service_of (connection_of w.worker s.connections) ≡ Some w.service) s.waiting
    × AllByRecursion (λ h. service_of (connection_of h.worker s.connections) ≡ Some h.request.service) s.held

-- ---- clients

-- no ticket is queued without a store
abbrev pub IsThere : Bool → List Connection → Origin → Type 0
IsThere stored connections (origins.Client n) = is_asking (connection_of n connections) ≡ true
IsThere stored connections (origins.Ticket n) = stored ≡ true

-- whoever has a request in the queue is there and is a client, or it is a ticket
abbrev pub AskersAreThere : Bool → State → Type 0
AskersAreThere stored s = AllByRecursion (λ r. IsThere stored s.connections r.origin) s.queue

-- ---- connections

-- no two have the same key
abbrev pub IsApart : (Connection → ℕ) → List Connection → Type 0
IsApart key [] = Unit {0}
IsApart key (c ∷ cs) = AllByRecursion (λ d. key d ≢ key c) cs × IsApart key cs

-- numbers are below the next, and no two connections share one
abbrev pub NumbersAreFresh : State → Type 0
NumbersAreFresh s = AllByRecursion (λ c. c.number < s.next) s.connections × IsApart (λ c. c.number) s.connections

-- no two connections share a lane
abbrev pub LanesAreApart : State → Type 0
LanesAreApart s = IsApart (λ c. c.lane) s.connections

-- what is on its way to each peer is within the limits, in pieces and in bytes
abbrev pub PiecesFit : Limits → State → Type 0
PiecesFit limits s =
    (s.limits ≡ limits)
    × AllByRecursion (λ c. (length c.outstanding ≤ limits.out_pieces) × (sum c.outstanding ≤ limits.out_octets)) s.connections

pub record IsSound (limits : Limits) (stored : Bool) (s : State) : Type 0 where
  pub once : WorkersStandOnce s
  pub services : ServicesAgree s
  pub askers : AskersAreThere stored s
  pub numbers : NumbersAreFresh s
  pub lanes : LanesAreApart s
  pub pieces : PiecesFit limits s

-- before and after each step, and at the end
abbrev pub StaysSound : Limits → Machine → List Noted → Type 0
StaysSound limits m events =
    AllByRecursion (λ t. IsSound limits m.store.stored t.before.routing × IsSound limits m.store.stored t.after.routing) (run_steps limits m events)
    × IsSound limits m.store.stored (run_state limits m events).state

-- ---- where runs begin

-- a run begins without a store, or over a file that was opened, whatever commands it has
abbrev pub IsBegun : Store → Type 0
IsBegun store = (store ≡ no_store) ⊎ ((seed : List ℕ) × (base : ℕ) × (commands : List TicketCmd) × (store ≡ opened_store seed base commands))
