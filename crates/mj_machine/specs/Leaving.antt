-- What a connection's leaving takes with it.
use Rattle.std.specs.Prelude.{ℕ, ◌==◌, Bool, false, not, List, [], ◌∷◌, ◌++◌, Option, None, Some, if◌then◌else◌}
use Rattle.std.specs.Option.{option_map}
use Rattle.std.specs.List.{filter, find}
use Rattle.mj_base.specs.declared.event.Out.{Out}
use Rattle.mj_base.specs.declared.event.Out.TheVariants.{End}
use Rattle.mj_base.specs.declared.reason.Reason.{Reason}
use Rattle.mj_queue.specs.Settling.{without_client, without_worker}
use Rattle.mj_queue.specs.declared.request.Origin.{Origin}
use Rattle.mj_queue.specs.declared.request.Origin.TheVariants as origins
use Rattle.mj_queue.specs.declared.request.Request.{Request}
use Rattle.mj_machine.specs.declared.connection.Connection.{Connection}
use Rattle.mj_machine.specs.declared.connection.Role.{Role}
use Rattle.mj_machine.specs.declared.connection.Role.TheVariants.{Gone}
use Rattle.mj_machine.specs.declared.held.Held.{Held}
use Rattle.mj_machine.specs.StoreState.{Told}
use Rattle.mj_machine.specs.MachineState.{Done, State}
use Rattle.mj_machine.specs.Connections.{changed, with_role}

-- ---- held requests

-- what a worker holds
abbrev pub held_by : ℕ → List Held → Option Request
held_by n held = option_map (λ h. h.request) (find (λ h. h.worker == n) held)

abbrev pub held_without : ℕ → List Held → List Held
held_without n held = filter (λ h. not (h.worker == n)) held

-- a ticket that is pending while the store is open outlives its worker
abbrev pub comes_back : Told → Origin → Bool
comes_back told (origins.Client n) = false
comes_back told (origins.Ticket n) = told.pends n

-- it goes to the queue's end again; every other held request is dropped
abbrev pub given_back : Told → Option Request → List Request → List Request
given_back told None queue = queue
given_back told (Some request) queue = if comes_back told request.origin then queue ++ request ∷ [] else queue

-- ---- leaving

-- it waits no more, what it holds is given back or dropped, and what it has queued is dropped
abbrev pub left : ℕ → Told → State → State
left n told s = record s {
  waiting = without_worker n s.waiting;
  held = held_without n s.held;
  queue = given_back told (held_by n s.held) (without_client n s.queue);
}

abbrev pub becomes : ℕ → Role → State → State
becomes n role s = record s { connections = changed n (with_role role) s.connections }

-- it stays, and is passed over from now on
abbrev pub goes : ℕ → Told → State → State
goes n told s = becomes n Gone (left n told s)

abbrev pub connections_without : ℕ → List Connection → List Connection
connections_without n connections = filter (λ c. not (c.number == n)) connections

abbrev pub cut_off : ℕ → State → State
cut_off n s = record s { connections = connections_without n s.connections }

-- it is there no more
abbrev pub removed : ℕ → Told → State → State
removed n told s = cut_off n (left n told s)

abbrev pub ends : ℕ → ℕ → Reason → ℕ → Told → State → Done Out
ends lane n reason at told s = (removed n told s, End lane reason at ∷ [])
