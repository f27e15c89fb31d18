-- No ticket is queued while the store is shut.
use Rattle.std.proofs.Common.{◌≡◌, ℕ, Bool, true, false, cond, List, [], ◌∷◌, refl, sym, ap, subst}
use Rattle.std.specs.List.{AllByRecursion, filter}
use Rattle.mj_base.specs.declared.limits.Limits.{Limits}
use Rattle.mj_queue.specs.Settling.{has_waiter, is_of_client, without_client}
use Rattle.mj_queue.specs.declared.request.Request.{Request}
use Rattle.mj_machine.specs.StoreState.{Access, IsShut, Store, told_by, usable}
use Rattle.mj_machine.specs.MachineState.{Machine, State, Whole}
use Rattle.mj_machine.specs.Leaving.{held_by, left}
use Rattle.mj_machine.specs.EventStep.{Noted}
use Rattle.mj_machine.specs.Steps.{Cause}
use Rattle.mj_machine.proofs.Changes.{IsCarried}
use Rattle.mj_machine.proofs.ListLemmas.{all-append, all-filter}
use Rattle.mj_machine.proofs.SettlingLemmas.{nothing_back, shut-tells}
use Rattle.mj_machine.proofs.StepWalk.{AnyLane, MayBegin, Of, stays-run, walked-kept}
use Rattle.mj_laws.specs.Tickets.{NoTicketWaits, TicketsWaitForTheStore}
use Rattle.mj_laws.proofs.CountLemmas.{all-first}
use Rattle.mj_laws.proofs.WorkerLemmas.{is-pair}

abbrev Clients : List Request → Type 0
Clients queue = AllByRecursion (λ r. is_of_client r.origin ≡ true) queue

-- what passes the filter is a client's
clients-alone : (queue : List Request) → Clients (filter (λ r. is_of_client r.origin) queue)
clients-alone [] = tt
clients-alone (r ∷ rs) = by (is_of_client r.origin) refl (clients-alone rs)
  where
    by : (b : Bool) → is_of_client r.origin ≡ b → Clients (filter (λ q. is_of_client q.origin) rs) → Clients (cond {A = List Request} b (r ∷ filter (λ q. is_of_client q.origin) rs) (filter (λ q. is_of_client q.origin) rs))
    by true is rest = (is, rest)
    by false is rest = rest

waits-left : (n : ℕ) (store : Store) (s : State) → NoTicketWaits store s → NoTicketWaits store (left n (told_by store) s)
waits-left n store s p shut =
    subst Clients (sym (nothing_back (told_by store) (shut-tells store shut) (held_by n s.held) (without_client n s.queue))) (all-filter _ _ s.queue (p shut))

-- an open store isn't shut
not-open : (access : Access) → access ≡ usable → IsShut access → ⊥
not-open access ready shut = subst IsShut ready shut

waits-carried : (cause : Cause) (w0 : Whole) → MayBegin AnyLane cause w0.routing → IsCarried cause w0 (λ d. NoTicketWaits d.0.store d.0.routing)
waits-carried cause w0 free = record {
  marked = λ n w o p. p;
  sends = λ n piece c w o why is slow p. p;
  reported = λ n w o p. p;
  removes = λ n w o p. waits-left n w.store w.routing p;
  ends = λ lane n reason at w o p. waits-left n w.store w.routing p;
  gone = λ n w o p. waits-left n w.store w.routing p;
  expired = λ n w o is p. waits-left n w.store w.routing p;
  asking = λ n c o is plain p. p;
  queued = λ n c message request o told is origin p shut. all-append _ w0.routing.queue (request ∷ []) (p shut) (ap is_of_client origin, tt);
  registers = λ n c message voice service o told is fresh p. p;
  rested = λ n service w o final serves nothing p. p;
  given = λ q w o by is same p shut. (all-first _ (has_waiter w.routing.waiting) w.routing.queue q.request q.requests (is-pair w.routing.waiting w.routing.queue q is).asked (p shut)).1;
  opens = λ lane o is p. p;
  time = λ ms w o p. p;
  counts = λ w o read works p. p;
  shuts = λ doubt w o in_doubt fault only p shut. clients-alone w.routing.queue;
  reopens = λ doubt w o was works only p shut. absurd shut;
  accepts = λ service body w o ready stored room works only p shut. absurd (not-open w.store.access ready shut);
  stores = λ n number body w o ready pending holds works only p. p;
  closes = λ ticket id w o ready found works only p shut. all-filter _ _ w.routing.queue (p shut);
  passes = λ q number is found origin fault p shut. clients-alone w0.routing.queue;
}

abbrev Waits : State → Store → Type 0
Waits s store = NoTicketWaits store s

pub tickets_wait : (limits : Limits) (m : Machine) (events : List Noted) → NoTicketWaits m.store m.state → TicketsWaitForTheStore limits m events
tickets_wait limits m events p =
    stays-run AnyLane Waits (Of Waits) (λ t. Of Waits t.before × Of Waits t.after) (walked-kept AnyLane (Of Waits) waits-carried) (λ s store q lane. tt) limits m events p
