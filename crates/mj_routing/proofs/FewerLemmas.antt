-- Each pair that is dispatched leaves fewer workers and requests.
use Rattle.std.proofs.Common.{◌≡◌, ◌+◌, ◌<◌, ◌≤◌, ◌==◌, ℕ, Bool, true, false, not, cond, List, [], ◌∷◌, length, Option, None, Some, refl, sym, ap, subst, arith, length-append}
use Rattle.std.specs.List.{filter}
use Rattle.mj_queue.specs.declared.request.Origin.TheVariants as origins
use Rattle.mj_queue.specs.declared.request.Request.{Request}
use Rattle.mj_queue.specs.Settling.{Pair, has_waiter, is_client, is_of_client, pair, without_client, without_worker}
use Rattle.mj_machine.specs.declared.connection.Connection.{Connection}
use Rattle.mj_machine.specs.StoreState.{Told}
use Rattle.mj_machine.specs.MachineState.{State}
use Rattle.mj_machine.specs.Connections.{connection_of, voice_of}
use Rattle.mj_machine.specs.DiskActs.{clients_alone}
use Rattle.mj_machine.specs.Leaving.{held_by}
use Rattle.mj_machine.specs.Pairing.{handed, hands, request_text, waits, with_body}
use Rattle.mj_machine.specs.Sending.{is_slow, sends_if, sends_to}
use Rattle.mj_machine.proofs.SettlingLemmas.{drops-one, fewer, first-shorter, pair-fewer, pair-is, worker-fewer}
use Rattle.mj_keeper.specs.declared.keeper.Shelf.{Shelf}
use Rattle.mj_keeper.specs.declared.keeper.Shelf.TheVariants as shelves
use Rattle.mj_routing.specs.Returning.{coming_back, put_last}
use Rattle.mj_routing.specs.Staying.{IsQueueOf, OnlyClients, StaysBeside}
use Rattle.mj_routing.proofs.ReturningLemmas.{given-last}

-- how many wait, on both sides
abbrev pub total : State → ℕ
total s = length s.waiting + length s.queue

last-longer : (o : Option Request) (queue : List Request) → length (put_last o queue) ≤ length queue + 1
last-longer None queue = omega arith
last-longer (Some r) queue = let is = length-append queue (r ∷ []) in omega (arith, is)

module _ (told : Told) where
  record Grows (s t : State) : Type 0 where
    waiting : length t.waiting ≤ length s.waiting
    queue : length t.queue ≤ length s.queue + 1

  sends_if-grows : (b : Bool) (n : ℕ) (piece : List ℕ) (c : Connection) (s : State) → Grows s (sends_if b n piece c told s).0
  sends_if-grows true n piece c s =
      let left = without_client n s.queue in
      let shorter = fewer (λ r. not (is_client n r.origin)) s.queue in
      let back = last-longer (coming_back told (held_by n s.held)) left in
      let is = ap length (given-last told (held_by n s.held) left) in
      record { waiting = fewer (λ w. not (w.worker == n)) s.waiting; queue = omega (arith, shorter, back, is) }
  sends_if-grows false n piece c s = record { waiting = omega arith; queue = omega arith }

  sends_to-grows : (n : ℕ) (piece : List ℕ) (found : Option Connection) (s : State) → Grows s (sends_to n piece found told s).0
  sends_to-grows n piece None s = record { waiting = omega arith; queue = omega arith }
  sends_to-grows n piece (Some c) s = sends_if-grows (is_slow s.limits c (length piece)) n piece c s

  pub fewer-hands : (body : List (List ℕ)) (p : Pair) (s : State) → pair s.waiting s.queue ≡ Some p → total (hands body p told s).0 < total s
  fewer-hands body p s e =
      let n = p.waiter.worker in
      let t = handed p s in
      let grows = sends_to-grows n (request_text (voice_of (connection_of n s.connections)) (with_body body p.request)) (connection_of n t.connections) t in
      let one = grows.waiting in
      let two = grows.queue in
      let fewer_wait = pair-fewer s.waiting s.queue p e in
      let asked = first-shorter (has_waiter s.waiting) s.queue p.request p.requests (pair-is s.waiting s.queue p e).asked in
      omega (arith, one, two, fewer_wait, asked)

pub fewer-passes : (p : Pair) (n : ℕ) (s : State) → pair s.waiting s.queue ≡ Some p → p.request.origin ≡ origins.Ticket n → total (waits p.waiter.worker p.waiter.service (clients_alone s)) < total s
fewer-passes p n s e of_ticket =
    let worker = p.waiter.worker in
    let less = worker-fewer s.waiting s.queue p e in
    let joined = length-append (without_worker worker s.waiting) (record { worker = worker; service = p.waiter.service } ∷ []) in
    let asked = (pair-is s.waiting s.queue p e).asked in
    let no : is_of_client p.request.origin ≡ false = ap is_of_client of_ticket in
    let shrinks : length (filter (λ r. is_of_client r.origin) s.queue) < length s.queue =
    subst (λ (q : List Request). length (filter (λ r. is_of_client r.origin) q) < length q) (sym asked.whole)
    (drops-one (λ (r : Request). is_of_client r.origin) asked.before p.request asked.after no) in
    omega (arith, less, joined, shrinks)

-- ---- where no ticket stays queued

all-clients : (queue : List Request) → OnlyClients (filter (λ r. is_of_client r.origin) queue)
all-clients [] = tt
all-clients (r ∷ rs) = by (is_of_client r.origin) refl (all-clients rs)
  where
    by : (b : Bool) → is_of_client r.origin ≡ b → OnlyClients (filter (λ q. is_of_client q.origin) rs) → OnlyClients (cond {A = List Request} b (r ∷ filter (λ q. is_of_client q.origin) rs) (filter (λ q. is_of_client q.origin) rs))
    by true is rest = (is, rest)
    by false is rest = rest

clients-of : (shelf : Shelf) (queue : List Request) → OnlyClients queue → IsQueueOf shelf queue
clients-of shelves.Absent queue clients = clients
clients-of (shelves.Open held) queue clients = tt
clients-of (shelves.Shut end) queue clients = clients

pub beside-shut : (shelf shelf_now : Shelf) (s : State) → StaysBeside shelf shelf_now s (clients_alone s)
beside-shut shelf shelf_now s = record { limits = refl; next = refl; absent = λ n none. none; queue = λ any. clients-of shelf_now _ (all-clients s.queue) }
