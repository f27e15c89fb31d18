-- Settling turn by turn: it ends, and then no queued request has a waiting worker.
use Rattle.std.proofs.Common.{◌≡◌, ◌≤◌, ◌<◌, ◌+◌, ◌==◌, ◌||◌, ℕ, zero, suc, Bool, true, false, not, cond, List, [], ◌∷◌, ◌++◌, length, Option, None, Some, MatchOption, refl, sym, ap, subst, ◌∙◌, arith, length-append}
use Rattle.std.specs.Option.{option_map}
use Rattle.std.specs.List.{filter, list_any}
use Rattle.std.proofs.lemmas.List.Filters.{length-filter_both}
use Rattle.std.proofs.lemmas.List.{nil_from_length}
use Rattle.mj_base.specs.declared.event.Out.{Out}
use Rattle.mj_queue.specs.declared.request.Origin.{Origin}
use Rattle.mj_queue.specs.declared.request.Origin.TheVariants as origins
use Rattle.mj_queue.specs.declared.request.Request.{Request}
use Rattle.mj_queue.specs.declared.worker.Waiter.{Waiter}
use Rattle.mj_queue.specs.Settling.{Pair, is_of_client, pair, paired, has_waiter, take_first, put_back, without_client, without_worker}
use Rattle.mj_queue.specs.PairLaw.{IsFirst, IsPair}
use Rattle.mj_queue.proofs.LawLemmas.{pair-is-first}
use Rattle.mj_machine.specs.declared.connection.Connection.{Connection}
use Rattle.mj_machine.specs.StoreState.{Access, IsShut, Open, Shut, Store, Told, pends_while, ticket_body, tickets_of, told_by}
use Rattle.mj_machine.specs.MachineState.{State, Whole}
use Rattle.mj_machine.specs.Connections.{connection_of, voice_of}
use Rattle.mj_machine.specs.Acts.{Doing, behind, quiet, ◌then◌}
use Rattle.mj_machine.specs.Leaving.{comes_back, given_back, held_by}
use Rattle.mj_machine.specs.Sending.{is_slow, sends_if, sends_to}
use Rattle.mj_machine.specs.DiskActs.{attempted, counted, fails, routes}
use Rattle.mj_machine.specs.Pairing.{dispatched, dispatches, handed, hands, passes, request_text, settles, turns, with_body}
use Rattle.mj_machine.proofs.ConnectionLemmas.{equal}

-- ---- shorter lists

pub fewer : {X : Type 0} (p : X → Bool) (xs : List X) → length (filter p xs) ≤ length xs
fewer p xs = let both = length-filter_both p (λ x. not (p x)) (λ x. refl) xs in omega (arith, both)

-- an element that doesn't pass goes
pub drops-one : {X : Type 0} (p : X → Bool) (before : List X) (x : X) (after : List X) → p x ≡ false → length (filter p (before ++ x ∷ after)) < length (before ++ x ∷ after)
drops-one p [] x after fails = let rest = fewer p after in rw fails (omega (arith, rest))
drops-one p (y ∷ before) x after fails = by (p y) (drops-one p before x after fails)
  where
    by : (b : Bool) → length (filter p (before ++ x ∷ after)) < length (before ++ x ∷ after)
        → length (cond b (y ∷ filter p (before ++ x ∷ after)) (filter p (before ++ x ∷ after))) < suc (length (before ++ x ∷ after))
    by true less = omega (arith, less)
    by false less = omega (arith, less)

pub first-shorter : {X : Type 0} (test : X → Bool) (xs : List X) (x : X) (rest : List X) → IsFirst test xs x rest → length rest < length xs
first-shorter test xs x rest is =
    let whole = ap length is.whole in
    let parts = length-append is.before (x ∷ is.after) in
    let left = ap length is.rest_is in
    let left_parts = length-append is.before is.after in
    omega (arith, whole, parts, left, left_parts)

pub pair-is : (waiting : List Waiter) (requests : List Request) (p : Pair) → pair waiting requests ≡ Some p → IsPair waiting requests p
pair-is waiting requests p e = subst (λ (o : Option Pair). MatchOption o (list_any (has_waiter waiting) requests ≡ false) (IsPair waiting requests)) e (pair-is-first waiting requests)

pub pair-fewer : (waiting : List Waiter) (requests : List Request) (p : Pair) → pair waiting requests ≡ Some p → length p.waiting < length waiting
pair-fewer waiting requests p e = first-shorter _ waiting p.waiter p.waiting (pair-is waiting requests p e).found

-- its worker stands among those that wait
pub worker-fewer : (waiting : List Waiter) (requests : List Request) (p : Pair) → pair waiting requests ≡ Some p → length (without_worker p.waiter.worker waiting) < length waiting
worker-fewer waiting requests p e =
    let first = (pair-is waiting requests p e).found in
    let waits_not : not (p.waiter.worker == p.waiter.worker) ≡ false = ap not (equal p.waiter.worker) in
    subst (λ (ws : List Waiter). length (without_worker p.waiter.worker ws) < length ws) (sym first.whole)
    (drops-one (λ w. not (w.worker == p.waiter.worker)) first.before p.waiter first.after waits_not)

-- ---- tickets in the queue

abbrev one_if : Bool → ℕ
one_if true = 1
one_if false = 0

abbrev is_of_ticket : Request → Bool
is_of_ticket r = not (is_of_client r.origin)

or-more : (c b : Bool) → one_if b ≤ one_if (c || b)
or-more true true = omega arith
or-more true false = omega arith
or-more false b = omega arith

or-both : (c a b : Bool) → one_if a ≤ one_if b → one_if (c || a) ≤ one_if (c || b)
or-both true a b less = omega arith
or-both false a b less = less

any-filter : {X : Type 0} (test p : X → Bool) (xs : List X) → one_if (list_any test (filter p xs)) ≤ one_if (list_any test xs)
any-filter test p [] = omega arith
any-filter {X = X} test p (x ∷ xs) = by (p x) (any-filter test p xs)
  where
    by : (b : Bool) → one_if (list_any test (filter p xs)) ≤ one_if (list_any test xs)
        → one_if (list_any test (cond {A = List X} b (x ∷ filter p xs) (filter p xs))) ≤ one_if (test x || list_any test xs)
    by true less = or-both (test x) (list_any test (filter p xs)) (list_any test xs) less
    by false less = let more = or-more (test x) (list_any test xs) in omega (arith, less, more)

-- one more in the midst
any-midst : {X : Type 0} (test : X → Bool) (before : List X) (x : X) (after : List X) → one_if (list_any test (before ++ after)) ≤ one_if (list_any test (before ++ x ∷ after))
any-midst test [] x after = or-more (test x) (list_any test after)
any-midst test (y ∷ before) x after = or-both (test y) (list_any test (before ++ after)) (list_any test (before ++ x ∷ after)) (any-midst test before x after)

any-passes : {X : Type 0} (test : X → Bool) (before : List X) (x : X) (after : List X) → test x ≡ true → list_any test (before ++ x ∷ after) ≡ true
any-passes test [] x after passes = ap (λ (b : Bool). b || list_any test after) passes
any-passes test (y ∷ before) x after passes = ap (λ (b : Bool). test y || b) (any-passes test before x after passes) ∙ or_true (test y)
  where
    or_true : (b : Bool) → (b || true) ≡ true
    or_true true = refl
    or_true false = refl

-- a filter for clients leaves no ticket
no-tickets : (queue : List Request) → list_any is_of_ticket (filter (λ r. is_of_client r.origin) queue) ≡ false
no-tickets [] = refl
no-tickets (r ∷ rs) = by (is_of_client r.origin) refl (no-tickets rs)
  where
    by : (b : Bool) → is_of_client r.origin ≡ b → list_any is_of_ticket (filter (λ q. is_of_client q.origin) rs) ≡ false
        → list_any is_of_ticket (cond {A = List Request} b (r ∷ filter (λ q. is_of_client q.origin) rs) (filter (λ q. is_of_client q.origin) rs)) ≡ false
    by true is rest = rw is rest
    by false is rest = rest

-- ---- what is left to do

-- where the store is open one reading more may fail, and where it is shut as long as a ticket is queued
abbrev may_fail : Access → List Request → ℕ
may_fail Open queue = 1
may_fail (Shut doubt) queue = one_if (list_any is_of_ticket queue)

abbrev pub load : Whole → ℕ
load w = length w.routing.waiting + may_fail w.store.access w.routing.queue

one_at_most : (b : Bool) → one_if b ≤ 1
one_at_most true = omega arith
one_at_most false = omega arith

may_fail-once : (access : Access) (queue : List Request) → may_fail access queue ≤ 1
may_fail-once Open queue = omega arith
may_fail-once (Shut doubt) queue = one_at_most (list_any is_of_ticket queue)

fails-less : (access : Access) (queue after : List Request) → (IsShut access → one_if (list_any is_of_ticket after) ≤ one_if (list_any is_of_ticket queue))
    → may_fail access after ≤ may_fail access queue
fails-less Open queue after step = omega arith
fails-less (Shut doubt) queue after step = step tt

-- ---- sending

-- a store that is shut tells of no pending ticket
abbrev pub TellsNothing : Told → Type 0
TellsNothing told = (n : ℕ) → told.pends n ≡ false

pub shut-tells : (store : Store) → IsShut store.access → TellsNothing (told_by store)
shut-tells store = by store.access
  where
    by : (access : Access) → IsShut access → (n : ℕ) → pends_while access (tickets_of store) n ≡ false
    by Open shut n = absurd shut
    by (Shut doubt) shut n = refl

pub nothing_back : (told : Told) → TellsNothing told → (held : Option Request) (queue : List Request) → given_back told held queue ≡ queue
nothing_back told none None queue = refl
nothing_back told none (Some r) queue = by r.origin
  where
    by : (origin : Origin) → cond {A = List Request} (comes_back told origin) (queue ++ r ∷ []) queue ≡ queue
    by (origins.Client n) = refl
    by (origins.Ticket n) = rw (none n) refl

sends_if-waiting : (b : Bool) (n : ℕ) (piece : List ℕ) (c : Connection) (told : Told) (s : State) → length (sends_if b n piece c told s).0.waiting ≤ length s.waiting
sends_if-waiting true n piece c told s = fewer _ s.waiting
sends_if-waiting false n piece c told s = omega arith

sends_to-waiting : (n : ℕ) (piece : List ℕ) (found : Option Connection) (told : Told) (s : State) → length (sends_to n piece found told s).0.waiting ≤ length s.waiting
sends_to-waiting n piece None told s = omega arith
sends_to-waiting n piece (Some c) told s = sends_if-waiting (is_slow s.limits c (length piece)) n piece c told s

sends_if-tickets : (b : Bool) (n : ℕ) (piece : List ℕ) (c : Connection) (told : Told) (s : State) → TellsNothing told
    → one_if (list_any is_of_ticket (sends_if b n piece c told s).0.queue) ≤ one_if (list_any is_of_ticket s.queue)
sends_if-tickets true n piece c told s none =
    subst (λ (q : List Request). one_if (list_any is_of_ticket q) ≤ one_if (list_any is_of_ticket s.queue)) (sym (nothing_back told none (held_by n s.held) (without_client n s.queue)))
    (any-filter is_of_ticket _ s.queue)
sends_if-tickets false n piece c told s none = omega arith

sends_to-tickets : (n : ℕ) (piece : List ℕ) (found : Option Connection) (told : Told) (s : State) → TellsNothing told
    → one_if (list_any is_of_ticket (sends_to n piece found told s).0.queue) ≤ one_if (list_any is_of_ticket s.queue)
sends_to-tickets n piece None told s none = omega arith
sends_to-tickets n piece (Some c) told s none = sends_if-tickets (is_slow s.limits c (length piece)) n piece c told s none

-- ---- a pair lowers it

abbrev IsNext : Pair → Whole → Type 0
IsNext p w = pair w.routing.waiting w.routing.queue ≡ Some p

hands-less : (body : List (List ℕ)) (p : Pair) (w : Whole) → IsNext p w → load (routes (hands body p) w).0 < load w
hands-less body p w is =
    let told = told_by w.store in
    let s = w.routing in
    let n = p.waiter.worker in
    let text = request_text (voice_of (connection_of n s.connections)) (with_body body p.request) in
    let found = connection_of n (handed p s).connections in
    let left = pair-fewer s.waiting s.queue p is in
    let now = sends_to-waiting n text found told (handed p s) in
    let asked = (pair-is s.waiting s.queue p is).asked in
    let shrinks : one_if (list_any is_of_ticket p.requests) ≤ one_if (list_any is_of_ticket s.queue) =
    subst (λ (q : List Request). one_if (list_any is_of_ticket q) ≤ one_if (list_any is_of_ticket s.queue)) (sym asked.rest_is)
    (subst (λ (q : List Request). one_if (list_any is_of_ticket (asked.before ++ asked.after)) ≤ one_if (list_any is_of_ticket q)) (sym asked.whole)
    (any-midst is_of_ticket asked.before p.request asked.after)) in
    let after = (sends_to n text found told (handed p s)).0.queue in
    let fails = fails-less w.store.access s.queue after (λ shut. let sent = sends_to-tickets n text found told (handed p s) (shut-tells w.store shut) in omega (arith, sent, shrinks)) in
    omega (arith, left, now, fails)

-- a reading that failed leaves no ticket in the queue
passes-less : (p : Pair) (w : Whole) (n : ℕ) → p.request.origin ≡ origins.Ticket n → IsNext p w → load (attempted true None (routes (passes p)) (routes (passes p)) w).0 < load w
passes-less p w n of_ticket is =
    let s = w.routing in
    let asked = (pair-is s.waiting s.queue p is).asked in
    let worker = p.waiter.worker in
    let less = worker-fewer s.waiting s.queue p is in
    let joined = length-append (without_worker worker s.waiting) (record { worker = worker; service = p.waiter.service } ∷ []) in
    let none : one_if (list_any is_of_ticket (filter (λ r. is_of_client r.origin) s.queue)) ≡ 0 = ap one_if (no-tickets s.queue) in
    let some : list_any is_of_ticket s.queue ≡ true =
    subst (λ (q : List Request). list_any is_of_ticket q ≡ true) (sym asked.whole)
    (any-passes is_of_ticket asked.before p.request asked.after (ap (λ (o : Origin). not (is_of_client o)) of_ticket)) in
    let one : may_fail w.store.access s.queue ≡ 1 = by w.store.access some in
    omega (arith, less, joined, none, one)
  where
    by : (access : Access) → list_any is_of_ticket w.routing.queue ≡ true → may_fail access w.routing.queue ≡ 1
    by Open some = refl
    by (Shut doubt) some = ap one_if some

dispatched-less : (origin : Origin) (p : Pair) (w : Whole) → p.request.origin ≡ origin → IsNext p w → load (dispatched origin p w).0 < load w
dispatched-less (origins.Client n) p w of is = hands-less p.request.body p w is
dispatched-less (origins.Ticket n) p w of is = by (fails w)
  where
    by : (b : Bool) → load (attempted b None (routes (passes p)) (routes (hands (ticket_body n w.store) p)) w).0 < load w
    by true = passes-less p w n of is
    by false = hands-less (ticket_body n w.store) p (counted w) is

pub dispatches-less : (p : Pair) (w : Whole) → IsNext p w → load (dispatches (Some p) w).0 < load w
dispatches-less p w is = dispatched-less p.request.origin p w refl is

-- ---- nobody waits

nobody-asked : (requests : List Request) → take_first (has_waiter []) requests ≡ None
nobody-asked [] = refl
nobody-asked (r ∷ rs) = ap (λ (o : Option (Request × List Request)). option_map (put_back r) o) (nobody-asked rs)

pair-nobody : (waiting : List Waiter) (requests : List Request) → length waiting ≤ 0 → pair waiting requests ≡ None
pair-nobody waiting requests none =
    let nil : waiting ≡ [] = nil_from_length waiting (omega (arith, none)) in
    subst (λ (w : List Waiter). pair w requests ≡ None) (sym nil) (ap (paired []) (nobody-asked requests))

-- ---- turns

turns-none : (n : ℕ) (w : Whole) → pair w.routing.waiting w.routing.queue ≡ None → turns n w ≡ quiet w
turns-none zero w none = refl
turns-none (suc n) w none =
    ap (λ (o : Option Pair). dispatches o w then turns n) none ∙ ap (λ (d : Doing Whole Out). behind [] d) (turns-none n w none)

turns-some : (n : ℕ) (w : Whole) (p : Pair) → IsNext p w → turns (suc n) w ≡ (dispatches (Some p) w then turns n)
turns-some n w p is = ap (λ (o : Option Pair). dispatches o w then turns n) is

then-same : (d : Doing Whole Out) (f g : Whole → Doing Whole Out) → f d.0 ≡ g d.0 → (d then f) ≡ (d then g)
then-same d f g e = ap (λ (x : Doing Whole Out). behind d.1 x) e

pair-idle : (w : Whole) → load w ≤ 0 → pair w.routing.waiting w.routing.queue ≡ None
pair-idle w idle = pair-nobody w.routing.waiting w.routing.queue (omega (arith, idle))

-- with as many turns as that, further ones change nothing
turns-enough : (n m : ℕ) (w : Whole) → load w ≤ n → load w ≤ m → turns n w ≡ turns m w
turns-enough zero m w few many = sym (turns-none m w (pair-idle w few))
turns-enough (suc n) zero w few many = turns-none (suc n) w (pair-idle w many)
turns-enough (suc n) (suc m) w few many = of (pair w.routing.waiting w.routing.queue) refl (λ v a b. turns-enough n m v a b)
  where
    of : (o : Option Pair) → pair w.routing.waiting w.routing.queue ≡ o → ((v : Whole) → load v ≤ n → load v ≤ m → turns n v ≡ turns m v) → turns (suc n) w ≡ turns (suc m) w
    of None none rest = turns-none (suc n) w none ∙ sym (turns-none (suc m) w none)
    of (Some p) is rest =
        let less = dispatches-less p w is in
        let v = (dispatches (Some p) w).0 in
        turns-some n w p is ∙ then-same (dispatches (Some p) w) (turns n) (turns m) (rest v (omega (arith, less, few)) (omega (arith, less, many))) ∙ sym (turns-some m w p is)

load-bound : (w : Whole) → load w ≤ suc (length w.routing.waiting)
load-bound w = let once = may_fail-once w.store.access w.routing.queue in omega (arith, once)

-- ---- settling

pub settles-none : (w : Whole) → pair w.routing.waiting w.routing.queue ≡ None → settles w ≡ quiet w
unfolding settles
settles-none w none = turns-none (suc (length w.routing.waiting)) w none

pub settles-turn : (w : Whole) (p : Pair) → IsNext p w → settles w ≡ (dispatches (Some p) w then settles)
unfolding settles
settles-turn w p is =
    let less = dispatches-less p w is in
    let bound = load-bound w in
    let v = (dispatches (Some p) w).0 in
    turns-some (length w.routing.waiting) w p is
    ∙ then-same (dispatches (Some p) w) (turns (length w.routing.waiting)) settles
    (turns-enough (length w.routing.waiting) (suc (length v.routing.waiting)) v (omega (arith, less, bound)) (load-bound v))

-- no queued request's service has a waiting worker
turns-end : (n : ℕ) (w : Whole) → load w ≤ n → pair (turns n w).0.routing.waiting (turns n w).0.routing.queue ≡ None
turns-end zero w few = pair-idle w few
turns-end (suc n) w few = of (pair w.routing.waiting w.routing.queue) refl (λ v a. turns-end n v a)
  where
    IsEnd : Doing Whole Out → Type 0
    IsEnd d = pair d.0.routing.waiting d.0.routing.queue ≡ None

    of : (o : Option Pair) → pair w.routing.waiting w.routing.queue ≡ o → ((v : Whole) → load v ≤ n → pair (turns n v).0.routing.waiting (turns n v).0.routing.queue ≡ None) → IsEnd (turns (suc n) w)
    of None none rest = subst IsEnd (sym (turns-none (suc n) w none)) none
    of (Some p) is rest =
        let less = dispatches-less p w is in
        subst IsEnd (sym (turns-some n w p is)) (rest (dispatches (Some p) w).0 (omega (arith, less, few)))

pub settles-end : (w : Whole) → pair (settles w).0.routing.waiting (settles w).0.routing.queue ≡ None
unfolding settles
settles-end w = turns-end (suc (length w.routing.waiting)) w (load-bound w)
