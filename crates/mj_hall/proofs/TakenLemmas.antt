-- A hall once its first pair is taken.
use Rattle.std.proofs.Common.{◌≡◌, ℕ, ◌+◌, ◌≤◌, ◌==◌, nat_lt, Bool, true, false, not, cond, ◌&&◌, List, [], ◌∷◌, ◌++◌, length, length-append, Option, Some, refl, sym, ◌∙◌, ap, subst, arith}
use Rattle.std.specs.List.{filter, list_all, sum_by}
use Rattle.std.proofs.lemmas.Bool.{and_parts, and_from}
use Rattle.std.proofs.lemmas.Bool.Decides.{nat_tests}
use Rattle.std.proofs.lemmas.List.Sums.{sum_by-cons}
use Rattle.mj_base.specs.KeptWeight.{weight_of}
use Rattle.mj_counted.specs.Names.{key_of}
use Rattle.mj_counted.specs.Pairs.{StandsAt}
use Rattle.mj_counted.specs.Rows.{entry}
use Rattle.mj_chain.specs.Seats.{Seat, are_distinct, found, has_key, seat_key, take_out}
use Rattle.mj_chain.proofs.ListLemmas.{distinct-filter, distinct_parts, out-absent, same_key}
use Rattle.mj_queue.specs.declared.request.Request.{Request}
use Rattle.mj_queue.specs.Settling.{is_of_client, queued, queued_weight}
use Rattle.mj_hall.specs.declared.hall.Hall.TheInside.{Inside}
use Rattle.mj_hall.specs.declared.kept.Queued.{Queued}
use Rattle.mj_hall.specs.declared.kept.Worker.{Worker}
use Rattle.mj_hall.specs.Asking.{of_desk}
use Rattle.mj_hall.specs.Desks.{desk_of}
use Rattle.mj_hall.specs.Floor.{labels_below, labels_rise, requests_of, waiters_of}
use Rattle.mj_base.specs.declared.limits.Limits.{Limits}
use Rattle.mj_queue.specs.HallState.{HallState}
use Rattle.mj_queue.specs.HallSteps.{taken}
use Rattle.mj_queue.specs.declared.worker.Waiter.{Waiter}
use Rattle.mj_hall.specs.HallValue.{HallValue}
use Rattle.mj_hall.specs.Ready.{ReadyBut, first_pair, pair_in}
use Rattle.mj_hall.specs.Serving.{same_bool, workers_of}
use Rattle.mj_hall.specs.Stands.{Stands}
use Rattle.mj_hall.proofs.DeskLemmas.{part-same, part-stays}
use Rattle.mj_hall.proofs.AskingLemmas.{in_chain, length-out}
use Rattle.mj_hall.proofs.HallLemmas.{AtDesk, at_desk, pair_of}
use Rattle.mj_hall.proofs.ReadyLemmas.{head_found, hidden_stays}
use Rattle.mj_hall.proofs.ServingLemmas.{kind_append, kind_out}
use Rattle.mj_hall.proofs.TakeLemmas.{filter-found}
use Rattle.mj_hall.proofs.WalkLemmas.{flat}

number_is : (a n : ℕ) → (a == n) ≡ true → a ≡ n
number_is a n e = grind (arith, nat_tests)

own_number : (n : ℕ) → (n == n) ≡ true
own_number n = grind (arith, nat_tests)

turned_number : (a b : ℕ) → (a == b) ≡ (b == a)
turned_number a b = grind (arith, nat_tests)

-- labels and counts of what is left
all-out : (q : Seat Queued → Bool) (k : ℕ) (es : List (Seat Queued)) → list_all q es ≡ true → list_all q (take_out seat_key k es) ≡ true
all-out q k [] all = refl
all-out q k (s ∷ ss) all = let parts = and_parts (q s) (list_all q ss) all in of (s.key == k) parts.0 (all-out q k ss parts.1)
  where
    of : (b : Bool) → q s ≡ true → list_all q (take_out seat_key k ss) ≡ true → list_all q (cond (not b) (s ∷ take_out seat_key k ss) (take_out seat_key k ss)) ≡ true
    of true e later = later
    of false e later = and_from _ _ e later

pub rise-out : (k : ℕ) (es : List (Seat Queued)) → labels_rise es ≡ true → labels_rise (take_out seat_key k es) ≡ true
rise-out k [] rise = refl
rise-out k (s ∷ ss) rise = let parts = and_parts (list_all (λ t. nat_lt s.value.label t.value.label) ss) (labels_rise ss) rise in of (s.key == k) (all-out (λ t. nat_lt s.value.label t.value.label) k ss parts.0) (rise-out k ss parts.1)
  where
    of : (b : Bool) → list_all (λ t. nat_lt s.value.label t.value.label) (take_out seat_key k ss) ≡ true → labels_rise (take_out seat_key k ss) ≡ true → labels_rise (cond (not b) (s ∷ take_out seat_key k ss) (take_out seat_key k ss)) ≡ true
    of true e later = later
    of false e later = and_from _ _ e later

pub below-out : (next k : ℕ) (es : List (Seat Queued)) → labels_below next es ≡ true → labels_below next (take_out seat_key k es) ≡ true
below-out next k es below = all-out (λ s. nat_lt s.value.label next) k es below

pub sum-out : (f : Request → ℕ) (k : ℕ) (x : Queued) (es : List (Seat Queued)) → are_distinct seat_key es ≡ true → found k es ≡ Some x → sum_by f (requests_of (take_out seat_key k es)) + f x.request ≡ sum_by f (requests_of es)
sum-out f k x [] d e = cc
sum-out f k x (s ∷ ss) d e = of (s.key == k) refl e (λ h. sum-out f k x ss apart.1 h) ∙ sym (sum_by-cons f s.value.request (requests_of ss))
  where
    apart : (has_key seat_key s.key ss ≡ false) × (are_distinct seat_key ss ≡ true)
    apart = distinct_parts seat_key s ss d

    of : (b : Bool) → (s.key == k) ≡ b → cond b (Some s.value) (found k ss) ≡ Some x → (found k ss ≡ Some x → sum_by f (requests_of (take_out seat_key k ss)) + f x.request ≡ sum_by f (requests_of ss))
        → sum_by f (requests_of (cond (not b) (s ∷ take_out seat_key k ss) (take_out seat_key k ss))) + f x.request ≡ f s.value.request + sum_by f (requests_of ss)
    of true g h later =
        let same : f s.value.request ≡ f x.request = cc in
        let rest : sum_by f (requests_of (take_out seat_key k ss)) ≡ sum_by f (requests_of ss) = ap (λ (ys : List (Seat Queued)). sum_by f (requests_of ys)) (out-absent seat_key k ss (subst (λ (n : ℕ). has_key seat_key n ss ≡ false) (same_key s.key k g) apart.0)) in
        omega arith
    of false g h later =
        let less = later h in
        let first = sum_by-cons f s.value.request (requests_of (take_out seat_key k ss)) in
        omega arith

abbrev pub client_weight : Request → ℕ
client_weight r = cond (is_of_client r.origin) (weight_of r.body) 0

pub weight_is : (rs : List Request) → queued_weight rs ≡ sum_by client_weight rs
weight_is [] = refl
weight_is (r ∷ rs) = of (is_of_client r.origin) (weight_is rs) ∙ sym (sum_by-cons client_weight r rs)
  where
    of : (b : Bool) → queued_weight rs ≡ sum_by client_weight rs → sum_by (λ (q : Request). weight_of q.body) (cond b (r ∷ filter (λ q. is_of_client q.origin) rs) (filter (λ q. is_of_client q.origin) rs)) ≡ cond b (weight_of r.body) 0 + sum_by client_weight rs
    of true later = sum_by-cons (λ (q : Request). weight_of q.body) r (filter (λ q. is_of_client q.origin) rs) ∙ ap (λ (n : ℕ). weight_of r.body + n) later
    of false later = omega arith

pub number-out : (k : ℕ) (x : Queued) (es : List (Seat Queued)) → are_distinct seat_key es ≡ true → found k es ≡ Some x → queued (requests_of (take_out seat_key k es)) + cond (is_of_client x.request.origin) 1 0 ≡ queued (requests_of es)
number-out k x es d e = sum-out (λ (r : Request). cond (is_of_client r.origin) 1 0) k x es d e

pub weight-out : (k : ℕ) (x : Queued) (es : List (Seat Queued)) → are_distinct seat_key es ≡ true → found k es ≡ Some x → queued_weight (requests_of (take_out seat_key k es)) + client_weight x.request ≡ queued_weight (requests_of es)
weight-out k x es d e =
    let out = sum-out client_weight k x es d e in
    let left = weight_is (requests_of (take_out seat_key k es)) in
    let all = weight_is (requests_of es) in
    omega arith

pub counted : (k : ℕ) (x : Queued) (es : List (Seat Queued)) (number weight : ℕ) → are_distinct seat_key es ≡ true → found k es ≡ Some x → number ≡ queued (requests_of es) → weight ≡ queued_weight (requests_of es)
    → is_of_client x.request.origin ≡ true → (1 ≤ number) × (weight_of x.request.body ≤ weight)
counted k x es number weight d e number_is_ weight_is_ client =
    let one : queued (requests_of (take_out seat_key k es)) + 1 ≡ queued (requests_of es) = ap (λ (b : Bool). queued (requests_of (take_out seat_key k es)) + cond b 1 0) (sym client) ∙ number-out k x es d e in
    let own : queued_weight (requests_of (take_out seat_key k es)) + weight_of x.request.body ≡ queued_weight (requests_of es) = ap (λ (b : Bool). queued_weight (requests_of (take_out seat_key k es)) + cond b (weight_of x.request.body) 0) (sym client) ∙ weight-out k x es d e in
    (omega arith, omega arith)

-- the two that leave
pub record Leaving (h : Inside) (es : List (Seat Queued)) (ws : List (Seat Worker)) (l d : ℕ) : Type 0 where
  pub at : AtDesk l d es ws
  pub asked : found at.request.key es ≡ Some at.request.value
  pub served : found at.worker.key ws ≡ Some at.worker.value
  pub idle : at.worker.value.busy ≡ false
  pub request_desk : at.request.value.desk ≡ d
  pub worker_desk : at.worker.value.desk ≡ d
  pub request_named : key_of h.names at.request.value.request.service ≡ Some d
  pub worker_named : key_of h.names at.worker.value.waiter.service ≡ Some d
  pub desk : entry h.desks d ≡ Some (desk_of d es ws)

idle_is : (b : Bool) → same_bool false b ≡ true → b ≡ false
idle_is true e = cc
idle_is false e = refl

pub leaving : (h : Inside) (es : List (Seat Queued)) (ws : List (Seat Worker)) (l d : ℕ) → Stands h es ws → StandsAt h.pairs.pairs 0 (l, d) → Leaving h es ws l d
leaving h es ws l d stands first =
    let at = at_desk h.pairs.pairs l d es ws stands.ready first.there in
    let asked : found at.request.key es ≡ Some at.request.value = head_found (λ (v : Queued). v.desk == d) es at.request at.later stands.asking.distinct at.asks in
    let served : found at.worker.key ws ≡ Some at.worker.value = head_found (λ (v : Worker). same_bool false v.busy && (v.desk == d)) ws at.worker at.others stands.serving.distinct at.waits in
    let request_kept = filter-found (λ (v : Queued). v.desk == d) at.request.key at.request.value es stands.asking.distinct (subst (λ (xs : List (Seat Queued)). found at.request.key xs ≡ Some at.request.value) (sym at.asks) (first_found at.request at.later)) in
    let worker_kept = filter-found (λ (v : Worker). same_bool false v.busy && (v.desk == d)) at.worker.key at.worker.value ws stands.serving.distinct (subst (λ (xs : List (Seat Worker)). found at.worker.key xs ≡ Some at.worker.value) (sym at.waits) (first_found at.worker at.others)) in
    let parts = and_parts (same_bool false at.worker.value.busy) (at.worker.value.desk == d) worker_kept.passes in
    let request_desk : at.request.value.desk ≡ d = number_is at.request.value.desk d request_kept.passes in
    let worker_desk : at.worker.value.desk ≡ d = number_is at.worker.value.desk d parts.1 in
    let request_named : key_of h.names at.request.value.request.service ≡ Some d = stands.desks.asked at.request.key at.request.value asked ∙ ap (λ (n : ℕ). Some n) request_desk in
    record {
      at = at;
      asked = asked;
      served = served;
      idle = idle_is at.worker.value.busy parts.0;
      request_desk = request_desk;
      worker_desk = worker_desk;
      request_named = request_named;
      worker_named = stands.desks.served at.worker.key at.worker.value served ∙ ap (λ (n : ℕ). Some n) worker_desk;
      desk = stands.desks.each at.request.value.request.service d request_named;
    }
  where
    first_found : {T : Type 0} (s : Seat T) (ss : List (Seat T)) → found s.key (s ∷ ss) ≡ Some s.value
    first_found s ss = rw (own_number s.key) refl

pub same_some : {A : Type 0} (o : Option A) (x y : A) → o ≡ Some x → o ≡ Some y → x ≡ y
same_some o x y e f = cc

-- other desks see nothing of it
pub others_stay : (d r k n : ℕ) (pairs : List (ℕ × ℕ)) (es : List (Seat Queued)) (ws : List (Seat Worker)) (x : Queued) (w v : Worker) → are_distinct seat_key es ≡ true → are_distinct seat_key ws ≡ true → found r es ≡ Some x → found k ws ≡ Some w → x.desk ≡ d → w.desk ≡ d → v.desk ≡ d
    → ReadyBut (Some d) pairs es ws → ReadyBut (Some d) pairs (take_out seat_key r es) (take_out seat_key k ws ++ record { key = n; value = v } ∷ [])
others_stay d r k n pairs es ws x w v distinct_es distinct_ws asked served x_desk w_desk v_desk ready =
    hidden_stays d pairs es (take_out seat_key r es) ws (take_out seat_key k ws ++ record { key = n; value = v } ∷ [])
    (λ m e. part-stays (λ (q : Queued). q.desk == m) r x es distinct_es asked (subst (λ (i : ℕ). (i == m) ≡ false) (sym x_desk) e))
    (λ m e. part-same (λ (u : Worker). same_bool false u.busy && (u.desk == m)) n v (take_out seat_key k ws) (away v.busy m v.desk (subst (λ (i : ℕ). (i == m) ≡ false) (sym v_desk) e))
    ∙ part-stays (λ (u : Worker). same_bool false u.busy && (u.desk == m)) k w ws distinct_ws served (away w.busy m w.desk (subst (λ (i : ℕ). (i == m) ≡ false) (sym w_desk) e))) ready
  where
    away : (b : Bool) (m i : ℕ) → (i == m) ≡ false → (same_bool false b && (i == m)) ≡ false
    away b m i e = ap (λ (c : Bool). same_bool false b && c) e ∙ nothing (same_bool false b)
      where
        nothing : (c : Bool) → (c && false) ≡ false
        nothing true = refl
        nothing false = refl

pub cancelled : (n k c m : ℕ) → n + c ≡ m → k + c ≡ m → n ≡ k
cancelled n k c m p q = omega arith

pub at_pair : (l d : ℕ) (es : List (Seat Queued)) (ws : List (Seat Worker)) → (at : AtDesk l d es ws) → pair_in es ws d ≡ Some (l, d)
at_pair l d es ws at =
    ap (λ (xs : List (Seat Worker)). first_pair d xs (of_desk d es)) at.waits ∙ ap (first_pair d (at.worker ∷ at.others)) at.asks ∙ ap (λ (n : ℕ). Some (n, d)) at.label

-- those that wait and those that are busy, once one that waited is busy
module _ (ws : List (Seat Worker)) (k n : ℕ) (w v : Worker) (distinct : are_distinct seat_key ws ≡ true) (served : found k ws ≡ Some w) (idle : w.busy ≡ false) (busy : v.busy ≡ true) where
  own_idle : same_bool false w.busy ≡ true
  own_idle = ap (same_bool false) idle

  pub waiting_now : workers_of false (take_out seat_key k ws ++ record { key = n; value = v } ∷ []) ≡ take_out seat_key k (workers_of false ws)
  waiting_now = part-same (λ (u : Worker). same_bool false u.busy) n v (take_out seat_key k ws) (ap (same_bool false) busy) ∙ kind_out false w k ws

  pub busy_now : workers_of true (take_out seat_key k ws ++ record { key = n; value = v } ∷ []) ≡ workers_of true ws ++ record { key = n; value = v } ∷ []
  busy_now =
      subst (λ (b : Bool). workers_of b (take_out seat_key k ws ++ record { key = n; value = v } ∷ []) ≡ workers_of b (take_out seat_key k ws) ++ record { key = n; value = v } ∷ []) busy (kind_append v n (take_out seat_key k ws))
      ∙ ap (λ (xs : List (Seat Worker)). xs ++ record { key = n; value = v } ∷ []) (part-stays (λ (u : Worker). same_bool true u.busy) k w ws distinct served (ap (same_bool true) idle))

  pub same_many : length (workers_of false (take_out seat_key k ws ++ record { key = n; value = v } ∷ [])) + length (workers_of true (take_out seat_key k ws ++ record { key = n; value = v } ∷ [])) ≡ length (workers_of false ws) + length (workers_of true ws)
  same_many =
      let one : length (take_out seat_key k (workers_of false ws)) + 1 ≡ length (workers_of false ws) = length-out k (workers_of false ws) (distinct-filter seat_key (λ s. same_bool false s.value.busy) ws distinct) (in_chain (λ (u : Worker). same_bool false u.busy) w k ws served own_idle) in
      let waits : length (workers_of false (take_out seat_key k ws ++ record { key = n; value = v } ∷ [])) ≡ length (take_out seat_key k (workers_of false ws)) = ap length waiting_now in
      let serves : length (workers_of true (take_out seat_key k ws ++ record { key = n; value = v } ∷ [])) ≡ length (workers_of true ws) + 1 = ap length busy_now ∙ length-append (workers_of true ws) (record { key = n; value = v } ∷ []) in
      omega arith

pub waiters-append : (xs : List (Seat Worker)) (n : ℕ) (v : Worker) → waiters_of (xs ++ record { key = n; value = v } ∷ []) ≡ waiters_of xs ++ v.waiter ∷ []
waiters-append [] n v = refl
waiters-append (x ∷ xs) n v = ap (λ (ys : List Waiter). x.value.waiter ∷ ys) (waiters-append xs n v)

abbrev state_with : Limits → List Waiter → List Waiter → List Request → HallState
state_with limits waiting busy requests = record { limits = limits; waiting = waiting; busy = busy; requests = requests }

-- the flat lists, once the pair is taken
pub state_is : (limits : Limits) (next : ℕ) (es : List (Seat Queued)) (ws : List (Seat Worker)) (e : Seat Queued) (w : Seat Worker) (row key n : ℕ) (v : Worker) (old : HallValue) → row ≡ e.key → key ≡ w.key → v ≡ record w.value { busy = true } → are_distinct seat_key ws ≡ true
    → found key ws ≡ Some w.value → w.value.busy ≡ false → flat limits es ws next ≡ old
    → (flat limits (take_out seat_key row es) (take_out seat_key key ws ++ record { key = n; value = v } ∷ []) next).state ≡ taken (pair_of es ws (e, w)) old.state
state_is limits next es ws e w row key n v old row_is key_is v_is distinct served idle is =
    let busy : v.busy ≡ true = ap (λ (u : Worker). u.busy) v_is in
    ap (λ (xs : List (Seat Worker)). state_with limits (waiters_of xs) (waiters_of (workers_of true (take_out seat_key key ws ++ record { key = n; value = v } ∷ []))) (requests_of (take_out seat_key row es))) (waiting_now ws key n w.value v distinct served idle busy)
    ∙ ap (λ (k : ℕ). state_with limits (waiters_of (take_out seat_key k (workers_of false ws))) (waiters_of (workers_of true (take_out seat_key key ws ++ record { key = n; value = v } ∷ []))) (requests_of (take_out seat_key row es))) key_is
    ∙ ap (λ (xs : List Waiter). state_with limits (waiters_of (take_out seat_key w.key (workers_of false ws))) xs (requests_of (take_out seat_key row es)))
    (ap waiters_of (busy_now ws key n w.value v distinct served idle busy) ∙ waiters-append (workers_of true ws) n v ∙ ap (λ (u : Worker). waiters_of (workers_of true ws) ++ u.waiter ∷ []) v_is)
    ∙ ap (λ (k : ℕ). state_with limits (waiters_of (take_out seat_key w.key (workers_of false ws))) (waiters_of (workers_of true ws) ++ w.value.waiter ∷ []) (requests_of (take_out seat_key k es))) row_is
    ∙ ap (λ (h : HallValue). taken (pair_of es ws (e, w)) h.state) is
