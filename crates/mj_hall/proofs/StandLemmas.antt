-- A whole hall: its workers and its requests apart, and its flat lists once somebody has left or come.
use Rattle.std.proofs.Common.{◌≡◌, ℕ, ◌+◌, Bool, true, false, List, [], ◌∷◌, ◌++◌, length, Option, Some, None, IfSome, Result, Ok, Err, OnErr, sym, ◌∙◌, ap, subst}
use Rattle.std.specs.List.{filter}
use Rattle.mj_base.specs.declared.limits.Limits.{Limits}
use Rattle.mj_counted.specs.declared.index.Index.{Index}
use Rattle.mj_counted.specs.declared.rows.Rows.{Rows}
use Rattle.mj_counted.specs.Names.{key_of}
use Rattle.mj_counted.specs.Pairs.{Pairs}
use Rattle.mj_counted.specs.Rows.{entries, entry}
use Rattle.mj_chain.specs.declared.desk.Desk.{Desk}
use Rattle.mj_chain.specs.declared.node.Node.{Node}
use Rattle.mj_chain.specs.Seats.{Seat, are_distinct, found, seat_key, take_out}
use Rattle.mj_queue.specs.HallState.{HallState}
use Rattle.mj_queue.specs.HallSteps.{waits}
use Rattle.mj_queue.specs.Settling.{without_worker}
use Rattle.mj_queue.specs.declared.request.Request.{Request}
use Rattle.mj_queue.specs.declared.worker.Waiter.{Waiter}
use Rattle.mj_hall.specs.declared.hall.Hall.TheInside.{Inside}
use Rattle.mj_hall.specs.declared.kept.Queued.{Queued}
use Rattle.mj_hall.specs.declared.kept.Worker.{Worker}
use Rattle.mj_hall.specs.declared.leaving.Whose.{Whose}
use Rattle.mj_hall.specs.Crew.{Crew, Queue, without_conn}
use Rattle.mj_hall.specs.Desks.{Desks}
use Rattle.mj_hall.specs.Floor.{requests_of, waiters_of}
use Rattle.mj_hall.specs.HallValue.{HallValue}
use Rattle.mj_hall.specs.Ready.{ReadyBut}
use Rattle.mj_hall.specs.Serving.{Serving, same_bool, workers_of}
use Rattle.mj_hall.specs.Stands.{Stands}
use Rattle.mj_hall.specs.Whose.{stays}
use Rattle.mj_hall.proofs.CrewLemmas.{without_waiters}
use Rattle.mj_hall.proofs.DeskLemmas.{part-same}
use Rattle.mj_hall.proofs.LeavingLemmas.{fewer-out, kept-out}
use Rattle.mj_hall.proofs.ServingLemmas.{kind_append}
use Rattle.mj_hall.proofs.TakenLemmas.{waiters-append}
use Rattle.mj_hall.proofs.WalkLemmas.{flat}

module _ (h : Inside) (es : List (Seat Queued)) (ws : List (Seat Worker)) (stands : Stands h es ws) where
  pub crew_of : Crew h.requests h.workers h.conns.pairs h.desks h.names h.pairs.pairs h.waiting_first h.waiting_last h.waiting_count h.busy_first h.busy_last h.busy_count es ws
  crew_of = record {
    distinct = stands.asking.distinct;
    rows = stands.asking.rows;
    serving = stands.serving;
    desks = stands.desks;
    ready = stands.ready;
    waiting = stands.waiting;
    busy = stands.busy;
  }

  pub queue_of : Queue h.requests h.clients.pairs h.tickets.pairs h.desks h.names h.pairs.pairs h.request_first h.request_last h.request_count h.queued h.weight es ws
  queue_of = record {
    asking = stands.asking;
    workers = stands.serving.distinct;
    desks = stands.desks;
    ready = stands.ready;
    ends = stands.asked;
    counted = stands.number;
    weighs = stands.weight;
  }

  -- with room for a worker
  module _ (workers : Rows (Node Worker)) (conns pairs : Pairs) (desks : Rows Desk) (names : Index) (same : (k : ℕ) → entry workers k ≡ entry h.workers k) (count : entries workers ≡ entries h.workers) (same_conns : conns.pairs ≡ h.conns.pairs) (same_pairs : pairs.pairs ≡ h.pairs.pairs)
      (are : Desks desks names es ws) where
    serving : Serving workers conns.pairs ws
    serving =
        subst (λ (ps : List (ℕ × ℕ)). Serving workers ps ws) (sym same_conns)
        (record { distinct = stands.serving.distinct; rows = λ k. same k ∙ stands.serving.rows k; count = count ∙ stands.serving.count; by_conn = stands.serving.by_conn; single = stands.serving.single })

    ready : ReadyBut None pairs.pairs es ws
    ready = subst (λ (ps : List (ℕ × ℕ)). ReadyBut None ps es ws) (sym same_pairs) stands.ready

    pub roomy_crew : Crew h.requests workers conns.pairs desks names pairs.pairs h.waiting_first h.waiting_last h.waiting_count h.busy_first h.busy_last h.busy_count es ws
    roomy_crew = record {
      distinct = stands.asking.distinct;
      rows = stands.asking.rows;
      serving = serving;
      desks = are;
      ready = ready;
      waiting = stands.waiting;
      busy = stands.busy;
    }

    -- and no desk opened
    pub roomy : ((q : List ℕ) → key_of names q ≡ key_of h.names q) → Stands (record h { workers = workers; conns = conns; pairs = pairs; desks = desks; names = names }) es ws
    roomy unopened = record {
      asking = stands.asking;
      serving = serving;
      desks = are;
      peopled = λ q d e hidden. stands.peopled q d (sym (unopened q) ∙ e) hidden;
      ready = ready;
      asked = stands.asked;
      waiting = stands.waiting;
      busy = stands.busy;
      rise = stands.rise;
      below = stands.below;
      number = stands.number;
      weight = stands.weight;
      fits = stands.fits;
    }

pub if_some : {A : Type 0} (o : Option A) (P Q : A → Type 0) → ((x : A) → P x → Q x) → IfSome o P → IfSome o Q
if_some None P Q f h = tt
if_some (Some x) P Q f h = f x h

abbrev with_lists : Limits → List Waiter → List Waiter → List Request → HallState
with_lists limits waiting busy requests = record { limits = limits; waiting = waiting; busy = busy; requests = requests }

abbrev with_requests : List Request → HallState → HallState
with_requests requests s = record s { requests = requests }

abbrev without : ℕ → HallState → HallState
without n s = record s { waiting = without_worker n s.waiting; busy = without_worker n s.busy }

-- the flat lists, once a worker has left
pub gone_state : (limits : Limits) (next n : ℕ) (es : List (Seat Queued)) (ws : List (Seat Worker)) (old : HallValue) → flat limits es ws next ≡ old → (flat limits es (without_conn n ws) next).state ≡ without n old.state
gone_state limits next n es ws old is =
    ap (λ (xs : List Waiter). with_lists limits xs (waiters_of (workers_of true (without_conn n ws))) (requests_of es)) (without_waiters false n ws)
    ∙ ap (λ (xs : List Waiter). with_lists limits (without_worker n (waiters_of (workers_of false ws))) xs (requests_of es)) (without_waiters true n ws)
    ∙ ap (λ (v : HallValue). without n v.state) is

-- once it waits anew
pub waits_state : (limits : Limits) (next n k d : ℕ) (name : List ℕ) (v : Worker) (es : List (Seat Queued)) (ws : List (Seat Worker)) (old : HallValue) → v ≡ record { waiter = record { worker = n; service = name }; desk = d; busy = false } → flat limits es ws next ≡ old
    → (flat limits es (without_conn n ws ++ record { key = k; value = v } ∷ []) next).state ≡ waits n name old.state
waits_state limits next n k d name v es ws old v_is is =
    ap (λ (xs : List Waiter). with_lists limits xs (waiters_of (workers_of true later)) (requests_of es)) waiting_now
    ∙ ap (λ (xs : List Waiter). with_lists limits (without_worker n (waiters_of (workers_of false ws)) ++ record { worker = n; service = name } ∷ []) xs (requests_of es)) busy_now
    ∙ ap (λ (u : HallValue). waits n name u.state) is
  where
    left : List (Seat Worker)
    left = without_conn n ws

    later : List (Seat Worker)
    later = without_conn n ws ++ record { key = k; value = v } ∷ []

    idle : v.busy ≡ false
    idle = ap (λ (u : Worker). u.busy) v_is

    waiting_now : waiters_of (workers_of false (without_conn n ws ++ record { key = k; value = v } ∷ [])) ≡ without_worker n (waiters_of (workers_of false ws)) ++ record { worker = n; service = name } ∷ []
    waiting_now =
        ap waiters_of (subst (λ (b : Bool). workers_of b (without_conn n ws ++ record { key = k; value = v } ∷ []) ≡ workers_of b (without_conn n ws) ++ record { key = k; value = v } ∷ []) idle (kind_append v k (without_conn n ws)))
        ∙ waiters-append (workers_of false (without_conn n ws)) k v
        ∙ ap (λ (xs : List Waiter). xs ++ v.waiter ∷ []) (without_waiters false n ws)
        ∙ ap (λ (u : Worker). without_worker n (waiters_of (workers_of false ws)) ++ u.waiter ∷ []) v_is

    busy_now : waiters_of (workers_of true (without_conn n ws ++ record { key = k; value = v } ∷ [])) ≡ without_worker n (waiters_of (workers_of true ws))
    busy_now = ap waiters_of (part-same (λ (u : Worker). same_bool true u.busy) k v (without_conn n ws) (ap (same_bool true) idle)) ∙ without_waiters true n ws

-- once one request has left
pub record Dropped (w : Whose) (old new : HallValue) : Type 0 where
  pub others : new.state ≡ with_requests new.state.requests old.state
  pub kept : filter (stays w) new.state.requests ≡ filter (stays w) old.state.requests
  pub fewer : length new.state.requests + 1 ≡ length old.state.requests

pub dropped_one : (w : Whose) (old new : HallValue) (limits : Limits) (next k : ℕ) (x : Queued) (es : List (Seat Queued)) (ws : List (Seat Worker)) → new ≡ flat limits (take_out seat_key k es) ws next → flat limits es ws next ≡ old → are_distinct seat_key es ≡ true → found k es ≡ Some x
    → stays w x.request ≡ false → Dropped w old new
dropped_one w old new limits next k x es ws now was distinct at leaves = record {
  others = ap (λ (v : HallValue). v.state) now ∙ ap (λ (v : HallValue). with_requests (requests_of (take_out seat_key k es)) v.state) was ∙ ap (λ (v : HallValue). with_requests v.state.requests old.state) (sym now);
  kept = ap (λ (v : HallValue). filter (stays w) v.state.requests) now ∙ kept-out (stays w) k x es distinct at leaves ∙ ap (λ (v : HallValue). filter (stays w) v.state.requests) was;
  fewer = ap (λ (v : HallValue). length v.state.requests + 1) now ∙ fewer-out k x es distinct at ∙ ap (λ (v : HallValue). length v.state.requests) was;
}

pub on_err : {A E : Type 0} (r : Result A E) (P : Type 0) → P → OnErr r P
on_err (Ok x) P p = tt
on_err (Err e) P p = p
