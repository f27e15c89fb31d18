use Rattle.std.proofs.Common.{◌≡◌, ℕ, Bool, ◌+◌, ◌≤◌, ◌<◌, ◌∙◌, ◌∷◌, [], ◌++◌, List, Option, Some, true, false, not, cond, refl, sym, ap, subst, arith, rules}
use Rattle.std.specs.Option.{IsSome}
use Rattle.mj_base.specs.KeptWeight.{weight_of}
use Rattle.mj_counted.specs.Names.{key_of}
use Rattle.mj_chain.specs.Seats.{Seat, found, seat_key, take_out}
use Rattle.mj_queue.specs.HallSteps.{Takes}
use Rattle.mj_queue.specs.declared.request.Request.{Request}
use Rattle.mj_queue.specs.Settling.{pair, is_of_client, queued, queued_weight}
use Rattle.mj_hall.specs.declared.kept.Queued.{Queued}
use Rattle.mj_hall.specs.declared.kept.Worker.{Worker}
use Rattle.mj_hall.specs.Ends.{EndsAre}
use Rattle.mj_hall.specs.Floor.{requests_of}
use Rattle.mj_hall.specs.HallValue.{HallValue}
use Rattle.mj_hall.specs.Serving.{NoneOf, workers_of}
use Rattle.mj_hall.proofs.FloorLemmas.{some_worker}
use Rattle.mj_hall.proofs.HallLemmas.{first_is_pair, no_pair_is, pair_of, value_is}
use Rattle.mj_hall.proofs.ReadyLemmas.{hidden_some}
use Rattle.mj_hall.proofs.WalkLemmas.{seen_is}
use Rattle.mj_hall.proofs.TakenLemmas.{at_pair, below-out, cancelled, counted, leaving, number-out, others_stay, rise-out, same_many, same_some, state_is, weight-out}
use Rattle.mj_hall.proofs.PeopleLemmas.{pair_people}
use Rattle.mj_hall.proofs.hall.Hall.take_pair.Goals as goal

pub returns-in_err-label-clause-takes : goal.returns-in_err-label-clause-takes
returns-in_err-label-clause-takes g c =
    subst (λ (o : Option (ℕ × Request)). Takes c.args.self.now.state c.args.self.now.state o) (sym c.from_residual.ensures)
    (no_pair_is c.self.inside c.self.invariant.0 c.self.invariant.1 c.args.self.now c.self.invariant.2 c.self.view_is c.in_err-label.ensures.empty, refl)

pub unwrap-row-requires : goal.unwrap-row-requires
unwrap-row-requires g c =
    let t = leaving c.self.inside c.self.invariant.0 c.self.invariant.1 c.in_ok-label.label c.in_ok-label.desk c.self.invariant.2 c.in_ok-label.ensures.stands in
    subst (λ (o : Option (ℕ × ℕ)). IsSome o) (sym (c.firsts_of.ensures.firsts c.self.invariant.0 t.at.later c.self.invariant.1 t.at.others t.at.request t.at.worker t.desk t.at.asks t.at.waits)) (search rules)

pub request_leaves-requires : goal.request_leaves-requires
request_leaves-requires g c =
    let t = leaving c.self.inside c.self.invariant.0 c.self.invariant.1 c.in_ok-label.label c.in_ok-label.desk c.self.invariant.2 c.in_ok-label.ensures.stands in
    let keys : c.unwrap-row.result ≡ (t.at.request.key, t.at.worker.key) = same_some c.firsts_of.result c.unwrap-row.result (t.at.request.key, t.at.worker.key) c.unwrap-row.ensures (c.firsts_of.ensures.firsts c.self.invariant.0 t.at.later c.self.invariant.1 t.at.others t.at.request t.at.worker t.desk t.at.asks t.at.waits) in
    let asked : found c.unwrap-row.result.0 c.self.invariant.0 ≡ Some t.at.request.value = ap (λ (k : ℕ × ℕ). found k.0 c.self.invariant.0) keys ∙ t.asked in
    let served : found c.unwrap-row.result.1 c.self.invariant.1 ≡ Some t.at.worker.value = ap (λ (k : ℕ × ℕ). found k.1 c.self.invariant.1) keys ∙ t.served in
    record { stands = (c.self.invariant.0, t.at.request.value, c.self.invariant.2.asking, asked, c.self.invariant.2.asked) }

pub unwrap-queued-requires : goal.unwrap-queued-requires
unwrap-queued-requires g c =
    let t = leaving c.self.inside c.self.invariant.0 c.self.invariant.1 c.in_ok-label.label c.in_ok-label.desk c.self.invariant.2 c.in_ok-label.ensures.stands in
    let keys : c.unwrap-row.result ≡ (t.at.request.key, t.at.worker.key) = same_some c.firsts_of.result c.unwrap-row.result (t.at.request.key, t.at.worker.key) c.unwrap-row.ensures (c.firsts_of.ensures.firsts c.self.invariant.0 t.at.later c.self.invariant.1 t.at.others t.at.request t.at.worker t.desk t.at.asks t.at.waits) in
    let asked : found c.unwrap-row.result.0 c.self.invariant.0 ≡ Some t.at.request.value = ap (λ (k : ℕ × ℕ). found k.0 c.self.invariant.0) keys ∙ t.asked in
    let served : found c.unwrap-row.result.1 c.self.invariant.1 ≡ Some t.at.worker.value = ap (λ (k : ℕ × ℕ). found k.1 c.self.invariant.1) keys ∙ t.served in
    subst (λ (o : Option Queued). IsSome o) (sym (c.request_leaves.ensures.value c.self.invariant.0 t.at.request.value c.self.invariant.2.asking asked)) (search rules)

pub worker_leaves-requires : goal.worker_leaves-requires
worker_leaves-requires g c =
    let t = leaving c.self.inside c.self.invariant.0 c.self.invariant.1 c.in_ok-label.label c.in_ok-label.desk c.self.invariant.2 c.in_ok-label.ensures.stands in
    let keys : c.unwrap-row.result ≡ (t.at.request.key, t.at.worker.key) = same_some c.firsts_of.result c.unwrap-row.result (t.at.request.key, t.at.worker.key) c.unwrap-row.ensures (c.firsts_of.ensures.firsts c.self.invariant.0 t.at.later c.self.invariant.1 t.at.others t.at.request t.at.worker t.desk t.at.asks t.at.waits) in
    let asked : found c.unwrap-row.result.0 c.self.invariant.0 ≡ Some t.at.request.value = ap (λ (k : ℕ × ℕ). found k.0 c.self.invariant.0) keys ∙ t.asked in
    let served : found c.unwrap-row.result.1 c.self.invariant.1 ≡ Some t.at.worker.value = ap (λ (k : ℕ × ℕ). found k.1 c.self.invariant.1) keys ∙ t.served in
    record {
      stands = (
        c.self.invariant.1,
        t.at.worker.value,
        c.self.invariant.2.serving,
        served,
        subst (λ (b : Bool). EndsAre c.self.inside.waiting_first c.self.inside.waiting_last c.self.inside.waiting_count (workers_of b c.self.invariant.1)) (sym t.idle) c.self.invariant.2.waiting,
      );
    }

pub unwrap-worker-requires : goal.unwrap-worker-requires
unwrap-worker-requires g c =
    let t = leaving c.self.inside c.self.invariant.0 c.self.invariant.1 c.in_ok-label.label c.in_ok-label.desk c.self.invariant.2 c.in_ok-label.ensures.stands in
    let keys : c.unwrap-row.result ≡ (t.at.request.key, t.at.worker.key) = same_some c.firsts_of.result c.unwrap-row.result (t.at.request.key, t.at.worker.key) c.unwrap-row.ensures (c.firsts_of.ensures.firsts c.self.invariant.0 t.at.later c.self.invariant.1 t.at.others t.at.request t.at.worker t.desk t.at.asks t.at.waits) in
    let asked : found c.unwrap-row.result.0 c.self.invariant.0 ≡ Some t.at.request.value = ap (λ (k : ℕ × ℕ). found k.0 c.self.invariant.0) keys ∙ t.asked in
    let served : found c.unwrap-row.result.1 c.self.invariant.1 ≡ Some t.at.worker.value = ap (λ (k : ℕ × ℕ). found k.1 c.self.invariant.1) keys ∙ t.served in
    subst (λ (o : Option Worker). IsSome o) (sym (c.worker_leaves.ensures.value c.self.invariant.1 t.at.worker.value c.self.invariant.2.serving served)) (search rules)

pub worker_comes-requires-clause-stands : goal.worker_comes-requires-clause-stands
worker_comes-requires-clause-stands g c =
    let t = leaving c.self.inside c.self.invariant.0 c.self.invariant.1 c.in_ok-label.label c.in_ok-label.desk c.self.invariant.2 c.in_ok-label.ensures.stands in
    let keys : c.unwrap-row.result ≡ (t.at.request.key, t.at.worker.key) = same_some c.firsts_of.result c.unwrap-row.result (t.at.request.key, t.at.worker.key) c.unwrap-row.ensures (c.firsts_of.ensures.firsts c.self.invariant.0 t.at.later c.self.invariant.1 t.at.others t.at.request t.at.worker t.desk t.at.asks t.at.waits) in
    let asked : found c.unwrap-row.result.0 c.self.invariant.0 ≡ Some t.at.request.value = ap (λ (k : ℕ × ℕ). found k.0 c.self.invariant.0) keys ∙ t.asked in
    let served : found c.unwrap-row.result.1 c.self.invariant.1 ≡ Some t.at.worker.value = ap (λ (k : ℕ × ℕ). found k.1 c.self.invariant.1) keys ∙ t.served in
    let request : c.unwrap-queued.result ≡ t.at.request.value = same_some c.request_leaves.result c.unwrap-queued.result t.at.request.value c.unwrap-queued.ensures (c.request_leaves.ensures.value c.self.invariant.0 t.at.request.value c.self.invariant.2.asking asked) in
    let worker : c.unwrap-worker.result ≡ t.at.worker.value = same_some c.worker_leaves.result c.unwrap-worker.result t.at.worker.value c.unwrap-worker.ensures (c.worker_leaves.ensures.value c.self.invariant.1 t.at.worker.value c.self.invariant.2.serving served) in
    let es = take_out seat_key c.unwrap-row.result.0 c.self.invariant.0 in
    let ws = take_out seat_key c.unwrap-row.result.1 c.self.invariant.1 in
    let asking = c.request_leaves.ensures.asking c.self.invariant.0 t.at.request.value c.self.invariant.2.asking asked in
    let serving = c.worker_leaves.ensures.serving c.self.invariant.1 t.at.worker.value c.self.invariant.2.serving served in
    let asked_desks = c.request_leaves.ensures.desks c.self.inside.names c.self.invariant.0 c.self.invariant.1 t.at.request.value c.self.invariant.2.asking asked c.self.invariant.2.desks in
    let desks = c.worker_leaves.ensures.desks c.self.inside.names es c.self.invariant.1 t.at.worker.value c.self.invariant.2.serving served asked_desks in
    let busy : c.busied.result ≡ record t.at.worker.value { busy = true } = c.busied.ensures ∙ ap (λ (w : Worker). record w { busy = true }) worker in
    let busy_list : workers_of true ws ≡ workers_of true c.self.invariant.1 = subst (λ (b : Bool). workers_of (not b) ws ≡ workers_of (not b) c.self.invariant.1) t.idle (c.worker_leaves.ensures.others c.self.invariant.1 t.at.worker.value c.self.invariant.2.serving served) in
    let none = c.worker_leaves.ensures.none c.self.invariant.1 t.at.worker.value c.self.invariant.2.serving served in
    let busy_ends : EndsAre c.self.inside.busy_first c.self.inside.busy_last c.self.inside.busy_count (workers_of true ws) = subst (λ (xs : List (Seat Worker)). EndsAre c.self.inside.busy_first c.self.inside.busy_last c.self.inside.busy_count xs) (sym busy_list) c.self.invariant.2.busy in (
      c.self.inside.names,
      es,
      ws,
      serving,
      subst (λ (v : Worker). NoneOf v.waiter.worker ws) (sym busy) none,
      desks,
      subst (λ (v : Worker). EndsAre c.self.inside.busy_first c.self.inside.busy_last c.self.inside.busy_count (workers_of v.busy ws)) (sym busy) busy_ends,
      subst (λ (v : Worker). key_of c.self.inside.names v.waiter.service ≡ Some v.desk) (sym busy) (t.worker_named ∙ ap (λ (n : ℕ). Some n) (sym t.worker_desk)),
    )

pub worker_comes-requires-clause-fits : goal.worker_comes-requires-clause-fits
worker_comes-requires-clause-fits g c =
    let t = leaving c.self.inside c.self.invariant.0 c.self.invariant.1 c.in_ok-label.label c.in_ok-label.desk c.self.invariant.2 c.in_ok-label.ensures.stands in
    let some : 0 < c.self.inside.waiting_count = some_worker c.self.inside.workers c.self.inside.conns.pairs c.self.inside.waiting_first c.self.inside.waiting_last c.self.inside.waiting_count c.self.invariant.1 t.at.worker.key t.at.worker.value t.served (subst (λ (b : Bool). EndsAre c.self.inside.waiting_first c.self.inside.waiting_last c.self.inside.waiting_count (workers_of b c.self.invariant.1)) (sym t.idle) c.self.invariant.2.waiting) in
    let fits = c.self.invariant.2.fits in
    omega arith

pub worker_comes-requires-clause-conns_room : goal.worker_comes-requires-clause-conns_room
worker_comes-requires-clause-conns_room g c =
    let t = leaving c.self.inside c.self.invariant.0 c.self.invariant.1 c.in_ok-label.label c.in_ok-label.desk c.self.invariant.2 c.in_ok-label.ensures.stands in
    let keys : c.unwrap-row.result ≡ (t.at.request.key, t.at.worker.key) = same_some c.firsts_of.result c.unwrap-row.result (t.at.request.key, t.at.worker.key) c.unwrap-row.ensures (c.firsts_of.ensures.firsts c.self.invariant.0 t.at.later c.self.invariant.1 t.at.others t.at.request t.at.worker t.desk t.at.asks t.at.waits) in
    let asked : found c.unwrap-row.result.0 c.self.invariant.0 ≡ Some t.at.request.value = ap (λ (k : ℕ × ℕ). found k.0 c.self.invariant.0) keys ∙ t.asked in
    let served : found c.unwrap-row.result.1 c.self.invariant.1 ≡ Some t.at.worker.value = ap (λ (k : ℕ × ℕ). found k.1 c.self.invariant.1) keys ∙ t.served in
    let room = c.worker_leaves.ensures.conns_room c.self.invariant.1 t.at.worker.value c.self.invariant.2.serving served in
    omega arith

pub count_out-requires : goal.count_out-requires
count_out-requires g c =
    let t = leaving c.self.inside c.self.invariant.0 c.self.invariant.1 c.in_ok-label.label c.in_ok-label.desk c.self.invariant.2 c.in_ok-label.ensures.stands in
    let keys : c.unwrap-row.result ≡ (t.at.request.key, t.at.worker.key) = same_some c.firsts_of.result c.unwrap-row.result (t.at.request.key, t.at.worker.key) c.unwrap-row.ensures (c.firsts_of.ensures.firsts c.self.invariant.0 t.at.later c.self.invariant.1 t.at.others t.at.request t.at.worker t.desk t.at.asks t.at.waits) in
    let asked : found c.unwrap-row.result.0 c.self.invariant.0 ≡ Some t.at.request.value = ap (λ (k : ℕ × ℕ). found k.0 c.self.invariant.0) keys ∙ t.asked in
    let served : found c.unwrap-row.result.1 c.self.invariant.1 ≡ Some t.at.worker.value = ap (λ (k : ℕ × ℕ). found k.1 c.self.invariant.1) keys ∙ t.served in
    let request : c.unwrap-queued.result ≡ t.at.request.value = same_some c.request_leaves.result c.unwrap-queued.result t.at.request.value c.unwrap-queued.ensures (c.request_leaves.ensures.value c.self.invariant.0 t.at.request.value c.self.invariant.2.asking asked) in
    record {
      fits =
          subst (λ (q : Queued). is_of_client q.request.origin ≡ true → (1 ≤ c.self.inside.queued) × (weight_of q.request.body ≤ c.self.inside.weight)) (sym request)
          (counted c.unwrap-row.result.0 t.at.request.value c.self.invariant.0 c.self.inside.queued c.self.inside.weight c.self.invariant.2.asking.distinct asked c.self.invariant.2.number c.self.invariant.2.weight);
    }

pub invariant_of-self : goal.invariant_of-self
invariant_of-self g c =
    let t = leaving c.self.inside c.self.invariant.0 c.self.invariant.1 c.in_ok-label.label c.in_ok-label.desk c.self.invariant.2 c.in_ok-label.ensures.stands in
    let keys : c.unwrap-row.result ≡ (t.at.request.key, t.at.worker.key) = same_some c.firsts_of.result c.unwrap-row.result (t.at.request.key, t.at.worker.key) c.unwrap-row.ensures (c.firsts_of.ensures.firsts c.self.invariant.0 t.at.later c.self.invariant.1 t.at.others t.at.request t.at.worker t.desk t.at.asks t.at.waits) in
    let asked : found c.unwrap-row.result.0 c.self.invariant.0 ≡ Some t.at.request.value = ap (λ (k : ℕ × ℕ). found k.0 c.self.invariant.0) keys ∙ t.asked in
    let served : found c.unwrap-row.result.1 c.self.invariant.1 ≡ Some t.at.worker.value = ap (λ (k : ℕ × ℕ). found k.1 c.self.invariant.1) keys ∙ t.served in
    let request : c.unwrap-queued.result ≡ t.at.request.value = same_some c.request_leaves.result c.unwrap-queued.result t.at.request.value c.unwrap-queued.ensures (c.request_leaves.ensures.value c.self.invariant.0 t.at.request.value c.self.invariant.2.asking asked) in
    let worker : c.unwrap-worker.result ≡ t.at.worker.value = same_some c.worker_leaves.result c.unwrap-worker.result t.at.worker.value c.unwrap-worker.ensures (c.worker_leaves.ensures.value c.self.invariant.1 t.at.worker.value c.self.invariant.2.serving served) in
    let es = take_out seat_key c.unwrap-row.result.0 c.self.invariant.0 in
    let ws = take_out seat_key c.unwrap-row.result.1 c.self.invariant.1 in
    let asking = c.request_leaves.ensures.asking c.self.invariant.0 t.at.request.value c.self.invariant.2.asking asked in
    let serving = c.worker_leaves.ensures.serving c.self.invariant.1 t.at.worker.value c.self.invariant.2.serving served in
    let asked_desks = c.request_leaves.ensures.desks c.self.inside.names c.self.invariant.0 c.self.invariant.1 t.at.request.value c.self.invariant.2.asking asked c.self.invariant.2.desks in
    let desks = c.worker_leaves.ensures.desks c.self.inside.names es c.self.invariant.1 t.at.worker.value c.self.invariant.2.serving served asked_desks in
    let busy : c.busied.result ≡ record t.at.worker.value { busy = true } = c.busied.ensures ∙ ap (λ (w : Worker). record w { busy = true }) worker in
    let busy_list : workers_of true ws ≡ workers_of true c.self.invariant.1 = subst (λ (b : Bool). workers_of (not b) ws ≡ workers_of (not b) c.self.invariant.1) t.idle (c.worker_leaves.ensures.others c.self.invariant.1 t.at.worker.value c.self.invariant.2.serving served) in
    let none = c.worker_leaves.ensures.none c.self.invariant.1 t.at.worker.value c.self.invariant.2.serving served in
    let busy_ends : EndsAre c.self.inside.busy_first c.self.inside.busy_last c.self.inside.busy_count (workers_of true ws) = subst (λ (xs : List (Seat Worker)). EndsAre c.self.inside.busy_first c.self.inside.busy_last c.self.inside.busy_count xs) (sym busy_list) c.self.invariant.2.busy in
    let named : key_of c.self.inside.names c.busied.result.waiter.service ≡ Some c.busied.result.desk = subst (λ (v : Worker). key_of c.self.inside.names v.waiter.service ≡ Some v.desk) (sym busy) (t.worker_named ∙ ap (λ (n : ℕ). Some n) (sym t.worker_desk)) in
    let free : NoneOf c.busied.result.waiter.worker ws = subst (λ (v : Worker). NoneOf v.waiter.worker ws) (sym busy) none in
    let kind : EndsAre c.self.inside.busy_first c.self.inside.busy_last c.self.inside.busy_count (workers_of c.busied.result.busy ws) = subst (λ (v : Worker). EndsAre c.self.inside.busy_first c.self.inside.busy_last c.self.inside.busy_count (workers_of v.busy ws)) (sym busy) busy_ends in
    let later = ws ++ record { key = c.worker_comes.result; value = c.busied.result } ∷ [] in
    let serving_now = c.worker_comes.ensures.serving c.self.inside.names es ws serving free desks kind named in
    let desks_now = c.worker_comes.ensures.desks c.self.inside.names es ws serving desks named in
    let v_desk : c.busied.result.desk ≡ c.in_ok-label.desk = ap (λ (v : Worker). v.desk) busy ∙ t.worker_desk in
    let v_busy : c.busied.result.busy ≡ true = ap (λ (v : Worker). v.busy) busy in
    let hidden = hidden_some c.in_ok-label.desk c.in_ok-label.label c.self.inside.pairs.pairs c.remove.new.self.pairs c.self.invariant.0 c.self.invariant.1 (at_pair c.in_ok-label.label c.in_ok-label.desk c.self.invariant.0 c.self.invariant.1 t.at) c.remove.ensures.changed c.self.invariant.2.ready in
    let apart = others_stay c.in_ok-label.desk c.unwrap-row.result.0 c.unwrap-row.result.1 c.worker_comes.result c.remove.new.self.pairs c.self.invariant.0 c.self.invariant.1 t.at.request.value t.at.worker.value c.busied.result c.self.invariant.2.asking.distinct c.self.invariant.2.serving.distinct asked served t.request_desk t.worker_desk v_desk hidden in
    let waiting_ends = c.worker_leaves.ensures.ends c.self.invariant.1 t.at.worker.value c.self.invariant.2.serving served (subst (λ (b : Bool). EndsAre c.self.inside.waiting_first c.self.inside.waiting_last c.self.inside.waiting_count (workers_of b c.self.invariant.1)) (sym t.idle) c.self.invariant.2.waiting) in
    let waiting_left = subst (λ (b : Bool). EndsAre c.worker_leaves.new.first c.worker_leaves.new.last c.worker_leaves.new.count (workers_of b ws)) t.idle waiting_ends in
    let waiting_same : workers_of false later ≡ workers_of false ws = subst (λ (b : Bool). workers_of (not b) later ≡ workers_of (not b) ws) v_busy (c.worker_comes.ensures.others ws) in
    let waiting_now = subst (λ (xs : List (Seat Worker)). EndsAre c.worker_leaves.new.first c.worker_leaves.new.last c.worker_leaves.new.count xs) (sym waiting_same) waiting_left in
    let busy_now = subst (λ (b : Bool). EndsAre c.worker_comes.new.first c.worker_comes.new.last c.worker_comes.new.count (workers_of b later)) v_busy (c.worker_comes.ensures.ends ws kind) in
    let many = same_many c.self.invariant.1 c.unwrap-row.result.1 c.worker_comes.result t.at.worker.value c.busied.result c.self.invariant.2.serving.distinct served t.idle v_busy in
    let waits = waiting_now.len in
    let serves = busy_now.len in
    let waited = c.self.invariant.2.waiting.len in
    let served_many = c.self.invariant.2.busy.len in
    let bound = c.self.invariant.2.fits in (
      es,
      later,
      record {
        asking = asking;
        serving = serving_now;
        desks = desks_now;
        peopled = pair_people c.in_ok-label.desk c.unwrap-row.result.0 c.unwrap-row.result.1 c.worker_comes.result t.at.request.value t.at.worker.value c.busied.result c.self.inside.names c.self.invariant.0 c.self.invariant.1 c.self.invariant.2.asking.distinct c.self.invariant.2.serving.distinct asked served t.request_desk t.worker_desk v_desk c.self.invariant.2.peopled;
        ready = c.mark.ensures.ready es later asking.distinct asking.rows (desks_now.each t.at.request.value.request.service c.in_ok-label.desk t.request_named) apart;
        asked = c.request_leaves.ensures.ends c.self.invariant.0 t.at.request.value c.self.invariant.2.asking asked c.self.invariant.2.asked;
        waiting = waiting_now;
        busy = busy_now;
        rise = rise-out c.unwrap-row.result.0 c.self.invariant.0 c.self.invariant.2.rise;
        below = below-out c.self.inside.next c.unwrap-row.result.0 c.self.invariant.0 c.self.invariant.2.below;
        number =
            cancelled c.count_out.new.queued (queued (requests_of es)) (cond (is_of_client t.at.request.value.request.origin) 1 0) c.self.inside.queued
            (subst (λ (q : Queued). c.count_out.new.queued + cond (is_of_client q.request.origin) 1 0 ≡ c.self.inside.queued) request c.count_out.ensures.queued)
            (number-out c.unwrap-row.result.0 t.at.request.value c.self.invariant.0 c.self.invariant.2.asking.distinct asked ∙ sym c.self.invariant.2.number);
        weight =
            cancelled c.count_out.new.weight (queued_weight (requests_of es)) (cond (is_of_client t.at.request.value.request.origin) (weight_of t.at.request.value.request.body) 0) c.self.inside.weight
            (subst (λ (q : Queued). c.count_out.new.weight + cond (is_of_client q.request.origin) (weight_of q.request.body) 0 ≡ c.self.inside.weight) request c.count_out.ensures.weight)
            (weight-out c.unwrap-row.result.0 t.at.request.value c.self.invariant.0 c.self.invariant.2.asking.distinct asked ∙ sym c.self.invariant.2.weight);
        fits = omega arith;
      },
    )

abbrev answered : Worker → Queued → ℕ × Request
answered w q = (w.waiter.worker, q.request)

pub returns-clause-takes : goal.returns-clause-takes
unfolding invariant_of-self
returns-clause-takes g c =
    let t = leaving c.self.inside c.self.invariant.0 c.self.invariant.1 c.in_ok-label.label c.in_ok-label.desk c.self.invariant.2 c.in_ok-label.ensures.stands in
    let keys : c.unwrap-row.result ≡ (t.at.request.key, t.at.worker.key) = same_some c.firsts_of.result c.unwrap-row.result (t.at.request.key, t.at.worker.key) c.unwrap-row.ensures (c.firsts_of.ensures.firsts c.self.invariant.0 t.at.later c.self.invariant.1 t.at.others t.at.request t.at.worker t.desk t.at.asks t.at.waits) in
    let asked : found c.unwrap-row.result.0 c.self.invariant.0 ≡ Some t.at.request.value = ap (λ (k : ℕ × ℕ). found k.0 c.self.invariant.0) keys ∙ t.asked in
    let served : found c.unwrap-row.result.1 c.self.invariant.1 ≡ Some t.at.worker.value = ap (λ (k : ℕ × ℕ). found k.1 c.self.invariant.1) keys ∙ t.served in
    let request : c.unwrap-queued.result ≡ t.at.request.value = same_some c.request_leaves.result c.unwrap-queued.result t.at.request.value c.unwrap-queued.ensures (c.request_leaves.ensures.value c.self.invariant.0 t.at.request.value c.self.invariant.2.asking asked) in
    let worker : c.unwrap-worker.result ≡ t.at.worker.value = same_some c.worker_leaves.result c.unwrap-worker.result t.at.worker.value c.unwrap-worker.ensures (c.worker_leaves.ensures.value c.self.invariant.1 t.at.worker.value c.self.invariant.2.serving served) in
    let old = value_is c.self.inside c.self.invariant.0 c.self.invariant.1 c.args.self.now c.self.invariant.2 c.self.view_is in
    let busy : c.busied.result ≡ record t.at.worker.value { busy = true } = c.busied.ensures ∙ ap (λ (w : Worker). record w { busy = true }) worker in (
      pair_of c.self.invariant.0 c.self.invariant.1 (t.at.request, t.at.worker),
      ap (λ (v : HallValue). pair v.state.waiting v.state.requests) (sym old) ∙ first_is_pair c.self.inside c.self.invariant.0 c.self.invariant.1 c.in_ok-label.label c.in_ok-label.desk c.self.invariant.2 c.in_ok-label.ensures.stands t.at,
      ap (λ (w : Worker). answered w c.unwrap-queued.result) worker ∙ ap (answered t.at.worker.value) request,
      ap (λ (v : HallValue). v.state) (seen_is _ _ _ (invariant_of-self g c).2)
          ∙ state_is c.self.inside.limits c.self.inside.next c.self.invariant.0 c.self.invariant.1 t.at.request t.at.worker c.unwrap-row.result.0 c.unwrap-row.result.1 c.worker_comes.result c.busied.result c.args.self.now (ap (λ (k : ℕ × ℕ). k.0) keys) (ap (λ (k : ℕ × ℕ). k.1) keys) busy c.self.invariant.2.serving.distinct served t.idle old,
    )
