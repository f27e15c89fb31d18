use Rattle.std.proofs.Common.{◌≡◌, ◌+◌, ◌≤◌, ◌∙◌, ℕ, Option, Some, true, cond, sym, subst, rules, ◌==◌, false, refl, ap}
use Rattle.std.specs.Option.{IsSome}
use Rattle.mj_base.specs.KeptWeight.{weight_of}
use Rattle.mj_counted.specs.Names.{key_of}
use Rattle.mj_chain.specs.Seats.{seat_key, take_out}
use Rattle.mj_queue.specs.Settling.{is_of_client, queued, queued_weight}
use Rattle.mj_hall.specs.declared.kept.Queued.{Queued}
use Rattle.mj_hall.specs.Desks.{is_peopled}
use Rattle.mj_hall.specs.Floor.{requests_of}
use Rattle.mj_hall.proofs.CrewLemmas.{same_some, was_pair_request}
use Rattle.mj_hall.proofs.LeavingLemmas.{hidden_parts, parting_at}
use Rattle.mj_hall.proofs.PeopleLemmas.{desk_request_out}
use Rattle.mj_hall.proofs.TakenLemmas.{cancelled, counted, number-out, weight-out}
use Rattle.mj_hall.proofs.leaving.request_goes.Goals as goal

pub unwrap-desk-requires : goal.unwrap-desk-requires
unwrap-desk-requires g c =
    let queue = c.requires.stands.3 in
    subst (λ (o : Option ℕ). IsSome o) (sym (c.desk_of_request.ensures.value c.args.clients.now.pairs c.args.tickets.now.pairs c.requires.stands.0 c.requires.stands.2 queue.asking c.requires.stands.4)) (search rules)

pub request_leaves-requires : goal.request_leaves-requires
request_leaves-requires g c =
    let queue = c.requires.stands.3 in
    record { stands = (c.requires.stands.0, c.requires.stands.2, queue.asking, c.requires.stands.4, queue.ends) }

pub unwrap-gone-requires : goal.unwrap-gone-requires
unwrap-gone-requires g c =
    let queue = c.requires.stands.3 in
    subst (λ (o : Option Queued). IsSome o) (sym (c.request_leaves.ensures.value c.requires.stands.0 c.requires.stands.2 queue.asking c.requires.stands.4)) (search rules)

pub mark_again-requires : goal.mark_again-requires
mark_again-requires g c =
    let queue = c.requires.stands.3 in
    let es = c.requires.stands.0 in
    let ws = c.requires.stands.1 in
    let x = c.requires.stands.2 in
    let at = c.requires.stands.4 in
    let desk = c.unwrap-desk.result in
    let parting = parting_at c.args.desks.now c.args.names.now es ws c.args.key desk x c.desk_of_request.result queue.desks at (c.desk_of_request.ensures.value c.args.clients.now.pairs c.args.tickets.now.pairs es x queue.asking at) c.unwrap-desk.ensures in
    let hidden = c.unmark.ensures.ready es ws queue.asking.distinct queue.asking.rows parting.here queue.ready in
    let asking = c.request_leaves.ensures.asking es x queue.asking at in
    let desks = c.request_leaves.ensures.desks c.args.names.now es ws x queue.asking at queue.desks in
    record {
      stands = (
        take_out seat_key c.args.key es,
        ws,
        asking.distinct,
        asking.rows,
        desks.each x.request.service desk parting.named,
        hidden_parts c.args.key desk x c.unmark.new.pairs.pairs es ws queue.asking.distinct at parting.place hidden,
        λ e. c.unmark.ensures.back es ws queue.asking.distinct queue.asking.rows parting.here queue.ready (was_pair_request c.args.key desk es ws x e),
      );
    }

pub count_out-requires : goal.count_out-requires
count_out-requires g c =
    let queue = c.requires.stands.3 in
    let es = c.requires.stands.0 in
    let x = c.requires.stands.2 in
    let at = c.requires.stands.4 in
    let same : c.unwrap-gone.result ≡ x = same_some c.request_leaves.result c.unwrap-gone.result x c.unwrap-gone.ensures (c.request_leaves.ensures.value es x queue.asking at) in
    record {
      fits =
          subst (λ (q : Queued). is_of_client q.request.origin ≡ true → (1 ≤ c.args.queued.now) × (weight_of q.request.body ≤ c.args.weight.now)) (sym same)
          (counted c.args.key x es c.args.queued.now c.args.weight.now queue.asking.distinct at queue.counted queue.weighs);
    }

pub shut-requires : goal.shut-requires
shut-requires g c =
    let queue = c.requires.stands.3 in
    let es = c.requires.stands.0 in
    let ws = c.requires.stands.1 in
    let x = c.requires.stands.2 in
    let at = c.requires.stands.4 in
    let same : c.unwrap-gone.result ≡ x = same_some c.request_leaves.result c.unwrap-gone.result x c.unwrap-gone.ensures (c.request_leaves.ensures.value es x queue.asking at) in
    let parting = parting_at c.args.desks.now c.args.names.now es ws c.args.key c.unwrap-desk.result x c.desk_of_request.result queue.desks at (c.desk_of_request.ensures.value c.args.clients.now.pairs c.args.tickets.now.pairs es x queue.asking at) c.unwrap-desk.ensures in
    subst (λ (q : Queued). key_of c.args.names.now q.request.service ≡ Some c.unwrap-desk.result) (sym same) parting.named

pub returns-clause-queue : goal.returns-clause-queue
returns-clause-queue g c =
    λ es ws x queue at.
    let key = c.args.key in
    let desk = c.unwrap-desk.result in
    let parting = parting_at c.args.desks.now c.args.names.now es ws c.args.key desk x c.desk_of_request.result queue.desks at (c.desk_of_request.ensures.value c.args.clients.now.pairs c.args.tickets.now.pairs es x queue.asking at) c.unwrap-desk.ensures in
    let hidden = c.unmark.ensures.ready es ws queue.asking.distinct queue.asking.rows parting.here queue.ready in
    let asking = c.request_leaves.ensures.asking es x queue.asking at in
    let desks = c.request_leaves.ensures.desks c.args.names.now es ws x queue.asking at queue.desks in
    let same : c.unwrap-gone.result ≡ x = same_some c.request_leaves.result c.unwrap-gone.result x c.unwrap-gone.ensures (c.request_leaves.ensures.value es x queue.asking at) in
    record {
      asking = asking;
      workers = queue.workers;
      desks = c.shut.ensures.desks (take_out seat_key key es) ws asking.distinct queue.workers desks;
      ready =
          c.mark_again.ensures.ready (take_out seat_key key es) ws asking.distinct asking.rows (desks.each x.request.service desk parting.named)
          (hidden_parts key desk x c.unmark.new.pairs.pairs es ws queue.asking.distinct at parting.place hidden);
      ends = c.request_leaves.ensures.ends es x queue.asking at queue.ends;
      counted =
          cancelled c.count_out.new.queued (queued (requests_of (take_out seat_key key es))) (cond (is_of_client x.request.origin) 1 0) c.args.queued.now
          (subst (λ (q : Queued). c.count_out.new.queued + cond (is_of_client q.request.origin) 1 0 ≡ c.args.queued.now) same c.count_out.ensures.queued)
          (number-out key x es queue.asking.distinct at ∙ sym queue.counted);
      weighs =
          cancelled c.count_out.new.weight (queued_weight (requests_of (take_out seat_key key es))) (cond (is_of_client x.request.origin) (weight_of x.request.body) 0) c.args.weight.now
          (subst (λ (q : Queued). c.count_out.new.weight + cond (is_of_client q.request.origin) (weight_of q.request.body) 0 ≡ c.args.weight.now) same c.count_out.ensures.weight)
          (weight-out key x es queue.asking.distinct at ∙ sym queue.weighs);
    }

pub returns-clause-peopled : goal.returns-clause-peopled
returns-clause-peopled g c =
    λ es ws x queue at people.
    let key = c.args.key in
    let desk = c.unwrap-desk.result in
    let parting = parting_at c.args.desks.now c.args.names.now es ws c.args.key desk x c.desk_of_request.result queue.desks at (c.desk_of_request.ensures.value c.args.clients.now.pairs c.args.tickets.now.pairs es x queue.asking at) c.unwrap-desk.ensures in
    let desks = c.request_leaves.ensures.desks c.args.names.now es ws x queue.asking at queue.desks in
    c.shut.ensures.peopled (take_out seat_key key es) ws desks
    (λ q d e hidden. ap is_peopled (desk_request_out key d x es ws queue.asking.distinct at (subst (λ (m : ℕ). (m == d) ≡ false) (sym parting.place) hidden)) ∙ people q d e refl)
