use Rattle.std.proofs.Common.{ℕ, ◌+◌, ◌∙◌, ◌&&◌, ◌||◌, Bool, false, not, nat_le, nat_lt, ap}
use Rattle.mj_base.specs.KeptWeight.{weight_of}
use Rattle.mj_queue.specs.Settling
use Rattle.mj_queue.specs.Settling.{is_of_client, queued, queued_weight}
use Rattle.mj_hall.specs.Floor.{requests_of, waiters_of}
use Rattle.mj_hall.specs.Serving.{workers_of}
use Rattle.mj_hall.specs.HallValue.{HallValue}
use Rattle.mj_hall.proofs.HallLemmas.{value_is}
use Rattle.mj_hall.proofs.HasLemmas.{awaited_is}
use Rattle.mj_hall.proofs.hall.Hall.is_too_much.Goals as goal

pub returns-clause-value : goal.returns-clause-value
returns-clause-value g c =
    let awaited = awaited_is c.self.inside c.self.invariant.0 c.self.invariant.1 c.self.invariant.2 c.args.request.now.service c.is_awaited-awaited.result (λ d e. c.is_awaited-awaited.ensures.named d c.self.invariant.0 c.self.invariant.1 e (c.self.invariant.2.desks.each c.args.request.now.service d e)) c.is_awaited-awaited.ensures.none in
    c.is_past.ensures
    ∙ ap (λ (b : Bool). is_of_client c.args.request.now.origin && (not b && (nat_le c.self.inside.limits.queued c.self.inside.queued || nat_lt c.self.inside.limits.queued_weight (c.self.inside.weight + weight_of c.args.request.now.body)))) awaited
    ∙ ap (λ (n : ℕ). is_of_client c.args.request.now.origin && (not (Settling.has_waiter (waiters_of (workers_of false c.self.invariant.1)) c.args.request.now) && (nat_le c.self.inside.limits.queued n || nat_lt c.self.inside.limits.queued_weight (c.self.inside.weight + weight_of c.args.request.now.body)))) c.self.invariant.2.number
    ∙ ap (λ (n : ℕ). is_of_client c.args.request.now.origin && (not (Settling.has_waiter (waiters_of (workers_of false c.self.invariant.1)) c.args.request.now) && (nat_le c.self.inside.limits.queued (queued (requests_of c.self.invariant.0)) || nat_lt c.self.inside.limits.queued_weight (n + weight_of c.args.request.now.body)))) c.self.invariant.2.weight
    ∙ ap (λ (v : HallValue). Settling.is_too_much v.state.limits v.state.waiting v.state.requests c.args.request.now) (value_is c.self.inside c.self.invariant.0 c.self.invariant.1 c.args.self.now c.self.invariant.2 c.self.view_is)
