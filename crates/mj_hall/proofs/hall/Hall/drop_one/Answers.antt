use Rattle.std.proofs.Common.{◌≡◌, subst}
use Rattle.std.specs.List.{filter}
use Rattle.mj_chain.specs.Seats.{seat_key, take_out}
use Rattle.mj_hall.specs.HallValue.{HallValue}
use Rattle.mj_hall.specs.Whose.{stays}
use Rattle.mj_hall.proofs.HallLemmas.{value_is}
use Rattle.mj_hall.proofs.StandLemmas.{dropped_one, queue_of}
use Rattle.mj_hall.proofs.TakenLemmas.{below-out, rise-out}
use Rattle.mj_hall.proofs.WalkLemmas.{seen_is}
use Rattle.mj_hall.proofs.hall.Hall.drop_one.Goals as goal

pub request_goes-requires : goal.request_goes-requires
request_goes-requires g c =
    let one = c.in-Some.ensures.some c.self.inside.requests c.self.invariant.0 c.self.invariant.2.asking in
    record { stands = (c.self.invariant.0, c.self.invariant.1, one.0, queue_of c.self.inside c.self.invariant.0 c.self.invariant.1 c.self.invariant.2, one.1) }

pub invariant_of-self : goal.invariant_of-self
invariant_of-self g c =
    let one = c.in-Some.ensures.some c.self.inside.requests c.self.invariant.0 c.self.invariant.2.asking in
    let queue = c.request_goes.ensures.queue c.self.invariant.0 c.self.invariant.1 one.0 (queue_of c.self.inside c.self.invariant.0 c.self.invariant.1 c.self.invariant.2) one.1 in (
      take_out seat_key c.in-Some.key c.self.invariant.0,
      c.self.invariant.1,
      record {
        asking = queue.asking;
        serving = c.self.invariant.2.serving;
        desks = queue.desks;
        peopled = c.request_goes.ensures.peopled c.self.invariant.0 c.self.invariant.1 one.0 (queue_of c.self.inside c.self.invariant.0 c.self.invariant.1 c.self.invariant.2) one.1 c.self.invariant.2.peopled;
        ready = queue.ready;
        asked = queue.ends;
        waiting = c.self.invariant.2.waiting;
        busy = c.self.invariant.2.busy;
        rise = rise-out c.in-Some.key c.self.invariant.0 c.self.invariant.2.rise;
        below = below-out c.self.inside.next c.in-Some.key c.self.invariant.0 c.self.invariant.2.below;
        number = queue.counted;
        weight = queue.weighs;
        fits = c.self.invariant.2.fits;
      },
    )

pub returns-in_default-clause-none : goal.returns-in_default-clause-none
returns-in_default-clause-none g c =
    λ _.
    subst (λ (v : HallValue). filter (stays c.args.whose) v.state.requests ≡ v.state.requests) (value_is c.self.inside c.self.invariant.0 c.self.invariant.1 c.args.self.now c.self.invariant.2 c.self.view_is)
    (c.in_default.ensures.none c.self.inside.requests c.self.invariant.0 c.self.invariant.2.asking)

pub returns-clause-kept : goal.returns-clause-kept
unfolding invariant_of-self
returns-clause-kept g c =
    let one = c.in-Some.ensures.some c.self.inside.requests c.self.invariant.0 c.self.invariant.2.asking in
    (dropped_one c.args.whose c.args.self.now _ c.self.inside.limits c.self.inside.next c.in-Some.key one.0 c.self.invariant.0 c.self.invariant.1 (seen_is _ _ _ (invariant_of-self g c).2)
    (value_is c.self.inside c.self.invariant.0 c.self.invariant.1 c.args.self.now c.self.invariant.2 c.self.view_is) c.self.invariant.2.asking.distinct one.1 one.2).kept

pub returns-clause-fewer : goal.returns-clause-fewer
unfolding invariant_of-self
returns-clause-fewer g c =
    let one = c.in-Some.ensures.some c.self.inside.requests c.self.invariant.0 c.self.invariant.2.asking in
    (dropped_one c.args.whose c.args.self.now _ c.self.inside.limits c.self.inside.next c.in-Some.key one.0 c.self.invariant.0 c.self.invariant.1 (seen_is _ _ _ (invariant_of-self g c).2)
    (value_is c.self.inside c.self.invariant.0 c.self.invariant.1 c.args.self.now c.self.invariant.2 c.self.view_is) c.self.invariant.2.asking.distinct one.1 one.2).fewer
