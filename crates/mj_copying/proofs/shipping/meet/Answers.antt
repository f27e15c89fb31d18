use Rattle.std.proofs.Common.{List, length, subst, sym, ◌∙◌, ap, refl}
use Rattle.std.specs.List.{AllByRecursion}
use Rattle.mj_copy.specs.ShipRules.{Shipping}
use Rattle.mj_copy.specs.ShipStands.{shipping_of}
use Rattle.mj_copy.specs.declared.ship_act.ShipAct.{ShipAct}
use Rattle.mj_copying.specs.ShipRun.{IsInside}
use Rattle.mj_copying.proofs.LinkLemmas.{on_err, on_ok_always}
use Rattle.mj_copying.proofs.ShipLemmas.{part_met, steps_inside}
use Rattle.mj_copying.proofs.shipping.meet.Goals as goal

pub perform_all-requires-clause-inside : goal.perform_all-requires-clause-inside
perform_all-requires-clause-inside g c =
    let inside = steps_inside (length c.args.log.now.spots.items) c.in_ok-event.event (shipping_of c.args.end.now) c.requires.total in
    subst (λ (l : List ShipAct). AllByRecursion (IsInside (length c.args.log.now.spots.items)) l) (sym (c.as_slice.ensures.value ∙ c.in_ok-acts.ensures.turn.1)) inside.acts

pub returns-clause-broken : goal.returns-clause-broken
returns-clause-broken g c =
    on_err c.perform_all.result
    (λ b payloads s.
    part_met payloads c.in_ok-event.event (shipping_of c.args.end.now) c.as_slice.result.now _ (g.L.Link.told c.read_event.new.link) _ (c.as_slice.ensures.value ∙ c.in_ok-acts.ensures.turn.1) c.in_ok-event.ensures.told (b payloads s))
    c.perform_all.ensures.broken

pub returns-clause-total : goal.returns-clause-total
returns-clause-total g c =
    on_ok_always c.perform_all.result
    (ap (λ (s : Shipping). s.total) c.in_ok-acts.ensures.turn.0 ∙ (steps_inside (shipping_of c.args.end.now).total c.in_ok-event.event (shipping_of c.args.end.now) refl).total_is)
