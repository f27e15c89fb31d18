use Rattle.std.proofs.Common.{List, sym, subst, arith}
use Rattle.std.proofs.lemmas.Result.{err_from_is_err_and}
use Rattle.mj_wire.specs.declared.item.WireItem.{WireItem}
use Rattle.mj_wire.specs.StreamItems.{items_from}
use Rattle.mj_wire.specs.WireState.{AppendsFront}
use Rattle.mj_wire.proofs.StreamLemmas.{found_within, taken_step, taken_more, taken_end, loop_part}
use Rattle.mj_wire.proofs.KeptLemmas.{weighs_more, weighs_end, stops_here}
use Rattle.mj_wire.proofs.read.read_all.Goals as goal

pub take_next-requires : goal.take_next-requires
take_next-requires c = found_within _ _ _ _ c.next_of-next.ensures

pub returns-in_err-take_next-clause-part : goal.returns-in_err-take_next-clause-part
returns-in_err-take_next-clause-part c =
    let part = loop_part _ _ _ _ _ _ _ c.loop-step.invariant.0.1 in
    let p = err_from_is_err_and c.from_residual.result c.from_residual.ensures.1 in
    rw p.1 (subst (λ (now : List WireItem). AppendsFront c.args.items.now.items (items_from c.args.limits.now c.args.place.now c.args.octets.now) now) (sym c.in_err-take_next.ensures.err) part)

pub returns-in-None-clause-read : goal.returns-in-None-clause-read
returns-in-None-clause-read c =
    taken_end _ _ _ _ _ _ _ _ _ _ _ _ c.loop-step.invariant.0.1 c.split_at.ensures.back c.next_of-next.ensures c.in_ok-take_next.ensures.step c.in-None.is c.in_ok-take_next.ensures.place c.in_ok-take_next.ensures.items

pub overflow_add-used : goal.overflow_add-used
overflow_add-used c =
    let s = taken_step _ _ _ _ _ _ _ _ c.loop-step.invariant.0.0 c.split_at.ensures.back c.next_of-next.ensures c.in_ok-take_next.ensures.step c.in-Some.is in
    omega (arith, s.1)

pub loop-step-smaller : goal.loop-step-smaller
loop-step-smaller c =
    let s = taken_step _ _ _ _ _ _ _ _ c.loop-step.invariant.0.0 c.split_at.ensures.back c.next_of-next.ensures c.in_ok-take_next.ensures.step c.in-Some.is in
    omega (arith, s.0, s.1)

pub loop-step-preserved : goal.loop-step-preserved
loop-step-preserved c = (
  taken_more _ _ _ _ _ _ _ _ _ _ _ _ _ c.loop-step.invariant.0 c.split_at.ensures.back c.next_of-next.ensures c.in_ok-take_next.ensures.step c.in-Some.is c.in_ok-take_next.ensures.place c.in_ok-take_next.ensures.items,
  weighs_more _ _ _ _ _ _ _ _ _ _ _ _ c.loop-step.invariant.1 c.next_of-next.ensures c.in_ok-take_next.ensures.step c.in-Some.is c.in_ok-take_next.ensures.place c.in_ok-take_next.ensures.items,
)

pub returns-in-None-clause-waits : goal.returns-in-None-clause-waits
returns-in-None-clause-waits c =
    stops_here _ _ _ c.args.octets.now _ c.loop-step.used _ _ c.split_at.ensures.back c.next_of-next.ensures c.in_ok-take_next.ensures.step c.in-None.is c.in_ok-take_next.ensures.place

pub returns-in-None-clause-weighs : goal.returns-in-None-clause-weighs
returns-in-None-clause-weighs c =
    weighs_end _ _ _ _ _ _ _ _ _ _ _ c.loop-step.invariant.1 c.next_of-next.ensures c.in_ok-take_next.ensures.step c.in-None.is c.in_ok-take_next.ensures.place c.in_ok-take_next.ensures.items
