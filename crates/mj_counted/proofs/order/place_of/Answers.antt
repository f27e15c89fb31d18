use Rattle.std.proofs.Common.{◌∙◌, sym, arith}
use Rattle.mj_counted.proofs.PairLemmas.{below-le, is_after, is_before}
use Rattle.mj_counted.proofs.order.place_of.Goals as goal

pub loop-low-init : goal.loop-low-init
loop-low-init c = (omega arith, below-le c.args.pair c.args.pairs.now c.requires, omega arith)

pub loop-low-preserved-then-is_below : goal.loop-low-preserved-then-is_below
loop-low-preserved-then-is_below c =
    let after = is_after c.args.pair _ c.args.pairs.now _ c.requires (omega arith) (sym c.is_below.ensures ∙ c.if-is_below.true) in
    (omega arith, c.loop-low.invariant.1, c.loop-low.invariant.2)

pub loop-low-preserved : goal.loop-low-preserved
loop-low-preserved c =
    let before = is_before c.args.pair _ c.args.pairs.now _ c.requires (omega arith) (sym c.is_below.ensures ∙ c.if-is_below.false) in
    (c.loop-low.invariant.0, before, omega arith)
