use Rattle.std.proofs.Common.{refl, ap, ◌∙◌}
use Rattle.mj_lanes.specs.Passes.{TickerState}
use Rattle.mj_lanes.proofs.Loops.{ticks_more}
use Rattle.mj_lanes.proofs.ticking.tick_loop.Goals as goal

pub loop-preserved : goal.loop-preserved
loop-preserved g c =
    let i = c.loop.invariant in
    (tt, tt, ap (λ (p : TickerState). p.inbox) c.tick.ensures ∙ i.2, ticks_more c.args.until _ _ _ _ _ _ c.next-moment.result i.3 (ap (λ (p : TickerState). p.sent) c.tick.ensures) c.next-moment.ensures.gave (c.if-is_last.ensures.early refl))
