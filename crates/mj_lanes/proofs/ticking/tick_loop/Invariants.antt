use Rattle.std.proofs.Common.{◌≡◌}
use Rattle.mj_lanes.specs.TickSteps.{Ticks}
use Rattle.mj_lanes.proofs.ticking.tick_loop.Given as goal

abbrev pub invariant-loop : goal.invariant-loop
invariant-loop g l =
    (goal.iterator-loop g).can_next l.iterator' × (goal.iterator-loop g).is_finite l.iterator' × (l.pass.inbox ≡ l.fn.pass.inbox)
    × Ticks l.until l.fn.pass.sent l.pass.sent (g.C.Clock.gave l.fn.clock) (g.C.Clock.gave l.clock)
