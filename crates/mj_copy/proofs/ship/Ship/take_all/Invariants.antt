use Rattle.std.proofs.Common.{◌≤◌, ◌-◌}
use Rattle.mj_copy.specs.ShipStands.{Swept}
use Rattle.mj_copy.proofs.ship.Ship.take_all.Given as goal

abbrev pub invariant-loop-step : goal.invariant-loop-step
invariant-loop-step l = (l._step ≤ l._step-end) × Swept l.fn.self l.self l.fn.acts.items l.acts.items (l._step-end - l._step)
