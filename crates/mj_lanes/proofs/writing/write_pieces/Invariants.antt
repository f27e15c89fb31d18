use Rattle.std.proofs.Common.{◌≡◌, ◌≤◌}
use Rattle.mj_lanes.specs.WriteSteps.{Wrote}
use Rattle.mj_lanes.proofs.writing.write_pieces.Given as goal

abbrev pub invariant-loop : goal.invariant-loop
invariant-loop g l =
    (goal.iterator-loop g).can_next l.iterator' × (goal.iterator-loop g).is_finite l.iterator' × (l.pass.inbox ≡ l.fn.pass.inbox) × (l.pass.lane ≡ l.fn.pass.lane) × (l.pass.outlet ≡ l.fn.pass.outlet)
    × Wrote l.fn.pass.lane l.fn.pass.taken l.pass.taken l.fn.pass.sent l.pass.sent (g.K.Sink.written l.fn.sink) (g.K.Sink.written l.sink) × (g.K.Sink.faults l.fn.sink ≤ g.K.Sink.faults l.sink)
