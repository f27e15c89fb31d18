use Rattle.std.proofs.Common.{◌≡◌, ◌≤◌, length}
use Rattle.mj_lanes.specs.ReadSteps.{Reads}
use Rattle.mj_lanes.proofs.reading.read_pieces.Given as goal

abbrev pub invariant-loop : goal.invariant-loop
invariant-loop g l =
    (goal.iterator-loop g).can_next l.iterator' × (goal.iterator-loop g).is_finite l.iterator' × (l.pass.inbox ≡ l.fn.pass.inbox) × (l.pass.lane ≡ l.fn.pass.lane)
    × Reads l.fn.pass.lane l.fn.pass.sent l.pass.sent (g.S.Source.left l.fn.source) (g.S.Source.left l.source) × (g.S.Source.faults l.fn.source ≤ g.S.Source.faults l.source)
    × (length l.into.items ≡ length l.fn.into.items) × (g.S.Source.misses l.source ≡ g.S.Source.misses l.fn.source)
