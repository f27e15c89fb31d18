use Rattle.std.proofs.Common.{◌≡◌, List, ◌++◌}
use Rattle.mj_lanes.proofs.ends.TakeEnd.drain.Given as goal

abbrev pub invariant-loop : goal.invariant-loop
invariant-loop g l =
    (goal.iterator-loop g).can_next l.iterator' × (goal.iterator-loop g).is_finite l.iterator' × ((more : List g.row.T.Denot) × (l.self ≡ record l.fn.self { taken = l.fn.self.taken ++ more }))
