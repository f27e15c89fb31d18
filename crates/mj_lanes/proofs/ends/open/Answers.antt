use Rattle.mj_lanes.proofs.Steps.{begins}
use Rattle.mj_lanes.proofs.ends.open.Goals as goal

pub bounded_with-requires-clause-rule : goal.bounded_with-requires-clause-rule
bounded_with-requires-clause-rule g c = begins g.K.Keyed.from
