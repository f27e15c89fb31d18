use Rattle.mj_lanes.proofs.Steps.{makes}
use Rattle.mj_lanes.proofs.ends.TakeEnd.make.Goals as goal

pub another-pass-requires-clause-rule : goal.another-pass-requires-clause-rule
another-pass-requires-clause-rule g c = makes g.K.Keyed.from _ _ c.self.invariant.1
