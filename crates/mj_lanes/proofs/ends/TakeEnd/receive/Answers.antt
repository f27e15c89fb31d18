use Rattle.mj_lanes.proofs.Steps.{takes}
use Rattle.mj_lanes.proofs.ends.TakeEnd.receive.Goals as goal

pub recv_as-requires-clause-rule : goal.recv_as-requires-clause-rule
recv_as-requires-clause-rule g c = (takes g.K.Keyed.from _ _ c.self.invariant.1, λ _ _ _ _. tt)
