use Rattle.mj_lanes.proofs.Steps.{takes}
use Rattle.mj_lanes.proofs.ends.TakeEnd.poll.Goals as goal

pub try_recv_as-requires-clause-rule : goal.try_recv_as-requires-clause-rule
try_recv_as-requires-clause-rule g c = (takes g.K.Keyed.from _ _ c.self.invariant.1, λ _ _ _ _. tt)
