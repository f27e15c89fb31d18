use Rattle.std.proofs.Common.{ap}
use Rattle.mj_lanes.proofs.Steps.{gives_back, compares}
use Rattle.mj_lanes.proofs.ends.TakeEnd.gather.Goals as goal

pub absorb-requires-clause-rule : goal.absorb-requires-clause-rule
absorb-requires-clause-rule g c = gives_back g.K.Keyed.from _ _ _ _ c.self.invariant.1 c.end.invariant.1

pub learn_as-requires-clause-rule : goal.learn_as-requires-clause-rule
learn_as-requires-clause-rule g c = compares g.K.Keyed.from _ _ (ap (λ v. v.takes) c.absorb.ensures.rule) (ap (λ v. v.sends) c.absorb.ensures.rule)
