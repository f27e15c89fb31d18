use Rattle.std.proofs.Common.{◌∙◌, ap, is_some}
use Rattle.mj_queue.specs.Settling.{pair}
use Rattle.mj_hall.specs.HallValue.{HallValue}
use Rattle.mj_hall.proofs.HallLemmas.{has_pair_is, value_is}
use Rattle.mj_hall.proofs.hall.Hall.has_pair.Goals as goal

pub returns-clause-value : goal.returns-clause-value
returns-clause-value g c =
    c.is_some.ensures ∙ has_pair_is c.self.inside c.self.invariant.0 c.self.invariant.1 c.get.result c.self.invariant.2 c.get.ensures.stands c.get.ensures.empty
    ∙ ap (λ (v : HallValue). is_some (pair v.state.waiting v.state.requests)) (value_is c.self.inside c.self.invariant.0 c.self.invariant.1 c.args.self.now c.self.invariant.2 c.self.view_is)
