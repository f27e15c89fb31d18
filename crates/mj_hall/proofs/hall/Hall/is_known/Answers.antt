use Rattle.std.proofs.Common.{◌∙◌, ◌||◌, ap, is_some}
use Rattle.std.specs.List.{list_any}
use Rattle.mj_queue.specs.Settling.{is_served}
use Rattle.mj_hall.specs.HallValue.{HallValue, asks_for}
use Rattle.mj_hall.proofs.HallLemmas.{value_is}
use Rattle.mj_hall.proofs.HasLemmas.{known_is}
use Rattle.mj_hall.proofs.hall.Hall.is_known.Goals as goal

pub returns-clause-value : goal.returns-clause-value
returns-clause-value g c =
    c.is_some.ensures ∙ ap is_some c.get.ensures.value
    ∙ known_is c.self.inside c.self.invariant.0 c.self.invariant.1 c.self.invariant.2 c.args.name.now
    ∙ ap (λ (v : HallValue). list_any (asks_for c.args.name.now) v.state.requests || is_served c.args.name.now v.state.waiting v.state.busy) (value_is c.self.inside c.self.invariant.0 c.self.invariant.1 c.args.self.now c.self.invariant.2 c.self.view_is)
