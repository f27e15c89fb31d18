use Rattle.std.proofs.Common.{List, subst}
use Rattle.mj_lanes.specs.declared.outlet.Item.{Item}
use Rattle.mj_lanes.specs.Rule.{of, Begins}
use Rattle.mj_lanes.specs.Ends.{SendState}
use Rattle.mj_lanes.proofs.Outlets.{begins_put}
use Rattle.mj_lanes.proofs.gathering.gather_writer.Goals as goal

pub returns-clause-taken : goal.returns-clause-taken
returns-clause-taken g c =
    let from : Begins (of (λ _. 0) c.into_end.result.from c.args.pass.taken) c.into_end.result.sent
    = subst (λ (t : List Item). Begins (of (λ _. 0) c.into_end.result.from t) c.into_end.result.sent) c.into_ends-end.ensures.outlet.1 c.gather-2.ensures.begins in
    begins_put _ _ (subst (λ (e : SendState Item). Begins (of (λ _. 0) e.from c.args.pass.taken) e.sent) c.into_end.ensures from)
