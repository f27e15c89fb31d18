use Rattle.std.proofs.Common.{Result, subst}
use Rattle.std.specs.Prelude.{MatchResult}
use Rattle.mj_bridge_prog.specs.BridgeTable.{CameTo, IsHalted}
use Rattle.mj_bridge_prog.specs.declared.ending.Ending.{Ending}
use Rattle.mj_bridge_prog.proofs.finish.finish.Goals as goal
use Rattle.mj_peering.specs.declared.stop.Stop.{Stop}

pub returns-in-Ok : goal.returns-in-Ok
returns-in-Ok g c = λ first old now before later ended.
    c.finish_whole.ensures first old now before later (subst (λ (r : Result Ending Stop). MatchResult r (CameTo first old now) (IsHalted first old now before later)) c.in-Ok.is ended)

pub returns-in-Err : goal.returns-in-Err
returns-in-Err g c = λ first old now before later ended.
    c.break_off.ensures first old now before later (subst (λ (r : Result Ending Stop). MatchResult r (CameTo first old now) (IsHalted first old now before later)) c.in-Err.is ended)
