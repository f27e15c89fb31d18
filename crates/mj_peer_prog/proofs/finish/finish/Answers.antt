use Rattle.std.proofs.Common.{Result, subst}
use Rattle.std.specs.Prelude.{MatchResult}
use Rattle.mj_peering.specs.declared.stop.Stop.{Stop}
use Rattle.mj_peer_prog.specs.StatusRows.{CameTo, IsHalted, in_setting}
use Rattle.mj_peer_prog.specs.declared.ending.Ending.{Ending}
use Rattle.mj_peer_prog.proofs.finish.finish.Goals as goal

pub returns-in-Ok : goal.returns-in-Ok
returns-in-Ok g c = λ task t later ended.
    let s = in_setting t (g.K.Sink.written c.args.out.now) (g.K.Sink.faults c.args.out.now) (g.K.Sink.wants c.args.out.now) in
    c.finish_whole.ensures task t later (subst (λ (r : Result Ending Stop). MatchResult r (CameTo task s) (λ stop. IsHalted stop task s)) c.in-Ok.is ended)

pub returns-in-Err : goal.returns-in-Err
returns-in-Err g c = λ task t later ended.
    let s = in_setting t (g.K.Sink.written c.args.out.now) (g.K.Sink.faults c.args.out.now) (g.K.Sink.wants c.args.out.now) in
    c.break_off.ensures task t later (subst (λ (r : Result Ending Stop). MatchResult r (CameTo task s) (λ stop. IsHalted stop task s)) c.in-Err.is ended)
