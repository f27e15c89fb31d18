use Rattle.std.proofs.Common.{Result, subst}
use Rattle.std.specs.Prelude.{MatchResult}
use Rattle.mj_audit_prog.specs.Auditing.{IsAudited}
use Rattle.mj_audit_prog.specs.AuditingSoFar.{HaltCause, IsHalted}
use Rattle.mj_audit_prog.specs.declared.auditing.Outcome.{Outcome}
use Rattle.mj_audit_prog.specs.declared.pieces.Halt.{Halt}
use Rattle.mj_audit_prog.proofs.auditing.finish.Goals as goal

pub returns-in-Ok : goal.returns-in-Ok
returns-in-Ok g c = λ from left reads_before reads_now ended.
    c.conclude.ensures from left reads_before reads_now
    (subst (λ (r : Result Outcome Halt). MatchResult r (λ outcome. IsAudited from left outcome.held outcome.verdict) (λ halt. IsHalted halt from left × HaltCause halt reads_before reads_now)) c.in-Ok.is ended)

pub returns-in-Err : goal.returns-in-Err
returns-in-Err g c = λ from left reads_before reads_now ended.
    let h = subst (λ (r : Result Outcome Halt). MatchResult r (λ outcome. IsAudited from left outcome.held outcome.verdict) (λ halt. IsHalted halt from left × HaltCause halt reads_before reads_now)) c.in-Err.is ended in
    c.break_off.ensures from left reads_before reads_now h.0 h.1
