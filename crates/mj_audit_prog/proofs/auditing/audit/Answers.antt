use Rattle.mj_audit_prog.specs.Auditing.{IsAudited}
use Rattle.mj_audit_prog.specs.AuditingSoFar.{HaltCause, IsHalted}
use Rattle.mj_audit_prog.proofs.TableLemmas.{ended}
use Rattle.mj_audit_prog.proofs.auditing.audit.Goals as goal

pub returns-clause-audits : goal.returns-clause-audits
returns-clause-audits g c =
    let from = g.S.Source.left c.args.src.now in
    let left = g.S.Source.left c.run_text-run.new.src in
    let before = g.S.Source.faults c.args.src.now in
    let now = g.S.Source.faults c.run_text-run.new.src in
    c.finish.ensures from left before now
    (ended c.run_text-run.result (λ outcome. IsAudited from left outcome.held outcome.verdict) (λ halt. IsHalted halt from left) (λ halt. HaltCause halt before now)
    c.run_text-run.ensures.whole c.run_text-run.ensures.halted c.run_text-run.ensures.cause)
