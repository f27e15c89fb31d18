use Rattle.std.proofs.Common.{◌∙◌}
use Rattle.mj_audit_prog.proofs.TableLemmas.{audits-starved}
use Rattle.mj_audit_prog.proofs.auditing.conclude.Goals as goal
use Rattle.mj_words.specs.SinkCounts.{counted}

pub returns-in-Ok : goal.returns-in-Ok
returns-in-Ok g c = λ from left reads_before reads_now audited. c.print.ensures from left reads_before reads_now c.args.outcome.held audited (c.as_bytes.ensures.value ∙ c.in-Ok.ensures)

pub returns-in-Err : goal.returns-in-Err
returns-in-Err g c = λ from left reads_before reads_now audited.
    let counts = counted (g.K.Sink.faults c.args.out.now) (g.K.Sink.wants c.args.out.now) in
    audits-starved from left (g.K.Sink.written c.args.out.now) reads_before reads_now counts counts
