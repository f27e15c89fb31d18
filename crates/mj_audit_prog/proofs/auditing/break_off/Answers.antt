use Rattle.std.proofs.Common.{[], subst}
use Rattle.std.proofs.KnownBytes.{Appends-nil}
use Rattle.mj_audit_prog.specs.AuditingSoFar.{HaltCause, IsHalted}
use Rattle.mj_audit_prog.specs.declared.pieces.Halt.{Halt}
use Rattle.mj_audit_prog.proofs.TableLemmas.{audits-starved, audits-unread, same-counts}
use Rattle.mj_audit_prog.proofs.auditing.break_off.Goals as goal
use Rattle.mj_words.specs.SinkCounts.{counted}

pub returns-in-NoMemory : goal.returns-in-NoMemory
returns-in-NoMemory g c = λ from left reads_before reads_now halted cause.
    let counts = counted (g.K.Sink.faults c.args.out.now) (g.K.Sink.wants c.args.out.now) in
    audits-starved from left (g.K.Sink.written c.args.out.now) reads_before reads_now counts counts

pub returns-in-Read : goal.returns-in-Read
returns-in-Read g c = λ from left reads_before reads_now halted cause.
    let counts = counted (g.K.Sink.faults c.args.out.now) (g.K.Sink.wants c.args.out.now) in
    let old = g.K.Sink.written c.args.out.now in
    audits-unread from left old (g.K.Sink.written c.complain.new.out) reads_before reads_now counts (counted (g.K.Sink.faults c.complain.new.out) (g.K.Sink.wants c.complain.new.out))
    (subst (λ (x : Halt). HaltCause x reads_before reads_now) c.in-Read.is cause) (subst (λ (x : Halt). IsHalted x from left) c.in-Read.is halted)
    (c.complain.ensures old [] counts (same-counts counts) (Appends-nil old))
