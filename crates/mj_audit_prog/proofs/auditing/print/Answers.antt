use Rattle.std.proofs.Common.{◌≡◌, [], subst}
use Rattle.std.proofs.KnownBytes.{Appends-nil}
use Rattle.mj_audit_prog.specs.Auditing.{IsAudited, verdict_line}
use Rattle.mj_audit_prog.proofs.TableLemmas.{audits-broken, audits-held, audits-unlawful, same-counts}
use Rattle.mj_audit_prog.proofs.auditing.print.Goals as goal
use Rattle.mj_transcript.specs.declared.verdict.Verdict.{Verdict}
use Rattle.mj_words.specs.SinkCounts.{counted}

pub returns-in-Held : goal.returns-in-Held
returns-in-Held g c = λ from left reads_before reads_now held audited line.
    audits-held from left (g.K.Sink.written c.args.out.now) (g.K.Sink.written c.write.new.self) reads_before reads_now (counted (g.K.Sink.faults c.args.out.now) (g.K.Sink.wants c.args.out.now))
    (counted (g.K.Sink.faults c.write.new.self) (g.K.Sink.wants c.write.new.self)) held c.status_of.result c.args.line.now c.write.result
    (subst (λ (v : Verdict). IsAudited from left held v) c.in-Held.is audited) (subst (λ (v : Verdict). c.args.line.now ≡ verdict_line held v) c.in-Held.is line)
    c.write.ensures.octets c.write.ensures.cause c.status_of.ensures

pub returns-in-Broken : goal.returns-in-Broken
returns-in-Broken g c = λ from left reads_before reads_now held audited line.
    audits-broken from left (g.K.Sink.written c.args.out.now) (g.K.Sink.written c.write-in-Broken.new.self) reads_before reads_now (counted (g.K.Sink.faults c.args.out.now) (g.K.Sink.wants c.args.out.now))
    (counted (g.K.Sink.faults c.write-in-Broken.new.self) (g.K.Sink.wants c.write-in-Broken.new.self)) held c.status_of-in-Broken.result c.in-Broken.field-0 c.args.line.now c.write-in-Broken.result
    (subst (λ (v : Verdict). IsAudited from left held v) c.in-Broken.is audited) (subst (λ (v : Verdict). c.args.line.now ≡ verdict_line held v) c.in-Broken.is line)
    c.write-in-Broken.ensures.octets c.write-in-Broken.ensures.cause c.status_of-in-Broken.ensures

pub returns-in-Unlawful : goal.returns-in-Unlawful
returns-in-Unlawful g c = λ from left reads_before reads_now held audited line.
    let counts = counted (g.K.Sink.faults c.args.out.now) (g.K.Sink.wants c.args.out.now) in
    let old = g.K.Sink.written c.args.out.now in
    audits-unlawful from left old (g.K.Sink.written c.complain.new.out) reads_before reads_now counts (counted (g.K.Sink.faults c.complain.new.out) (g.K.Sink.wants c.complain.new.out)) held c.args.line.now
    (subst (λ (v : Verdict). IsAudited from left held v) c.in-Unlawful.is audited) (subst (λ (v : Verdict). c.args.line.now ≡ verdict_line held v) c.in-Unlawful.is line)
    (c.complain.ensures old [] counts (same-counts counts) (Appends-nil old))
