use Rattle.std.proofs.Common.{Option, subst}
use Rattle.mj_transcript.specs.declared.verdict.Verdict.{Verdict}
use Rattle.mj_audit_prog.specs.Reading.{LastStep}
use Rattle.mj_audit_prog.proofs.ReadLemmas.{judged-end}
use Rattle.mj_audit_prog.proofs.reader.Reader.take_end.Goals as goal

pub returns-in-None : goal.returns-in-None
returns-in-None c = λ read r.
    judged-end c.take_last.new.self read c.finish.result c.finish.ensures (subst (λ (o : Option Verdict). LastStep o c.take_last.new.self read) c.in-None.is (c.in_ok-verdict.ensures.goes read r))

pub returns-in-Some : goal.returns-in-Some
returns-in-Some c = λ read r. subst (λ (o : Option Verdict). LastStep o c.take_last.new.self read) c.in-Some.is (c.in_ok-verdict.ensures.goes read r)
