use Rattle.std.proofs.Common.{◌++◌, ◌∷◌, [], Option, get_or, subst, take}
use Rattle.std.proofs.lemmas.List.{get_or_default}
use Rattle.mj_transcript.specs.declared.verdict.Verdict.{Verdict}
use Rattle.mj_audit_prog.specs.Reading.{OctetStep}
use Rattle.mj_audit_prog.proofs.ReadLemmas.{piece-over}
use Rattle.mj_audit_prog.proofs.reader.Reader.take_piece.Goals as goal

pub returns-in-Some-clause-goes : goal.returns-in-Some-clause-goes
returns-in-Some-clause-goes c = λ read r.
    let piece = c.args.piece.now in
    let i = c.loop-octet.octet-index in
    let octet = get_or piece i 0 in
    piece-over read piece i octet c.take_octet.new.self.lines c.in-Some.verdict c.loop-octet-test.true (get_or_default piece i 0 octet c.loop-octet-test.true)
    (subst (λ (o : Option Verdict). OctetStep o c.take_octet.new.self ((read ++ take i piece) ++ octet ∷ [])) c.in-Some.is (c.in_ok-verdict.ensures.goes (read ++ take i piece) (c.loop-octet.invariant.goes read r)))
