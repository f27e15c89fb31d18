use Rattle.std.proofs.Common.{◌++◌, Option, subst}
use Rattle.mj_transcript.specs.declared.verdict.Verdict.{Verdict}
use Rattle.mj_audit_prog.specs.Reading.{OctetStep}
use Rattle.mj_audit_prog.proofs.RunLemmas.{so-far-more, turned-over}
use Rattle.mj_audit_prog.proofs.pieces.take_bytes.Goals as goal

pub returns-in-Some-clause-goes : goal.returns-in-Some-clause-goes
returns-in-Some-clause-goes c = λ from before left read s took some small.
    turned-over from before left c.args.reader.now c.take_piece.new.self c.args.taken read c.args.piece.now c.in-Some.verdict c.requires.few small s took
    (subst (λ (o : Option Verdict). OctetStep o c.take_piece.new.self (read ++ c.args.piece.now)) c.in-Some.is (c.in_ok-verdict.ensures.goes read s.stands))

pub returns-in-None-clause-goes : goal.returns-in-None-clause-goes
returns-in-None-clause-goes c = λ from before left read s took some small. (
  c.args.piece.now,
  some,
  so-far-more from before left c.args.reader.now c.take_piece.new.self c.args.taken read c.args.piece.now c.requires.few s took
      (subst (λ (o : Option Verdict). OctetStep o c.take_piece.new.self (read ++ c.args.piece.now)) c.in-None.is (c.in_ok-verdict.ensures.goes read s.stands)),
)
