use Rattle.mj_audit_laws.proofs.AnswerLemmas.{held-answers-are-given}
use Rattle.mj_audit_laws.proofs.laws.held_answers_are_given.Goals as goal

pub returns : goal.returns
returns c = held-answers-are-given
