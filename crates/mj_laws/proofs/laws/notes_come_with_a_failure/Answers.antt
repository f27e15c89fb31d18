use Rattle.mj_laws.proofs.CalmLemmas.{notes_come_with_a_failure}
use Rattle.mj_laws.proofs.laws.notes_come_with_a_failure.Goals as goal

pub returns : goal.returns
returns c = notes_come_with_a_failure
