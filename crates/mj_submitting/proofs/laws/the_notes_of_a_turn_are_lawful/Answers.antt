use Rattle.mj_submitting.proofs.LawfulLemmas.{turns-are-lawful}
use Rattle.mj_submitting.proofs.laws.the_notes_of_a_turn_are_lawful.Goals as goal

pub returns : goal.returns
returns c = turns-are-lawful
