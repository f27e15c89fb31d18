use Rattle.mj_laws.proofs.TellLemmas.{notes_are_told}
use Rattle.mj_laws.proofs.laws.notes_are_told.Goals as goal

pub returns : goal.returns
returns c = notes_are_told
