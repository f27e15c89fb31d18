use Rattle.mj_laws.proofs.ConservedLemmas.{lists_are_lawful}
use Rattle.mj_laws.proofs.laws.lists_are_lawful.Goals as goal

pub returns : goal.returns
returns c = lists_are_lawful
