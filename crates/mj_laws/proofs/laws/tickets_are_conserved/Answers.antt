use Rattle.mj_laws.proofs.ConservedLemmas.{tickets_are_conserved}
use Rattle.mj_laws.proofs.laws.tickets_are_conserved.Goals as goal

pub returns : goal.returns
returns c = tickets_are_conserved
