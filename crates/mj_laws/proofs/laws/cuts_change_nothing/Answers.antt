use Rattle.mj_laws.proofs.CutLemmas.{cuts_change_nothing}
use Rattle.mj_laws.proofs.laws.cuts_change_nothing.Goals as goal

pub returns : goal.returns
returns c = cuts_change_nothing
