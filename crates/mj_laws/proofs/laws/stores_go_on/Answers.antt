use Rattle.mj_laws.proofs.CommandLemmas.{stores_go_on}
use Rattle.mj_laws.proofs.laws.stores_go_on.Goals as goal

pub returns : goal.returns
returns c = stores_go_on
