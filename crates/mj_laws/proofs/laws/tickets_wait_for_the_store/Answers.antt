use Rattle.mj_laws.proofs.ShutLemmas.{tickets_wait}
use Rattle.mj_laws.proofs.laws.tickets_wait_for_the_store.Goals as goal

pub returns : goal.returns
returns c = tickets_wait
