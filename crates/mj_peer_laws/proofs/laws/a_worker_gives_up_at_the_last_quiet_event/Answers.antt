use Rattle.mj_peer_laws.proofs.WorkerTryLemmas.{runs-are-right}
use Rattle.mj_peer_laws.proofs.laws.a_worker_gives_up_at_the_last_quiet_event.Goals as goal

pub returns : goal.returns
returns c = runs-are-right
