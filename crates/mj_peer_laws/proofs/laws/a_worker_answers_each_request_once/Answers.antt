use Rattle.mj_peer_laws.proofs.WorkerSightLemmas.{runs-are-right}
use Rattle.mj_peer_laws.proofs.laws.a_worker_answers_each_request_once.Goals as goal

pub returns : goal.returns
returns c = runs-are-right
