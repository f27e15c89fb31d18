use Rattle.mj_hall.proofs.ServingLemmas.{conn_none}
use Rattle.mj_hall.proofs.serving.worker_of.Goals as goal

pub returns-clause-none : goal.returns-clause-none
returns-clause-none g c = conn_none c.args.conns.now.pairs c.args.number c.key_for.result c.key_for.ensures.none
