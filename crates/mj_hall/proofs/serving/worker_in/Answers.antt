use Rattle.std.proofs.lemmas.Result.{IfOk-at_ok}
use Rattle.mj_hall.proofs.ServingLemmas.{absent_key, serving_in}
use Rattle.mj_hall.proofs.serving.worker_in.Goals as goal

pub returns-clause-free : goal.returns-clause-free
returns-clause-free g c = λ ws a. absent_key c.args.workers.now c.args.conns.now.pairs ws c.put_node-key.result a c.put_node-key.ensures.free

pub returns-clause-serving : goal.returns-clause-serving
returns-clause-serving g c =
    λ ws a none all_is service_is.
    serving_in c.args.workers.now c.put_node-key.new.rows c.args.conns.now.pairs c.insert.new.self.pairs ws c.put_node-key.result c.args.value c.args.all c.args.service a none c.put_node-key.ensures.free all_is service_is
    c.put_node-key.ensures.changed c.put_node-key.ensures.count (IfOk-at_ok _ c.unwrap.ensures c.insert.ensures.changed)
