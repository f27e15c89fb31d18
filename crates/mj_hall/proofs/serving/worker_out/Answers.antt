use Rattle.std.proofs.Common.{◌∙◌, sym}
use Rattle.mj_hall.proofs.ServingLemmas.{none_left, serving_out}
use Rattle.mj_hall.proofs.serving.worker_out.Goals as goal

pub returns-clause-serving : goal.returns-clause-serving
returns-clause-serving g c =
    λ ws w a at_k.
    serving_out c.args.workers.now c.take_node.new.rows c.args.conns.now.pairs c.remove.new.self.pairs ws c.args.key w c.in_ok-node.node a at_k
    (sym c.take_node.ensures.value ∙ c.in_ok-node.was) c.in_ok-node.ensures.changed c.in_ok-node.ensures.count c.remove.ensures.changed

pub returns-clause-none : goal.returns-clause-none
returns-clause-none g c = λ ws w a at_k. none_left c.args.workers.now c.args.conns.now.pairs ws c.args.key w a at_k
