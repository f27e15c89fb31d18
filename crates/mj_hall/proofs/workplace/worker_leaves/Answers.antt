use Rattle.std.proofs.Common.{◌∙◌, sym, subst}
use Rattle.mj_chain.specs.declared.desk.Line.{Line}
use Rattle.mj_hall.proofs.DeskLemmas.{LineLeft}
use Rattle.mj_hall.proofs.FloorLemmas.{other_kind, some_worker, worker_desks, worker_ends}
use Rattle.mj_hall.proofs.workplace.worker_leaves.Goals as goal

pub ends_without-requires : goal.ends_without-requires
ends_without-requires g c =
    some_worker c.args.workers.now c.args.conns.now.pairs c.args.first.now c.args.last.now c.args.count.now c.requires.stands.0 c.args.key c.requires.stands.1 c.requires.stands.3 c.requires.stands.4

pub returns-clause-desks : goal.returns-clause-desks
returns-clause-desks g c =
    λ names es ws w a at_k are.
    worker_desks c.args.workers.now c.args.conns.now.pairs c.args.desks.now c.leave.new.desks names es ws c.args.key w c.in_ok-node.node a at_k (sym c.worker_out.ensures.value ∙ c.in_ok-node.was) are
    (subst (λ (l : Line). LineLeft l c.in_ok-node.node.value.desk c.in_ok-node.node.service c.args.desks.now c.leave.new.desks) c.worker_line.ensures c.leave.ensures.changed)

pub returns-clause-ends : goal.returns-clause-ends
returns-clause-ends g c =
    λ ws w a at_k are.
    worker_ends c.args.workers.now c.args.conns.now.pairs c.args.first.now c.args.last.now c.args.count.now c.ends_without.new.first c.ends_without.new.last c.ends_without.new.count ws c.args.key w c.in_ok-node.node a at_k
    (sym c.worker_out.ensures.value ∙ c.in_ok-node.was) are c.ends_without.ensures.first c.ends_without.ensures.last c.ends_without.ensures.count

pub returns-clause-others : goal.returns-clause-others
returns-clause-others g c = λ ws w a at_k. other_kind ws c.args.workers.now c.args.conns.now.pairs c.args.key w a at_k
