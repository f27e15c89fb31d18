use Rattle.std.proofs.Common.{subst}
use Rattle.mj_chain.specs.declared.desk.Line.{Line}
use Rattle.mj_hall.proofs.DeskLemmas.{LineJoined, desks-worker_in}
use Rattle.mj_hall.proofs.FloorLemmas.{other_kind_in, worker_ends_in}
use Rattle.mj_hall.proofs.workplace.worker_comes.Goals as goal

pub returns-clause-desks : goal.returns-clause-desks
returns-clause-desks g c =
    λ names es ws a are named.
    desks-worker_in c.args.desks.now c.join.new.desks names es ws c.worker_in-key.result c.args.value are (c.worker_in-key.ensures.free ws a) named
    (subst (λ (l : Line). LineJoined l c.args.value.desk c.worker_in-key.result c.args.desks.now c.join.new.desks) c.worker_line.ensures c.join.ensures.changed)

pub returns-clause-ends : goal.returns-clause-ends
returns-clause-ends g c =
    λ ws are.
    worker_ends_in c.args.first.now c.args.last.now c.args.count.now c.ends_with.new.first c.ends_with.new.last c.ends_with.new.count ws c.worker_in-key.result c.args.value are c.ends_with.ensures.first c.ends_with.ensures.last c.ends_with.ensures.count

pub returns-clause-others : goal.returns-clause-others
returns-clause-others g c = λ ws. other_kind_in ws c.worker_in-key.result c.args.value
