use Rattle.mj_hall.proofs.DeskLemmas.{desks-request_in}
use Rattle.mj_hall.proofs.EndLemmas.{ends_in}
use Rattle.mj_hall.proofs.floor.request_comes.Goals as goal

pub returns-clause-desks : goal.returns-clause-desks
returns-clause-desks g c =
    λ names es ws a are named.
    desks-request_in c.args.desks.now c.join.new.desks names es ws c.request_in-key.result c.args.value are (c.request_in-key.ensures.free es a) named c.join.ensures.changed

pub returns-clause-ends : goal.returns-clause-ends
returns-clause-ends g c =
    λ es are.
    ends_in c.args.first.now c.args.last.now c.args.count.now c.ends_with.new.first c.ends_with.new.last c.ends_with.new.count c.request_in-key.result c.args.value es are c.ends_with.ensures.first c.ends_with.ensures.last c.ends_with.ensures.count
