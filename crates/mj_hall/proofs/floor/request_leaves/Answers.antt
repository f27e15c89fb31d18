use Rattle.std.proofs.Common.{◌∙◌, sym}
use Rattle.mj_hall.proofs.FloorLemmas.{request_desks, request_ends}
use Rattle.mj_hall.proofs.floor.request_leaves.Goals as goal

pub returns-clause-desks : goal.returns-clause-desks
returns-clause-desks g c =
    λ names es ws x a at_k are.
    request_desks c.args.requests.now c.args.clients.now.pairs c.args.tickets.now.pairs c.args.desks.now c.leave.new.desks names es ws c.args.key x c.in_ok-node.node a at_k (sym c.request_out.ensures.value ∙ c.in_ok-node.was) are c.leave.ensures.changed

pub returns-clause-ends : goal.returns-clause-ends
returns-clause-ends g c =
    λ es x a at_k are.
    request_ends c.args.requests.now c.args.clients.now.pairs c.args.tickets.now.pairs c.args.first.now c.args.last.now c.args.count.now c.ends_without.new.first c.ends_without.new.last c.ends_without.new.count es c.args.key x c.in_ok-node.node a at_k
    (sym c.request_out.ensures.value ∙ c.in_ok-node.was) are c.ends_without.ensures.first c.ends_without.ensures.last c.ends_without.ensures.count
