use Rattle.std.proofs.Common.{◌∙◌, sym}
use Rattle.mj_hall.proofs.AskingLemmas.{asking_out, leaving_last}
use Rattle.mj_hall.proofs.asking.request_out.Goals as goal

pub origin_back-requires : goal.origin_back-requires
origin_back-requires g c = record {
  last = leaving_last c.args.requests.now c.args.clients.now.pairs c.args.tickets.now.pairs c.requires.stands.0 c.args.key c.requires.stands.1 c.in_ok-node.node c.requires.stands.2 c.requires.stands.3 (sym c.take_node.ensures.value ∙ c.in_ok-node.was);
}

pub returns-clause-asking : goal.returns-clause-asking
returns-clause-asking g c =
    λ es x a at_k.
    asking_out c.args.requests.now c.take_node.new.rows c.args.clients.now.pairs c.origin_back.new.clients.pairs c.args.tickets.now.pairs c.origin_back.new.tickets.pairs es c.args.key x c.in_ok-node.node a at_k
    (sym c.take_node.ensures.value ∙ c.in_ok-node.was) c.in_ok-node.ensures.changed c.in_ok-node.ensures.count c.origin_back.ensures.clients c.origin_back.ensures.tickets
