use Rattle.std.proofs.Common.{◌∙◌, sym, ap}
use Rattle.mj_chain.specs.Seats.{is_key}
use Rattle.mj_hall.proofs.AskingLemmas.{absent_key, asking_in, origin_last}
use Rattle.mj_hall.proofs.asking.request_in.Goals as goal

pub origin_on-requires-clause-last : goal.origin_on-requires-clause-last
origin_on-requires-clause-last g c =
    λ j.
    origin_last c.args.requests.now c.args.clients.now.pairs c.args.tickets.now.pairs c.requires.stands.0 c.args.value.request.origin j c.requires.stands.1
    ∙ ap (is_key j) (sym (c.last_of-last.ensures.last c.args.requests.now c.requires.stands.0 c.requires.stands.1))

pub returns-clause-free : goal.returns-clause-free
returns-clause-free g c = λ es a. absent_key c.args.requests.now c.args.clients.now.pairs c.args.tickets.now.pairs es c.put_node-key.result a c.put_node-key.ensures.free

pub returns-clause-asking : goal.returns-clause-asking
returns-clause-asking g c =
    λ es a all_is service_is.
    asking_in c.args.requests.now c.put_node-key.new.rows c.args.clients.now.pairs c.origin_on.new.clients.pairs c.args.tickets.now.pairs c.origin_on.new.tickets.pairs es c.put_node-key.result c.args.value c.args.all c.args.service
    c.last_of-last.result a c.put_node-key.ensures.free all_is service_is (c.last_of-last.ensures.last c.args.requests.now es a) c.put_node-key.ensures.changed c.put_node-key.ensures.count c.origin_on.ensures.clients c.origin_on.ensures.tickets
