use Rattle.std.proofs.Common.{Err, subst}
use Rattle.mj_queue.specs.declared.request.AskFault.{AskFault}
use Rattle.mj_queue.specs.declared.request.AskFault.TheVariants.{QueueFull}
use Rattle.mj_queue.specs.HallSteps.{Asked}
use Rattle.std.proofs.lemmas.Result.{on_ok_weaker}
use Rattle.mj_keeper.specs.Standing.{told_on}
use Rattle.mj_routing.specs.Holding.{held_in}
use Rattle.mj_routing.proofs.LeavingLemmas.{full-seen}
use Rattle.mj_routing.proofs.routing.Routing.queue.Goals as goal

pub returns-in-Err-QueueFull : goal.returns-in-Err-QueueFull
returns-in-Err-QueueFull c =
    let t : Asked c.self.inside.hall c.ask.new.self c.args.request (Err (QueueFull c.in-Err-QueueFull._request)) =
    subst (λ (f : AskFault). Asked c.self.inside.hall c.ask.new.self c.args.request (Err f)) c.in-Err-QueueFull.field-0-is c.in-Err-QueueFull.ensures in
    on_ok_weaker c.end.result
    (λ d. full-seen c.self.inside.limits c.self.inside.moment c.self.inside.next c.self.inside.connections c.self.inside.hall c.ask.new.self (held_in c.self.inside.held) c.args.self.now c.end.new.self
    c.args.lane c.args.number c.queued-queued.result c.args.request (told_on c.args.tickets.now.shelf) c.args.outs.now.items c.end.new.outs.items c.self.view_is c.self.invariant.limited t.0 t.2 c.queued-queued.ensures d)
    c.end.ensures
