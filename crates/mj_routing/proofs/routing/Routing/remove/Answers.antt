use Rattle.std.proofs.Common.{ap, ◌∙◌}
use Rattle.std.proofs.lemmas.Result.{on_ok_weaker}
use Rattle.mj_queue.specs.Settling.{pair}
use Rattle.mj_machine.specs.MachineState.{State}
use Rattle.mj_keeper.specs.Standing.{told_on}
use Rattle.mj_routing.specs.Holding.{held_in}
use Rattle.mj_routing.proofs.LeavingLemmas.{settled-left}
use Rattle.mj_routing.proofs.KeptLemmas.{kept-removed}
use Rattle.mj_routing.proofs.routing.Routing.remove.Goals as goal

pub invariant_of-self : goal.invariant_of-self
invariant_of-self c =
    kept-removed c.self.inside.limits c.self.inside.moment c.self.inside.next c.self.inside.connections c.self.inside.hall (held_in c.self.inside.held) c.self.inside.leases.leases c.self.invariant
    c.cut_off.new.self c.drop_worker.new.self c.drop_client.new.self (held_in c.release-back.new.held) c.forget.new.leases.leases c.args.number
    (c.drop_worker.ensures, c.drop_client.ensures) c.release-back.ensures.held c.cut_off.ensures c.forget.ensures

pub returns-clause-settled : goal.returns-clause-settled
returns-clause-settled c = λ nothing none.
    on_ok_weaker c.queue_again.result
    (λ e. ap (λ (s : State). pair s.waiting s.queue) e
    ∙ settled-left c.self.inside.limits c.self.inside.moment c.self.inside.next c.self.inside.connections c.self.inside.hall c.drop_worker.new.self c.drop_client.new.self (held_in c.self.inside.held) c.args.self.now
    (told_on c.args.tickets.now.shelf) c.args.number c.release-back.result c.self.view_is (c.drop_worker.ensures, c.drop_client.ensures) c.release-back.ensures.back nothing none)
    c.queue_again.ensures.state
