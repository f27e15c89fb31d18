use Rattle.mj_routing.specs.Holding.{held_in}
use Rattle.mj_routing.proofs.KeptLemmas.{kept-waiting}
use Rattle.mj_routing.proofs.routing.Routing.wait.Goals as goal

pub invariant_of-self-2 : goal.invariant_of-self-2
invariant_of-self-2 c =
    kept-waiting c.self.inside.limits c.self.inside.moment c.self.inside.next c.self.inside.connections c.self.inside.hall (held_in c.self.inside.held) c.self.inside.leases.leases c.self.invariant
    c.wait.new.self (held_in c.drop_held.new.held) c.reserve.new.self.leases c.renew.new.leases.leases c.args.number c.args.service.now
    c.in_ok-wait.ensures.ok c.drop_held.ensures c.in_ok-reserve.ensures.leases c.renew.ensures
