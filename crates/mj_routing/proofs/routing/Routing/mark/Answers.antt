use Rattle.mj_routing.specs.Holding.{held_in}
use Rattle.mj_routing.proofs.KeptLemmas.{kept-marked}
use Rattle.mj_routing.proofs.routing.Routing.mark.Goals as goal

pub invariant_of-self-2 : goal.invariant_of-self-2
invariant_of-self-2 c =
    kept-marked c.self.inside.limits c.self.inside.moment c.self.inside.next c.self.inside.connections c.self.inside.hall (held_in c.self.inside.held) c.self.inside.leases.leases c.self.invariant
    c.hear.new.self c.reserve.new.self.leases c.renew.new.leases.leases c.args.number c.hear.ensures c.in_ok-reserve.ensures.leases c.renew.ensures
