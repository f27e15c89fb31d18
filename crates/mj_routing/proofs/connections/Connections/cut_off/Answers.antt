use Rattle.mj_routing.proofs.LaneLemmas.{indexed-removed}
use Rattle.mj_routing.proofs.connections.Connections.cut_off.Goals as goal

pub invariant_of-self : goal.invariant_of-self
invariant_of-self c =
    indexed-removed c.self.inside.list.items c.self.inside.lanes c.self.invariant c.args.self.now c.args.number c.in-Some.at c.remove-connection.result c.remove-connection.new.self.items c.swap_remove.new.self
    c.self.view_is c.in-Some.ensures c.remove-connection.ensures.value c.remove-connection.ensures.items c.swap_remove.ensures.updates
