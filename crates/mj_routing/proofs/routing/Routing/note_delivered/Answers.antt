use Rattle.mj_routing.specs.Holding.{held_in}
use Rattle.mj_routing.proofs.KeptLemmas.{kept-delivered}
use Rattle.mj_routing.proofs.routing.Routing.note_delivered.Goals as goal

pub invariant_of-self : goal.invariant_of-self
invariant_of-self c =
    kept-delivered c.self.inside.limits c.self.inside.moment c.self.inside.next c.self.inside.connections c.self.inside.hall (held_in c.self.inside.held) c.self.inside.leases.leases c.self.invariant
    c.args.number c.note_delivered.new.self c.note_delivered.ensures
