use Rattle.std.proofs.Common.{List, refl, sym, subst}
use Rattle.mj_machine.specs.declared.connection.Connection.{Connection}
use Rattle.mj_routing.specs.Holding.{held_in}
use Rattle.mj_routing.specs.Lanes.{fresh}
use Rattle.mj_routing.specs.RoutingState.{AreKept}
use Rattle.mj_routing.proofs.KeptLemmas.{kept-added}
use Rattle.mj_routing.proofs.routing.Routing.add.Goals as goal

pub invariant_of-self : goal.invariant_of-self
invariant_of-self c =
    subst (λ (cs : List Connection). AreKept c.self.inside.limits c.self.inside.moment c.self.inside.next cs c.self.inside.hall (held_in c.self.inside.held) c.self.inside.leases.leases) (sym c.in_err-add.ensures.err) c.self.invariant

pub invariant_of-self-2 : goal.invariant_of-self-2
invariant_of-self-2 c =
    kept-added c.self.inside.limits c.self.inside.moment c.self.inside.next c.self.inside.connections c.self.inside.hall (held_in c.self.inside.held) c.self.inside.leases.leases c.self.invariant (fresh c.args.lane c.self.inside.next) c.add.new.self refl refl c.in_ok-add.ensures.ok
