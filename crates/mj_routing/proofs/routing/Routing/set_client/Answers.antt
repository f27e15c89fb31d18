use Rattle.std.proofs.Common.{refl}
use Rattle.mj_machine.specs.declared.connection.Role.TheVariants.{Client}
use Rattle.mj_routing.specs.Holding.{held_in}
use Rattle.mj_routing.proofs.KeptLemmas.{kept-role}
use Rattle.mj_routing.proofs.routing.Routing.set_client.Goals as goal

pub invariant_of-self : goal.invariant_of-self
invariant_of-self c =
    kept-role c.self.inside.limits c.self.inside.moment c.self.inside.next c.self.inside.connections c.self.inside.hall (held_in c.self.inside.held) c.self.inside.leases.leases c.self.invariant
    c.set_role.new.self c.forget.new.leases.leases c.args.number Client (λ h. refl) c.set_role.ensures c.forget.ensures
