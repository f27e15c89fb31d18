use Rattle.std.proofs.Common.{refl}
use Rattle.mj_machine.specs.declared.connection.Role.TheVariants.{Fresh}
use Rattle.mj_routing.specs.Holding.{held_in}
use Rattle.mj_routing.proofs.KeptLemmas.{kept-left}
use Rattle.mj_routing.proofs.routing.Routing.expire.Goals as goal

pub invariant_of-self : goal.invariant_of-self
invariant_of-self c =
    kept-left c.self.inside.limits c.self.inside.moment c.self.inside.next c.self.inside.connections c.self.inside.hall (held_in c.self.inside.held) c.self.inside.leases.leases c.self.invariant
    c.set_role.new.self c.drop_worker.new.self c.drop_client.new.self (held_in c.release-back.new.held) c.forget.new.leases.leases c.args.number Fresh
    (λ h. refl) (c.drop_worker.ensures, c.drop_client.ensures) c.release-back.ensures.held c.set_role.ensures c.forget.ensures
