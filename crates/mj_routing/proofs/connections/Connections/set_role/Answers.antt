use Rattle.std.proofs.Common.{refl}
use Rattle.mj_machine.specs.Connections.{with_role}
use Rattle.mj_routing.proofs.LaneLemmas.{indexed-set, set-changed}
use Rattle.mj_routing.proofs.connections.Connections.set_role.Goals as goal

pub invariant_of-self : goal.invariant_of-self
invariant_of-self c =
    indexed-set c.self.inside.list.items c.self.inside.lanes c.self.invariant c.args.self.now c.args.number c.in-Some.at (with_role c.args.role) c.index_mut.result.now _ c.self.view_is c.in-Some.ensures c.index_mut.ensures.value (λ d. refl) (λ d. refl)
    refl

pub returns-in-Some : goal.returns-in-Some
returns-in-Some c =
    set-changed c.self.inside.list.items c.args.self.now c.args.number c.in-Some.at (with_role c.args.role) c.index_mut.result.now _ c.self.view_is c.in-Some.ensures c.index_mut.ensures.value
    refl
