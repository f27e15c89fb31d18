use Rattle.std.proofs.Common.{ℕ, List, refl, ap, slice_set}
use Rattle.mj_machine.specs.EventStep.{delivered}
use Rattle.mj_routing.proofs.LaneLemmas.{indexed-set, set-changed}
use Rattle.mj_routing.proofs.connections.Connections.note_delivered.Goals as goal

pub invariant_of-self : goal.invariant_of-self
invariant_of-self c =
    indexed-set c.self.inside.list.items c.self.inside.lanes c.self.invariant c.args.self.now c.args.number c.in-Some.at delivered c.index_mut.result.now _ c.self.view_is c.in-Some.ensures c.index_mut.ensures.value (λ d. refl) (λ d. refl)
    (ap (λ (outstanding : List ℕ). slice_set c.self.inside.list.items c.in-Some.at (record c.index_mut.result.now { outstanding = outstanding })) c.pop.ensures)

pub returns-in-Some : goal.returns-in-Some
returns-in-Some c =
    set-changed c.self.inside.list.items c.args.self.now c.args.number c.in-Some.at delivered c.index_mut.result.now _ c.self.view_is c.in-Some.ensures c.index_mut.ensures.value
    (ap (λ (outstanding : List ℕ). slice_set c.self.inside.list.items c.in-Some.at (record c.index_mut.result.now { outstanding = outstanding })) c.pop.ensures)
