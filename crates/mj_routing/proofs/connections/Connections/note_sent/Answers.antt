use Rattle.std.proofs.Common.{ℕ, List, refl, ap, slice_set, ◌∙◌}
use Rattle.mj_machine.specs.declared.connection.Role.{Role}
use Rattle.mj_machine.specs.Connections.{spoken_to}
use Rattle.mj_machine.specs.Sending.{sent}
use Rattle.mj_routing.proofs.LaneLemmas.{indexed-set, set-changed}
use Rattle.mj_routing.proofs.connections.Connections.note_sent.Goals as goal

pub invariant_of-self-in-Some : goal.invariant_of-self-in-Some
invariant_of-self-in-Some c =
    indexed-set c.self.inside.list.items c.self.inside.lanes c.self.invariant c.args.self.now c.args.number c.in-Some.at (sent c.args.now c.args.octets) c.index_mut-connection.result.now _ c.self.view_is c.in-Some.ensures c.index_mut-connection.ensures.value (λ d. refl) (λ d. refl)
    (ap (λ (role : Role). slice_set c.self.inside.list.items c.in-Some.at (record c.index_mut-connection.result.now { role = role; outstanding = c.push.new.self })) c.set_spoken.ensures
    ∙ ap (λ (outstanding : List ℕ). slice_set c.self.inside.list.items c.in-Some.at (record c.index_mut-connection.result.now { role = spoken_to c.args.now c.index_mut-connection.result.now.role; outstanding = outstanding })) c.in_ok-push.ensures.ok)

pub returns-in_ok-push-clause-ok : goal.returns-in_ok-push-clause-ok
returns-in_ok-push-clause-ok c =
    set-changed c.self.inside.list.items c.args.self.now c.args.number c.in-Some.at (sent c.args.now c.args.octets) c.index_mut-connection.result.now _ c.self.view_is c.in-Some.ensures c.index_mut-connection.ensures.value
    (ap (λ (role : Role). slice_set c.self.inside.list.items c.in-Some.at (record c.index_mut-connection.result.now { role = role; outstanding = c.push.new.self })) c.set_spoken.ensures
    ∙ ap (λ (outstanding : List ℕ). slice_set c.self.inside.list.items c.in-Some.at (record c.index_mut-connection.result.now { role = spoken_to c.args.now c.index_mut-connection.result.now.role; outstanding = outstanding })) c.in_ok-push.ensures.ok)
