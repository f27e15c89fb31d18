use Rattle.std.proofs.Common.{◌≡◌, true, is_some, List, sym, subst, ◌∙◌, arith}
use Rattle.std.proofs.lemmas.Bool.Decides.{nat_tests}
use Rattle.mj_machine.specs.declared.connection.Connection.{Connection}
use Rattle.mj_machine.specs.Connections.{connection_of}
use Rattle.mj_routing.proofs.PlaceLemmas.{found-at}
use Rattle.mj_routing.proofs.connections.Connections.has_near.Goals as goal

pub returns-in-Some : goal.returns-in-Some
returns-in-Some c =
    subst (λ (cs : List Connection). true ≡ is_some (connection_of c.args.number cs)) (c.deref.ensures.value ∙ c.self.view_is)
    (sym (found-at c.args.number c.deref.result.now c.args.place c.in-Some.connection.now (grind (arith, nat_tests)) (grind (arith, nat_tests))))
