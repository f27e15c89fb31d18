use Rattle.mj_titanic.specs.declared.acts.Keeping.{Keeping}
use Rattle.mj_routing.specs.Staying.{StaysBeside}
use Rattle.mj_machine.specs.MachineState.{State}
use Rattle.mj_titanic.proofs.OnwardLemmas.{opened-onward, same-onward}
use Rattle.std.proofs.Common.{subst}
use Rattle.std.proofs.Common.{sym, ◌∙◌}
use Rattle.mj_titanic.specs.declared.fault.ActFault.TheVariants.{NoMemory}
use Rattle.mj_titanic.specs.Acting.{seen}
use Rattle.mj_titanic.proofs.Composing.{did-given-up, did-to}
use Rattle.mj_titanic.proofs.Openings.{opening-kept, reopened-core}
use Rattle.mj_titanic.proofs.Routed.{parts-same}
use Rattle.mj_titanic.proofs.parts.Parts.open_again.Goals as goal

pub returns-then-is_open-clause-done : goal.returns-then-is_open-clause-done
returns-then-is_open-clause-done g c = opening-kept g.D.Disk (seen c.args.self.now) c.args.disk.now c.args.outs.now.items (sym c.is_open.ensures ∙ c.if-is_open.true)

pub returns-in-Ok-route_again-clause-done : goal.returns-in-Ok-route_again-clause-done
returns-in-Ok-route_again-clause-done g c =
    let shut = sym c.is_open.ensures ∙ c.if-is_open.false in
    let routed = reopened-core c.args.self.now.keeping.keeper.shelf c.open_again.new.self.keeper.shelf c.args.self.now.routing shut c.requires.stored ∙ sym c.in-Ok-route_again.ensures.routing in
    did-to g.D.Disk (seen c.args.self.now) c.args.disk.now _ _ c.open_again.new.disk _ _ _ _ (parts-same _ _ _ _ routed (sym c.in-Ok-route_again.ensures.keeping)) (c.in-Ok.ensures.done c.args.self.now.routing)

pub returns-in-Err-route_again-clause-stopped : goal.returns-in-Err-route_again-clause-stopped
returns-in-Err-route_again-clause-stopped g c =
    did-given-up g.D.Disk (seen c.args.self.now) c.args.disk.now _ c.open_again.new.disk _ _ _ _ (c.in-Ok.ensures.done c.args.self.now.routing) NoMemory tt (λ refused. absurd refused)

pub returns-then-is_open-clause-stays : goal.returns-then-is_open-clause-stays
returns-then-is_open-clause-stays g c = same-onward c.args.self.now.keeping.keeper.shelf c.args.self.now.routing

pub returns-in-Ok-route_again-clause-stays : goal.returns-in-Ok-route_again-clause-stays
returns-in-Ok-route_again-clause-stays g c =
    subst (λ (k : Keeping). StaysBeside c.args.self.now.keeping.keeper.shelf k.keeper.shelf c.args.self.now.routing c.route_again.new.self.routing) (sym c.in-Ok-route_again.ensures.keeping)
    (subst (λ (s : State). StaysBeside c.args.self.now.keeping.keeper.shelf c.open_again.new.self.keeper.shelf c.args.self.now.routing s) (sym c.in-Ok-route_again.ensures.routing)
    (opened-onward c.args.self.now.keeping.keeper.shelf c.open_again.new.self.keeper.shelf c.args.self.now.routing (sym c.is_open.ensures ∙ c.if-is_open.false)))
