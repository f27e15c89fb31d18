use Rattle.mj_titanic.proofs.OnwardLemmas.{dropped-onward}
use Rattle.mj_routing.proofs.PlainLemmas.{beside-then}
use Rattle.std.proofs.Common.{◌∷◌, [], ap}
use Rattle.mj_titanic.specs.declared.acts.Keeping.{Keeping}
use Rattle.mj_titanic.specs.declared.fault.ActFault.TheVariants.{NoMemory}
use Rattle.mj_titanic.specs.Acting.{nowhere, parts, seen}
use Rattle.mj_titanic.proofs.Composing.{stopped-still}
use Rattle.std.specs.Prelude.{codes}
use Rattle.mj_keeper.specs.Standing.{told_on}
use Rattle.mj_machine.specs.DiskActs.{clients_alone}
use Rattle.mj_machine.specs.TitanicStep.{answers}
use Rattle.mj_titanic.proofs.Routed.{answers-plain, does-at, routed-did}
use Rattle.mj_titanic.proofs.parts.Parts.fail.Goals as goal

pub returns-in-Ok-clause-done : goal.returns-in-Ok-clause-done
returns-in-Ok-clause-done g c =
    routed-did g.D.Disk (parts (clients_alone c.args.self.now.routing) c.args.self.now.keeping) (seen c.send_code.new.self) c.args.disk.now _ _ (answers c.args.number c.args.request.now (codes "500" ∷ []))
    (ap (λ (k : Keeping). k.keeper) c.in-Ok.ensures.keeping) (ap (λ (k : Keeping). k.acts) c.in-Ok.ensures.keeping)
    (does-at _ _ _ (answers c.args.number c.args.request.now (codes "500" ∷ []) (told_on c.args.self.now.keeping.keeper.shelf)) _ _ c.drop_tickets.ensures c.in-Ok.ensures.routing)
    (answers-plain c.args.number c.args.request.now (codes "500" ∷ []) _ _)

pub returns-in-Err-clause-stopped : goal.returns-in-Err-clause-stopped
returns-in-Err-clause-stopped g c =
    stopped-still g.D.Disk NoMemory (parts (clients_alone c.args.self.now.routing) c.args.self.now.keeping) c.args.disk.now nowhere tt (λ refused. absurd refused)

pub returns-in-Ok-clause-stays : goal.returns-in-Ok-clause-stays
returns-in-Ok-clause-stays g c = λ shelf.
    beside-then shelf c.args.self.now.keeping.keeper.shelf c.send_code.new.self.keeping.keeper.shelf c.args.self.now.routing c.drop_tickets.new.self c.send_code.new.self.routing (dropped-onward shelf c.args.self.now.keeping.keeper.shelf c.args.self.now.routing c.drop_tickets.new.self c.drop_tickets.ensures) c.in-Ok.ensures.stays
