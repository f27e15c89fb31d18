use Rattle.mj_titanic.proofs.OnwardLemmas.{queued-open}
use Rattle.std.proofs.Common.{◌∷◌, [], ap}
use Rattle.mj_titanic.specs.declared.acts.Keeping.{Keeping}
use Rattle.mj_titanic.specs.declared.fault.ActFault.TheVariants.{NoMemory}
use Rattle.mj_titanic.specs.Acting.{nowhere, seen}
use Rattle.mj_titanic.proofs.Composing.{stopped-still}
use Rattle.std.specs.Prelude.{codes}
use Rattle.mj_keeper.specs.Standing.{told_on}
use Rattle.mj_machine.specs.TitanicStep.{answers, closed}
use Rattle.mj_titanic.proofs.Routed.{closed-plain, does-at, routed-did}
use Rattle.mj_titanic.proofs.parts.Parts.tell_closed.Goals as goal

pub returns-in-Ok-clause-done : goal.returns-in-Ok-clause-done
returns-in-Ok-clause-done g c =
    routed-did g.D.Disk (seen c.args.self.now) (seen c.send_code.new.self) c.args.disk.now _ _ (closed c.args.number c.args.request.now c.args.ticket)
    (ap (λ (k : Keeping). k.keeper) c.in-Ok.ensures.keeping) (ap (λ (k : Keeping). k.acts) c.in-Ok.ensures.keeping)
    (does-at _ _ _ (answers c.args.number c.args.request.now (codes "200" ∷ []) (told_on c.args.self.now.keeping.keeper.shelf)) _ _ c.drop_ticket.ensures c.in-Ok.ensures.routing)
    (closed-plain c.args.number c.args.request.now c.args.ticket _ _)

pub returns-in-Err-clause-stopped : goal.returns-in-Err-clause-stopped
returns-in-Err-clause-stopped g c = stopped-still g.D.Disk NoMemory (seen c.args.self.now) c.args.disk.now nowhere tt (λ refused. absurd refused)

pub returns-in-Ok-clause-stays : goal.returns-in-Ok-clause-stays
returns-in-Ok-clause-stays g c = λ is shelf.
    queued-open c.args.self.now.keeping.keeper.shelf c.send_code.new.self.keeping.keeper.shelf c.args.self.now.routing c.drop_ticket.new.self c.send_code.new.self.routing _ is c.drop_ticket.ensures c.in-Ok.ensures.stays shelf
