use Rattle.mj_titanic.proofs.OnwardLemmas.{from-open}
use Rattle.std.proofs.Common.{◌∷◌, ap, refl}
use Rattle.mj_titanic.specs.declared.acts.Keeping.{Keeping}
use Rattle.mj_titanic.specs.declared.fault.ActFault.TheVariants.{NoMemory}
use Rattle.mj_titanic.specs.Acting.{nowhere, seen}
use Rattle.mj_titanic.proofs.Composing.{stopped-still}
use Rattle.std.specs.Prelude.{codes}
use Rattle.mj_keeper.specs.Standing.{told_on}
use Rattle.mj_machine.specs.TitanicStep.{answers}
use Rattle.mj_titanic.proofs.Routed.{answers-at, answers-plain, routed-did}
use Rattle.mj_titanic.proofs.parts.Parts.tell_reply.Goals as goal

pub returns-in_default-clause-stopped : goal.returns-in_default-clause-stopped
returns-in_default-clause-stopped g c = stopped-still g.D.Disk NoMemory (seen c.args.self.now) c.args.disk.now nowhere tt (λ refused. absurd refused)

pub returns-in-Ok-send_reply-clause-done : goal.returns-in-Ok-send_reply-clause-done
returns-in-Ok-send_reply-clause-done g c =
    routed-did g.D.Disk (seen c.args.self.now) (seen c.send_reply.new.self) c.args.disk.now _ _ (answers c.args.number c.args.request.now (codes "200" ∷ c.args.reply.now))
    (ap (λ (k : Keeping). k.keeper) c.in-Ok-send_reply.ensures.keeping) (ap (λ (k : Keeping). k.acts) c.in-Ok-send_reply.ensures.keeping)
    (answers-at _ _ _ c.args.number c.args.request.now (told_on c.args.self.now.keeping.keeper.shelf) _ _ c.args.self.now.routing c.args.self.now.routing c.in-Ok.ensures refl c.in-Ok-send_reply.ensures.routing)
    (answers-plain c.args.number c.args.request.now (codes "200" ∷ c.args.reply.now) _ _)

pub returns-in-Err-clause-stopped : goal.returns-in-Err-clause-stopped
returns-in-Err-clause-stopped g c = stopped-still g.D.Disk NoMemory (seen c.args.self.now) c.args.disk.now nowhere tt (λ refused. absurd refused)

pub returns-in-Ok-send_reply-clause-stays : goal.returns-in-Ok-send_reply-clause-stays
returns-in-Ok-send_reply-clause-stays g c = λ is shelf.
    from-open c.args.self.now.keeping.keeper.shelf c.send_reply.new.self.keeping.keeper.shelf c.args.self.now.routing c.send_reply.new.self.routing is c.in-Ok-send_reply.ensures.stays shelf
