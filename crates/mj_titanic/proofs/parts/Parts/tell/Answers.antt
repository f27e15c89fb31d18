use Rattle.std.proofs.Common.{◌∷◌, [], ap}
use Rattle.mj_titanic.specs.declared.acts.Keeping.{Keeping}
use Rattle.mj_titanic.specs.declared.fault.ActFault.TheVariants.{NoMemory}
use Rattle.mj_titanic.specs.Acting.{nowhere, seen}
use Rattle.mj_titanic.proofs.Composing.{stopped-still}
use Rattle.mj_machine.specs.TitanicStep.{answers}
use Rattle.mj_titanic.proofs.Routed.{answers-plain, routed-did}
use Rattle.mj_titanic.proofs.parts.Parts.tell.Goals as goal

pub returns-in-Ok-clause-done : goal.returns-in-Ok-clause-done
returns-in-Ok-clause-done g c =
    routed-did g.D.Disk (seen c.args.self.now) (seen c.send_code.new.self) c.args.disk.now _ _ (answers c.args.number c.args.request.now (c.args.code.now ∷ []))
    (ap (λ (k : Keeping). k.keeper) c.in-Ok.ensures.keeping) (ap (λ (k : Keeping). k.acts) c.in-Ok.ensures.keeping) c.in-Ok.ensures.routing (answers-plain c.args.number c.args.request.now (c.args.code.now ∷ []) _ _)

pub returns-in-Err-clause-stopped : goal.returns-in-Err-clause-stopped
returns-in-Err-clause-stopped g c = stopped-still g.D.Disk NoMemory (seen c.args.self.now) c.args.disk.now nowhere tt (λ refused. absurd refused)
