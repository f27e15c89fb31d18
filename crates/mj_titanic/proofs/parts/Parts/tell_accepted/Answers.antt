use Rattle.mj_titanic.proofs.OnwardLemmas.{queued-open}
use Rattle.std.proofs.Common.{ap}
use Rattle.mj_titanic.specs.declared.acts.Keeping.{Keeping}
use Rattle.mj_titanic.specs.declared.fault.ActFault.TheVariants.{NoMemory}
use Rattle.mj_titanic.specs.Acting.{nowhere, seen}
use Rattle.mj_titanic.proofs.Composing.{stopped-still}
use Rattle.mj_titanic.specs.Services.{accepted_as}
use Rattle.mj_titanic.proofs.Routed.{accepted-plain, answers-at, routed-did}
use Rattle.mj_titanic.proofs.parts.Parts.tell_accepted.Goals as goal

pub returns-in_default-clause-stopped : goal.returns-in_default-clause-stopped
returns-in_default-clause-stopped g c = stopped-still g.D.Disk NoMemory (seen c.args.self.now) c.args.disk.now nowhere tt (λ refused. absurd refused)

pub returns-in_default-id_frames-clause-stopped : goal.returns-in_default-id_frames-clause-stopped
returns-in_default-id_frames-clause-stopped g c = stopped-still g.D.Disk NoMemory (seen c.args.self.now) c.args.disk.now nowhere tt (λ refused. absurd refused)

pub returns-in-Ok-send_reply-clause-done : goal.returns-in-Ok-send_reply-clause-done
returns-in-Ok-send_reply-clause-done g c =
    routed-did g.D.Disk (seen c.args.self.now) (seen c.send_reply.new.self) c.args.disk.now _ _ (accepted_as c.args.ticket c.args.text.now c.args.service.now c.args.number c.args.request.now)
    (ap (λ (k : Keeping). k.keeper) c.in-Ok-send_reply.ensures.keeping) (ap (λ (k : Keeping). k.acts) c.in-Ok-send_reply.ensures.keeping)
    (answers-at _ _ _ c.args.number c.args.request.now _ _ _ _ _ c.in-Ok-id_frames.ensures c.in-Ok.ensures c.in-Ok-send_reply.ensures.routing)
    (accepted-plain c.args.ticket c.args.text.now c.args.service.now c.args.number c.args.request.now _ _)

pub returns-in-Err-clause-stopped : goal.returns-in-Err-clause-stopped
returns-in-Err-clause-stopped g c = stopped-still g.D.Disk NoMemory (seen c.args.self.now) c.args.disk.now nowhere tt (λ refused. absurd refused)

pub returns-in-Ok-send_reply-clause-stays : goal.returns-in-Ok-send_reply-clause-stays
returns-in-Ok-send_reply-clause-stays g c = λ is shelf.
    queued-open c.args.self.now.keeping.keeper.shelf c.send_reply.new.self.keeping.keeper.shelf c.args.self.now.routing c.queue_ticket.new.self c.send_reply.new.self.routing _ is c.in-Ok.ensures c.in-Ok-send_reply.ensures.stays shelf
