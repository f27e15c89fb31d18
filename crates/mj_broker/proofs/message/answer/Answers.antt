use Rattle.mj_keeper.specs.Standing.{told_on}
use Rattle.mj_machine.specs.MessageStep.{answers_itself}
use Rattle.mj_routing.proofs.PlainLemmas.{plain-answers_itself}
use Rattle.mj_broker.proofs.Lifting.{halted, lifted}
use Rattle.mj_broker.proofs.message.answer.Goals as goal

pub returns-in-Ok-clause-acted : goal.returns-in-Ok-clause-acted
returns-in-Ok-clause-acted g c =
    lifted g.D.Disk c.args.parts.now c.args.disk.now c.requires.sound c.answer.new.routing c.args.outs.now.items c.answer.new.outs.items (answers_itself c.args.number c.args.request.now)
    (plain-answers_itself (told_on c.args.parts.now.keeping.keeper.shelf) c.args.number c.args.request.now c.args.parts.now.routing) c.in-Ok.ensures

pub returns-in-Err-clause-stopped : goal.returns-in-Err-clause-stopped
returns-in-Err-clause-stopped g c = halted g.D.Disk c.args.parts.now c.args.disk.now _
