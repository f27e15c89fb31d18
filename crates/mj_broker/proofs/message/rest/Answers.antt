use Rattle.mj_keeper.specs.Standing.{told_on}
use Rattle.mj_machine.specs.MessageStep.{rests}
use Rattle.mj_routing.proofs.PlainLemmas.{plain-rests}
use Rattle.mj_broker.proofs.Lifting.{halted, lifted}
use Rattle.mj_broker.proofs.message.rest.Goals as goal

pub returns-in-Ok-clause-acted : goal.returns-in-Ok-clause-acted
returns-in-Ok-clause-acted g c = λ outs.
    lifted g.D.Disk c.args.parts.now c.args.disk.now c.requires.sound c.rest.new.routing outs outs (rests c.args.last c.args.number c.args.service.now)
    (plain-rests (told_on c.args.parts.now.keeping.keeper.shelf) c.args.last c.args.number c.args.service.now c.args.parts.now.routing) (c.in-Ok.ensures (told_on c.args.parts.now.keeping.keeper.shelf) outs)

pub returns-in-Err-clause-stopped : goal.returns-in-Err-clause-stopped
returns-in-Err-clause-stopped g c = halted g.D.Disk c.args.parts.now c.args.disk.now _
