use Rattle.mj_keeper.specs.Standing.{told_on}
use Rattle.mj_machine.specs.MessageStep.{unexpected}
use Rattle.mj_routing.proofs.PlainLemmas.{plain-unexpected}
use Rattle.mj_broker.proofs.Lifting.{halted, lifted}
use Rattle.mj_broker.proofs.message.refuse.Goals as goal

pub returns-in-Ok-clause-acted : goal.returns-in-Ok-clause-acted
returns-in-Ok-clause-acted g c =
    lifted g.D.Disk c.args.parts.now c.args.disk.now c.requires.sound c.refuse.new.routing c.args.outs.now.items c.refuse.new.outs.items (unexpected c.args.number c.args.voice)
    (plain-unexpected (told_on c.args.parts.now.keeping.keeper.shelf) c.args.number c.args.voice c.args.parts.now.routing) c.in-Ok.ensures

pub returns-in-Err-clause-stopped : goal.returns-in-Err-clause-stopped
returns-in-Err-clause-stopped g c = halted g.D.Disk c.args.parts.now c.args.disk.now _
