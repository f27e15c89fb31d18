use Rattle.mj_keeper.specs.Standing.{told_on}
use Rattle.mj_machine.specs.MessageStep.{queues}
use Rattle.mj_routing.proofs.PlainLemmas.{plain-queues}
use Rattle.mj_broker.proofs.Lifting.{halted, lifted}
use Rattle.mj_broker.proofs.message.queue.Goals as goal

pub returns-in-Ok-clause-acted : goal.returns-in-Ok-clause-acted
returns-in-Ok-clause-acted g c =
    lifted g.D.Disk c.args.parts.now c.args.disk.now c.requires.sound c.queue.new.self c.args.outs.now.items c.queue.new.outs.items (queues c.args.lane c.args.number c.args.request)
    (plain-queues (told_on c.args.parts.now.keeping.keeper.shelf) c.args.lane c.args.number c.args.request c.args.parts.now.routing c.requires.client) c.in-Ok.ensures

pub returns-in-Err-clause-stopped : goal.returns-in-Err-clause-stopped
returns-in-Err-clause-stopped g c = halted g.D.Disk c.args.parts.now c.args.disk.now _
