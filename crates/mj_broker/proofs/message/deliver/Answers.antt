use Rattle.mj_keeper.specs.Standing.{told_on}
use Rattle.mj_machine.specs.MessageStep.{delivers_back}
use Rattle.mj_routing.proofs.PlainLemmas.{plain-delivers_back}
use Rattle.mj_broker.proofs.Lifting.{halted, lifted}
use Rattle.mj_broker.proofs.message.deliver.Goals as goal

pub returns-in-Ok-clause-acted : goal.returns-in-Ok-clause-acted
returns-in-Ok-clause-acted g c =
    lifted g.D.Disk c.args.parts.now c.args.disk.now c.requires.sound c.deliver.new.routing c.args.outs.now.items c.deliver.new.outs.items (delivers_back c.args.client c.args.last c.args.request.now c.args.body)
    (plain-delivers_back (told_on c.args.parts.now.keeping.keeper.shelf) c.args.client c.args.last c.args.request.now c.args.body c.args.parts.now.routing) c.in-Ok.ensures

pub returns-in-Err-clause-stopped : goal.returns-in-Err-clause-stopped
returns-in-Err-clause-stopped g c = halted g.D.Disk c.args.parts.now c.args.disk.now _
