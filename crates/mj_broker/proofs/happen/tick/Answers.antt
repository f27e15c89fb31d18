use Rattle.mj_keeper.specs.Standing.{told_on}
use Rattle.mj_machine.specs.TickStep.{ticks}
use Rattle.mj_routing.proofs.PlainLemmas.{plain-ticks}
use Rattle.mj_broker.proofs.Lifting.{halted, lifted}
use Rattle.mj_broker.proofs.happen.tick.Goals as goal

pub returns-in-Ok-clause-acted : goal.returns-in-Ok-clause-acted
returns-in-Ok-clause-acted g c =
    lifted g.D.Disk c.args.parts.now c.args.disk.now c.requires.sound c.tick.new.self c.args.outs.now.items c.tick.new.outs.items (ticks c.args.ms)
    (plain-ticks (told_on c.args.parts.now.keeping.keeper.shelf) c.args.ms c.args.parts.now.routing) c.in-Ok.ensures.done

pub returns-in-Err-clause-stopped : goal.returns-in-Err-clause-stopped
returns-in-Err-clause-stopped g c = halted g.D.Disk c.args.parts.now c.args.disk.now _
