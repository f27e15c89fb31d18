use Rattle.mj_keeper.specs.Standing.{told_on}
use Rattle.mj_machine.specs.Pairing.{marks}
use Rattle.mj_routing.proofs.PlainLemmas.{stays-marks}
use Rattle.mj_broker.proofs.Lifting.{halted, lifted-still}
use Rattle.mj_broker.proofs.message.mark.Goals as goal

pub returns-in-Ok-clause-acted : goal.returns-in-Ok-clause-acted
returns-in-Ok-clause-acted g c = λ outs.
    lifted-still g.D.Disk c.args.parts.now c.args.disk.now c.requires.sound c.mark.new.self outs (λ told s. marks c.args.number s) (stays-marks (told_on c.args.parts.now.keeping.keeper.shelf) c.args.number c.args.parts.now.routing) c.in-Ok.ensures

pub returns-in-Err-clause-stopped : goal.returns-in-Err-clause-stopped
returns-in-Err-clause-stopped g c = halted g.D.Disk c.args.parts.now c.args.disk.now _
