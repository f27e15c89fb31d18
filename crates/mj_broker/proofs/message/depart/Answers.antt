use Rattle.mj_keeper.specs.Standing.{told_on}
use Rattle.mj_machine.specs.Leaving.{goes}
use Rattle.mj_machine.specs.declared.connection.Role.TheVariants.{Gone}
use Rattle.mj_routing.proofs.PlainLemmas.{stays-left}
use Rattle.mj_broker.proofs.Lifting.{halted, lifted-still}
use Rattle.mj_broker.proofs.message.depart.Goals as goal

pub returns-in-Ok-clause-acted : goal.returns-in-Ok-clause-acted
returns-in-Ok-clause-acted g c = λ outs.
    lifted-still g.D.Disk c.args.parts.now c.args.disk.now c.requires.sound c.go.new.self outs (λ told s. goes c.args.number told s) (stays-left (told_on c.args.parts.now.keeping.keeper.shelf) c.args.number Gone c.args.parts.now.routing) c.in-Ok.ensures.state

pub returns-in-Err-clause-stopped : goal.returns-in-Err-clause-stopped
returns-in-Err-clause-stopped g c = halted g.D.Disk c.args.parts.now c.args.disk.now _
