use Rattle.mj_keeper.specs.Standing.{told_on}
use Rattle.mj_machine.specs.Sending.{sends}
use Rattle.mj_handshake.specs.ReadyGrammar.{ready_frame}
use Rattle.mj_handshake.specs.declared.socket_type.SocketType.TheVariants.{Router}
use Rattle.mj_routing.proofs.PlainLemmas.{plain-sends}
use Rattle.mj_broker.proofs.Lifting.{halted, lifted}
use Rattle.mj_broker.proofs.happen.send_ready.Goals as goal

pub returns-in-Ok-clause-acted : goal.returns-in-Ok-clause-acted
returns-in-Ok-clause-acted g c =
    lifted g.D.Disk c.args.parts.now c.args.disk.now c.requires.sound c.route_ready.new.routing c.args.outs.now.items c.route_ready.new.outs.items (sends c.args.number (ready_frame Router))
    (plain-sends (told_on c.args.parts.now.keeping.keeper.shelf) c.args.number (ready_frame Router) c.args.parts.now.routing) c.in-Ok.ensures

pub returns-in-Err-clause-stopped : goal.returns-in-Err-clause-stopped
returns-in-Err-clause-stopped g c = halted g.D.Disk c.args.parts.now c.args.disk.now _
