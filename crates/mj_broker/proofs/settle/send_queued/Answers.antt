use Rattle.mj_queue.specs.Settling.{Pair}
use Rattle.mj_keeper.specs.Standing.{told_on}
use Rattle.mj_broker.proofs.Lifting.{halted}
use Rattle.mj_broker.proofs.SettleLemmas.{fewer-given, offer-some, queued-acted}
use Rattle.mj_broker.proofs.settle.send_queued.Goals as goal

pub dispatch-requires : goal.dispatch-requires
dispatch-requires g c = offer-some c.args.parts.now.routing c.args.offer.now c.requires.offer

pub returns-in-Ok-clause-acted : goal.returns-in-Ok-clause-acted
returns-in-Ok-clause-acted g c =
    queued-acted g.D.Disk c.args.parts.now c.args.disk.now c.requires.sound c.dispatch.new.self c.args.outs.now.items c.dispatch.new.outs.items c.args.offer.now c.requires.offer c.requires.client c.in-Ok.ensures

pub returns-in-Ok-clause-fewer : goal.returns-in-Ok-clause-fewer
returns-in-Ok-clause-fewer g c =
    fewer-given (told_on c.args.parts.now.keeping.keeper.shelf) c.args.parts.now.routing c.dispatch.new.self c.args.outs.now.items c.dispatch.new.outs.items (λ (p : Pair). p.request.body) c.in-Ok.ensures

pub returns-in-Err-clause-stopped : goal.returns-in-Err-clause-stopped
returns-in-Err-clause-stopped g c = halted g.D.Disk c.args.parts.now c.args.disk.now _
