use Rattle.std.proofs.Common.{arith}
use Rattle.std.proofs.lemmas.Result.{IfErr-weaker, on_ok_weaker}
use Rattle.mj_base.specs.declared.event.Event.TheVariants as events
use Rattle.mj_machine.specs.EventStep.{opened}
use Rattle.mj_titanic.specs.declared.fault.ActFault.TheVariants.{NoMemory}
use Rattle.mj_broker.specs.Acting.{as_it_is}
use Rattle.mj_broker.proofs.BrokerLemmas.{early-halted, limits-opened, opened-happened, ready-linked, ready-stays}
use Rattle.mj_broker.proofs.Lifting.{halted}
use Rattle.mj_broker.proofs.broker.open.Goals as goal

pub returns-in-Err-clause-halted : goal.returns-in-Err-clause-halted
returns-in-Err-clause-halted g c =
    early-halted g.D.Disk (events.Open c.args.lane) c.args.parts.now c.args.disk.now NoMemory c.args.disk.now c.args.wires.now.items (halted g.D.Disk c.args.parts.now c.args.disk.now as_it_is)

pub returns-clause-happened : goal.returns-clause-happened
returns-clause-happened g c =
    on_ok_weaker c.open.result
    (λ d. opened-happened g.D.Disk c.args.parts.now c.args.disk.now c.args.lane c.open.new.parts c.open.new.disk c.args.wires.now.items c.link.new.wires.items c.args.outs.now.items c.open.new.outs.items c.in-Ok.ensures d)
    c.open.ensures.did

pub returns-clause-halted : goal.returns-clause-halted
returns-clause-halted g c =
    IfErr-weaker c.open.result _ _
    (λ fault s. early-halted g.D.Disk (events.Open c.args.lane) c.args.parts.now c.args.disk.now fault c.open.new.disk c.args.wires.now.items s)
    c.open.ensures.stopped

pub returns-clause-queue : goal.returns-clause-queue
returns-clause-queue g c = on_ok_weaker c.open.result (λ s. s.queue c.requires.queue) c.open.ensures.stays

pub returns-clause-ready : goal.returns-clause-ready
returns-clause-ready g c =
    on_ok_weaker c.open.result
    (λ s. ready-stays c.args.parts.now.keeping.keeper.shelf c.open.new.parts.keeping.keeper.shelf (opened c.args.lane c.args.parts.now.routing) c.open.new.parts.routing c.link.new.wires.items s
    (ready-linked c.args.lane c.args.parts.now.keeping.keeper.limits c.args.parts.now.routing c.args.wires.now.items c.link.new.wires.items c.in-Ok.ensures c.requires.ready))
    c.open.ensures.stays

pub returns-clause-limited : goal.returns-clause-limited
returns-clause-limited g c =
    on_ok_weaker c.open.result
    (λ s. limits-opened c.args.parts.now.keeping.keeper.limits c.args.parts.now.routing.next c.args.wires.now.items c.link.new.wires.items c.in-Ok.ensures c.requires.limited)
    c.open.ensures.stays

pub returns-clause-next : goal.returns-clause-next
returns-clause-next g c = on_ok_weaker c.open.result (λ s. let is = s.next in omega (arith, is)) c.open.ensures.stays
