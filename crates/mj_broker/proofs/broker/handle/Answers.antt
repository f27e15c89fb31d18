use Rattle.std.proofs.Common.{arith, refl}
use Rattle.std.proofs.lemmas.Result.{IfErr-weaker, on_ok_weaker}
use Rattle.mj_base.specs.declared.event.Event.TheVariants as events
use Rattle.mj_machine.specs.EventStep.{Closes, Reports, Ticks}
use Rattle.mj_broker.proofs.BrokerLemmas.{early-halted, ready-stays, stopped-happened, unfed-happened}
use Rattle.mj_broker.proofs.broker.handle.Goals as goal

pub returns-in-Open-clause-happened : goal.returns-in-Open-clause-happened
returns-in-Open-clause-happened g c = rw c.in-Open.is c.open.ensures.happened

pub returns-in-Open-clause-halted : goal.returns-in-Open-clause-halted
returns-in-Open-clause-halted g c = rw c.in-Open.is c.open.ensures.halted

pub returns-in-Bytes-clause-happened : goal.returns-in-Bytes-clause-happened
returns-in-Bytes-clause-happened g c = rw c.in-Bytes.is c.take_piece.ensures.happened

pub returns-in-Bytes-clause-halted : goal.returns-in-Bytes-clause-halted
returns-in-Bytes-clause-halted g c = rw c.in-Bytes.is c.take_piece.ensures.halted

pub returns-in-Sent-clause-happened : goal.returns-in-Sent-clause-happened
returns-in-Sent-clause-happened g c =
    rw c.in-Sent.is
    (on_ok_weaker c.report.result
    (λ a. unfed-happened g.D.Disk (events.Sent c.in-Sent.lane) c.args.parts.now c.args.disk.now (Reports c.in-Sent.lane) c.report.new.parts c.report.new.disk c.args.wires.now.items c.args.outs.now.items c.report.new.outs.items (λ limits m. refl) (λ m. refl) a.did)
    c.report.ensures.acted)

pub returns-in-Sent-clause-halted : goal.returns-in-Sent-clause-halted
returns-in-Sent-clause-halted g c =
    rw c.in-Sent.is
    (IfErr-weaker c.report.result _ _ (λ fault s. early-halted g.D.Disk (events.Sent c.in-Sent.lane) c.args.parts.now c.args.disk.now fault c.report.new.disk c.args.wires.now.items s) c.report.ensures.stopped)

pub returns-in-Sent-clause-sound : goal.returns-in-Sent-clause-sound
returns-in-Sent-clause-sound g c = on_ok_weaker c.report.result (λ a. a.sound) c.report.ensures.acted

pub returns-in-Sent-clause-queue : goal.returns-in-Sent-clause-queue
returns-in-Sent-clause-queue g c = on_ok_weaker c.report.result (λ a. a.stays.queue c.requires.queue) c.report.ensures.acted

pub returns-in-Sent-clause-ready : goal.returns-in-Sent-clause-ready
returns-in-Sent-clause-ready g c =
    on_ok_weaker c.report.result
    (λ a. ready-stays c.args.parts.now.keeping.keeper.shelf c.report.new.parts.keeping.keeper.shelf c.args.parts.now.routing c.report.new.parts.routing c.args.wires.now.items a.stays c.requires.ready)
    c.report.ensures.acted

pub returns-in-Sent-clause-next : goal.returns-in-Sent-clause-next
returns-in-Sent-clause-next g c = on_ok_weaker c.report.result (λ a. let is = a.stays.next in omega (arith, is)) c.report.ensures.acted

pub returns-in-Close-clause-happened : goal.returns-in-Close-clause-happened
returns-in-Close-clause-happened g c =
    rw c.in-Close.is
    (on_ok_weaker c.close.result
    (λ a. unfed-happened g.D.Disk (events.Close c.in-Close.lane) c.args.parts.now c.args.disk.now (Closes c.in-Close.lane) c.close.new.parts c.close.new.disk c.args.wires.now.items c.args.outs.now.items c.close.new.outs.items (λ limits m. refl) (λ m. refl) a.did)
    c.close.ensures.acted)

pub returns-in-Close-clause-halted : goal.returns-in-Close-clause-halted
returns-in-Close-clause-halted g c =
    rw c.in-Close.is
    (IfErr-weaker c.close.result _ _ (λ fault s. early-halted g.D.Disk (events.Close c.in-Close.lane) c.args.parts.now c.args.disk.now fault c.close.new.disk c.args.wires.now.items s) c.close.ensures.stopped)

pub returns-in-Close-clause-sound : goal.returns-in-Close-clause-sound
returns-in-Close-clause-sound g c = on_ok_weaker c.close.result (λ a. a.sound) c.close.ensures.acted

pub returns-in-Close-clause-queue : goal.returns-in-Close-clause-queue
returns-in-Close-clause-queue g c = on_ok_weaker c.close.result (λ a. a.stays.queue c.requires.queue) c.close.ensures.acted

pub returns-in-Close-clause-ready : goal.returns-in-Close-clause-ready
returns-in-Close-clause-ready g c =
    on_ok_weaker c.close.result
    (λ a. ready-stays c.args.parts.now.keeping.keeper.shelf c.close.new.parts.keeping.keeper.shelf c.args.parts.now.routing c.close.new.parts.routing c.args.wires.now.items a.stays c.requires.ready)
    c.close.ensures.acted

pub returns-in-Close-clause-next : goal.returns-in-Close-clause-next
returns-in-Close-clause-next g c = on_ok_weaker c.close.result (λ a. let is = a.stays.next in omega (arith, is)) c.close.ensures.acted

pub returns-in-Tick-clause-happened : goal.returns-in-Tick-clause-happened
returns-in-Tick-clause-happened g c =
    rw c.in-Tick.is
    (on_ok_weaker c.pass.result
    (λ a. unfed-happened g.D.Disk (events.Tick c.in-Tick.ms) c.args.parts.now c.args.disk.now (Ticks c.in-Tick.ms) c.pass.new.parts c.pass.new.disk c.args.wires.now.items c.args.outs.now.items c.pass.new.outs.items (λ limits m. refl) (λ m. refl) a.did)
    c.pass.ensures.acted)

pub returns-in-Tick-clause-halted : goal.returns-in-Tick-clause-halted
returns-in-Tick-clause-halted g c =
    rw c.in-Tick.is
    (IfErr-weaker c.pass.result _ _ (λ fault s. early-halted g.D.Disk (events.Tick c.in-Tick.ms) c.args.parts.now c.args.disk.now fault c.pass.new.disk c.args.wires.now.items s) c.pass.ensures.stopped)

pub returns-in-Tick-clause-sound : goal.returns-in-Tick-clause-sound
returns-in-Tick-clause-sound g c = on_ok_weaker c.pass.result (λ a. a.sound) c.pass.ensures.acted

pub returns-in-Tick-clause-queue : goal.returns-in-Tick-clause-queue
returns-in-Tick-clause-queue g c = on_ok_weaker c.pass.result (λ a. a.stays.queue c.requires.queue) c.pass.ensures.acted

pub returns-in-Tick-clause-ready : goal.returns-in-Tick-clause-ready
returns-in-Tick-clause-ready g c =
    on_ok_weaker c.pass.result
    (λ a. ready-stays c.args.parts.now.keeping.keeper.shelf c.pass.new.parts.keeping.keeper.shelf c.args.parts.now.routing c.pass.new.parts.routing c.args.wires.now.items a.stays c.requires.ready)
    c.pass.ensures.acted

pub returns-in-Tick-clause-next : goal.returns-in-Tick-clause-next
returns-in-Tick-clause-next g c = on_ok_weaker c.pass.result (λ a. let is = a.stays.next in omega (arith, is)) c.pass.ensures.acted

pub returns-in-Stop-clause-happened : goal.returns-in-Stop-clause-happened
returns-in-Stop-clause-happened g c = rw c.in-Stop.is (stopped-happened g.D.Disk c.args.parts.now c.args.disk.now c.args.wires.now.items c.args.outs.now.items c.requires.settled)
