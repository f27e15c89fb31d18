use Rattle.std.proofs.Common.{refl}
use Rattle.std.proofs.lemmas.Result.{IfErr-weaker, on_ok_weaker}
use Rattle.mj_machine.specs.DiskActs.{routes}
use Rattle.mj_machine.specs.EventStep.{closes_on}
use Rattle.mj_broker.proofs.ItemLemmas.{opened-did, opened-greeted, opened-stays, opened-stopped, settled-first}
use Rattle.mj_broker.proofs.happen.open.Goals as goal

pub returns-in-Err-clause-stopped : goal.returns-in-Err-clause-stopped
returns-in-Err-clause-stopped g c = settled-first g.D.Disk c.args.parts.now c.args.disk.now (routes (closes_on c.args.lane)) (λ w. refl) c.in-Err.fault c.args.disk.now c.in-Err.ensures.stopped

pub greet-requires-clause-few : goal.greet-requires-clause-few
greet-requires-clause-few g c = rw (c.in-Ok.ensures.acted c.args.outs.now.items).stays.next c.requires.few

pub greet-requires-clause-sound : goal.greet-requires-clause-sound
greet-requires-clause-sound g c = (c.in-Ok.ensures.acted c.args.outs.now.items).sound

pub returns-in-Err-greet-clause-stopped : goal.returns-in-Err-greet-clause-stopped
returns-in-Err-greet-clause-stopped g c =
    opened-greeted g.D.Disk c.args.parts.now c.args.disk.now c.args.lane c.close_on.new.parts c.args.disk.now c.args.outs.now.items c.args.outs.now.items c.in-Err-greet.fault c.args.disk.now (c.in-Ok.ensures.acted c.args.outs.now.items) c.in-Err-greet.ensures.stopped

pub settle-requires-clause-queue : goal.settle-requires-clause-queue
settle-requires-clause-queue g c = c.in-Ok-greet.ensures.stays.queue ((c.in-Ok.ensures.acted c.args.outs.now.items).stays.queue c.requires.queue)

pub settle-requires-clause-sound : goal.settle-requires-clause-sound
settle-requires-clause-sound g c = c.in-Ok-greet.ensures.sound

pub returns-clause-did : goal.returns-clause-did
returns-clause-did g c =
    on_ok_weaker c.settle.result
    (λ a. opened-did g.D.Disk c.args.parts.now c.args.disk.now c.args.lane c.close_on.new.parts c.args.disk.now c.greet.new.parts c.args.disk.now c.settle.new.parts c.settle.new.disk
    c.args.outs.now.items c.args.outs.now.items c.greet.new.outs.items c.settle.new.outs.items (c.in-Ok.ensures.acted c.args.outs.now.items) c.in-Ok-greet.ensures.did a.did)
    c.settle.ensures.acted

pub returns-clause-sound : goal.returns-clause-sound
returns-clause-sound g c = on_ok_weaker c.settle.result (λ a. a.sound) c.settle.ensures.acted

pub returns-clause-stays : goal.returns-clause-stays
returns-clause-stays g c =
    on_ok_weaker c.settle.result
    (λ a. opened-stays c.args.lane c.args.parts.now.keeping.keeper.shelf c.close_on.new.parts.keeping.keeper.shelf c.greet.new.parts.keeping.keeper.shelf c.settle.new.parts.keeping.keeper.shelf
    c.args.parts.now.routing c.close_on.new.parts.routing c.greet.new.parts.routing c.settle.new.parts.routing (c.in-Ok.ensures.acted c.args.outs.now.items).stays c.in-Ok-greet.ensures.stays a.stays)
    c.settle.ensures.acted

pub returns-clause-stopped : goal.returns-clause-stopped
returns-clause-stopped g c =
    IfErr-weaker c.settle.result _ _
    (λ fault s. opened-stopped g.D.Disk c.args.parts.now c.args.disk.now c.args.lane c.close_on.new.parts c.args.disk.now c.greet.new.parts c.args.disk.now
    c.args.outs.now.items c.args.outs.now.items c.greet.new.outs.items fault c.settle.new.disk (c.in-Ok.ensures.acted c.args.outs.now.items) c.in-Ok-greet.ensures.did s)
    c.settle.ensures.stopped
