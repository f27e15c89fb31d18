use Rattle.std.proofs.lemmas.Result.{IfErr-weaker, on_ok_weaker}
use Rattle.mj_broker.proofs.ItemLemmas.{gain-acted, gain-first, gain-stopped}
use Rattle.mj_broker.proofs.happen.gain.Goals as goal

pub returns-in-Err-clause-stopped : goal.returns-in-Err-clause-stopped
returns-in-Err-clause-stopped g c = gain-first g.D.Disk c.args.parts.now c.args.disk.now c.args.lane c.args.items.now c.in-Err.fault c.take_items.new.disk c.in-Err.ensures.stopped

pub settle-requires-clause-queue : goal.settle-requires-clause-queue
settle-requires-clause-queue g c = c.in-Ok.ensures.acted.stays.queue c.requires.queue

pub settle-requires-clause-sound : goal.settle-requires-clause-sound
settle-requires-clause-sound g c = c.in-Ok.ensures.acted.sound

pub returns-clause-acted : goal.returns-clause-acted
returns-clause-acted g c =
    on_ok_weaker c.settle.result
    (λ two. gain-acted g.D.Disk c.args.parts.now c.args.disk.now c.args.lane c.args.items.now c.take_items.new.parts c.take_items.new.disk c.settle.new.parts c.settle.new.disk c.args.outs.now.items c.take_items.new.outs.items c.settle.new.outs.items c.in-Ok.ensures.acted two)
    c.settle.ensures.acted

pub returns-clause-stopped : goal.returns-clause-stopped
returns-clause-stopped g c =
    IfErr-weaker c.settle.result _ _
    (λ fault two. gain-stopped g.D.Disk c.args.parts.now c.args.disk.now c.args.lane c.args.items.now c.take_items.new.parts c.take_items.new.disk c.args.outs.now.items c.take_items.new.outs.items fault c.settle.new.disk c.in-Ok.ensures.acted two)
    c.settle.ensures.stopped
