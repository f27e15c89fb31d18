use Rattle.std.proofs.Common.{subst, sym}
use Rattle.std.proofs.lemmas.Result.{IfErr-weaker, on_ok_weaker}
use Rattle.mj_broker.specs.Bodies.{IsShortSaid}
use Rattle.mj_broker.proofs.BodyLemmas.{said-short}
use Rattle.mj_broker.proofs.ItemLemmas.{message-acted, message-first, message-stopped}
use Rattle.mj_broker.proofs.Lifting.{halted}
use Rattle.mj_broker.proofs.happen.take_message.Goals as goal

pub returns-in-Err-clause-stopped : goal.returns-in-Err-clause-stopped
returns-in-Err-clause-stopped g c = halted g.D.Disk c.args.parts.now c.args.disk.now _

pub say-requires-clause-short : goal.say-requires-clause-short
say-requires-clause-short g c = λ stored. subst IsShortSaid (sym c.in-Ok.ensures) (said-short c.args.message.now (c.requires.short stored))

pub returns-in-Err-say-clause-stopped : goal.returns-in-Err-say-clause-stopped
returns-in-Err-say-clause-stopped g c = message-first g.D.Disk c.args.parts.now c.args.disk.now c.args.number c.args.message.now c.in-Ok.said c.in-Ok.ensures c.in-Err-say.fault c.say.new.disk c.in-Err-say.ensures.stopped

pub settle-requires-clause-queue : goal.settle-requires-clause-queue
settle-requires-clause-queue g c = c.in-Ok-say.ensures.acted.stays.queue c.requires.queue

pub settle-requires-clause-sound : goal.settle-requires-clause-sound
settle-requires-clause-sound g c = c.in-Ok-say.ensures.acted.sound

pub returns-clause-acted : goal.returns-clause-acted
returns-clause-acted g c =
    on_ok_weaker c.settle.result
    (λ two. message-acted g.D.Disk c.args.parts.now c.args.disk.now c.args.number c.args.message.now c.in-Ok.said c.in-Ok.ensures c.say.new.parts c.say.new.disk c.settle.new.parts c.settle.new.disk
    c.args.outs.now.items c.say.new.outs.items c.settle.new.outs.items c.in-Ok-say.ensures.acted two)
    c.settle.ensures.acted

pub returns-clause-stopped : goal.returns-clause-stopped
returns-clause-stopped g c =
    IfErr-weaker c.settle.result _ _
    (λ fault two. message-stopped g.D.Disk c.args.parts.now c.args.disk.now c.args.number c.args.message.now c.in-Ok.said c.in-Ok.ensures c.say.new.parts c.say.new.disk
    c.args.outs.now.items c.say.new.outs.items fault c.settle.new.disk c.in-Ok-say.ensures.acted two)
    c.settle.ensures.stopped
