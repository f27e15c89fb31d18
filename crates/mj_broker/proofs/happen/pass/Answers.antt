use Rattle.std.proofs.Common.{refl}
use Rattle.std.proofs.lemmas.Result.{IfErr-weaker, on_ok_weaker}
use Rattle.mj_machine.specs.DiskActs.{routes}
use Rattle.mj_machine.specs.TickStep.{ticks}
use Rattle.mj_broker.proofs.ItemLemmas.{settled-acted, settled-first, settled-stopped}
use Rattle.mj_broker.proofs.happen.pass.Goals as goal

pub returns-in-Err-clause-stopped : goal.returns-in-Err-clause-stopped
returns-in-Err-clause-stopped g c = settled-first g.D.Disk c.args.parts.now c.args.disk.now (routes (ticks c.args.ms)) (λ w. refl) c.in-Err.fault c.args.disk.now c.in-Err.ensures.stopped

pub returns-clause-acted : goal.returns-clause-acted
returns-clause-acted g c =
    on_ok_weaker c.settle.result
    (λ two. settled-acted g.D.Disk c.args.parts.now c.args.disk.now (routes (ticks c.args.ms)) (λ w. refl) c.tick.new.parts c.args.disk.now c.settle.new.parts c.settle.new.disk c.args.outs.now.items c.tick.new.outs.items c.settle.new.outs.items c.in-Ok.ensures.acted two)
    c.settle.ensures.acted

pub returns-clause-stopped : goal.returns-clause-stopped
returns-clause-stopped g c =
    IfErr-weaker c.settle.result _ _
    (λ fault two. settled-stopped g.D.Disk c.args.parts.now c.args.disk.now (routes (ticks c.args.ms)) (λ w. refl) c.tick.new.parts c.args.disk.now c.args.outs.now.items c.tick.new.outs.items fault c.settle.new.disk c.in-Ok.ensures.acted two)
    c.settle.ensures.stopped
