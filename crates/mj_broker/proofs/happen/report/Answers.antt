use Rattle.std.proofs.Common.{refl}
use Rattle.std.proofs.lemmas.Result.{IfErr-weaker, on_ok_weaker}
use Rattle.mj_machine.specs.DiskActs.{routes}
use Rattle.mj_machine.specs.EventStep.{reports_on}
use Rattle.mj_broker.proofs.ItemLemmas.{settled-acted, settled-stopped}
use Rattle.mj_broker.proofs.happen.report.Goals as goal

pub returns-clause-acted : goal.returns-clause-acted
returns-clause-acted g c =
    on_ok_weaker c.settle.result
    (λ two. settled-acted g.D.Disk c.args.parts.now c.args.disk.now (routes (reports_on c.args.lane)) (λ w. refl) c.report_on.new.parts c.args.disk.now c.settle.new.parts c.settle.new.disk c.args.outs.now.items c.args.outs.now.items c.settle.new.outs.items (c.report_on.ensures.acted c.args.outs.now.items) two)
    c.settle.ensures.acted

pub returns-clause-stopped : goal.returns-clause-stopped
returns-clause-stopped g c =
    IfErr-weaker c.settle.result _ _
    (λ fault two. settled-stopped g.D.Disk c.args.parts.now c.args.disk.now (routes (reports_on c.args.lane)) (λ w. refl) c.report_on.new.parts c.args.disk.now c.args.outs.now.items c.args.outs.now.items fault c.settle.new.disk (c.report_on.ensures.acted c.args.outs.now.items) two)
    c.settle.ensures.stopped

pub settle-requires-clause-queue : goal.settle-requires-clause-queue
settle-requires-clause-queue g c = (c.report_on.ensures.acted c.args.outs.now.items).stays.queue c.requires.queue
