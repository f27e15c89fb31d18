use Rattle.std.proofs.Common.{[]}
use Rattle.std.proofs.lemmas.Result.{IfOk-weaker, on_err_weaker}
use Rattle.mj_machine.specs.MachineState.{start_with}
use Rattle.mj_machine.specs.StoreState.{opened_store}
use Rattle.mj_serve.proofs.Ending.{ended-over, served-over, starts-over, unopened-over}
use Rattle.mj_serve.proofs.Refusing.{lawful-behind, refused-behind, unopened-behind}
use Rattle.mj_serve.proofs.serving.serve_over.Goals as goal

pub returns-in-Ok-clause-served : goal.returns-in-Ok-clause-served
returns-in-Ok-clause-served g c = IfOk-weaker c.run.result _ _
    (λ summary ran stands base commands opens.
    let limits = c.args.limits.now in
    served-over g.P.Ports.stand g.D.Disk c.args.ports.now c.args.disk.now c.open.new.disk limits stands c.open.ensures.count c.args.seed c.requires.lawful c.open.ensures.crash base commands opens
    c.run.new.broker c.run.new.ports c.run.new.disk summary (g.met.D.Disk.reads_image c.run.new.disk)
    (ran c.args.ports.now c.args.disk.now limits (start_with limits (opened_store c.args.seed base commands))
    (starts-over g.P.Ports.stand g.D.Disk c.args.ports.now c.args.disk.now c.open.new.disk limits stands c.open.ensures.count c.args.seed c.requires.lawful c.open.ensures.crash base commands opens
    c.in-Ok.broker (c.in-Ok.ensures.begun base commands opens) c.in-Ok.ensures.limits)))
    c.run.ensures.ran

pub returns-in-Ok-clause-ended : goal.returns-in-Ok-clause-ended
returns-in-Ok-clause-ended g c = on_err_weaker c.run.result
    (λ ran stands base commands opens.
    let limits = c.args.limits.now in
    ended-over g.P.Ports.stand g.D.Disk c.args.ports.now c.args.disk.now c.open.new.disk limits stands c.open.ensures.count c.args.seed c.requires.lawful c.open.ensures.crash base commands opens
    c.run.new.ports c.run.new.disk
    (ran c.args.ports.now c.args.disk.now limits (start_with limits (opened_store c.args.seed base commands))
    (starts-over g.P.Ports.stand g.D.Disk c.args.ports.now c.args.disk.now c.open.new.disk limits stands c.open.ensures.count c.args.seed c.requires.lawful c.open.ensures.crash base commands opens
    c.in-Ok.broker (c.in-Ok.ensures.begun base commands opens) c.in-Ok.ensures.limits)))
    c.run.ensures.ran_out

pub returns-in-Err-clause-ended : goal.returns-in-Err-clause-ended
returns-in-Err-clause-ended g c = λ stands base commands opens.
    unopened-over g.P.Ports.stand g.D.Disk c.args.ports.now c.args.disk.now c.open.new.disk c.args.limits.now stands c.open.ensures.count c.args.seed c.requires.lawful c.open.ensures.crash base commands opens

pub returns-in-Ok-clause-stood : goal.returns-in-Ok-clause-stood
returns-in-Ok-clause-stood g c = λ stands. c.run.ensures.stood c.args.ports.now ([], [], stands)

pub returns-in-Ok-clause-unlawful : goal.returns-in-Ok-clause-unlawful
returns-in-Ok-clause-unlawful g c = λ telling none.
    let opens = c.in-Ok.ensures.opened telling in
    absurd (none opens.0 opens.1 opens.2)

pub returns-in-Ok-clause-unopened : goal.returns-in-Ok-clause-unopened
returns-in-Ok-clause-unopened g c = unopened-behind (g.D.Disk.told c.args.disk.now) (g.D.Disk.told c.open.new.disk) c.open.ensures.silent c.run.result (g.D.Disk.told c.run.new.disk) c.run.ensures.refused

pub returns-in-Ok-clause-refused : goal.returns-in-Ok-clause-refused
returns-in-Ok-clause-refused g c = refused-behind (g.D.Disk.told c.args.disk.now) (g.D.Disk.told c.open.new.disk) c.open.ensures.silent _ c.run.result c.run.ensures.refused

pub returns-in-Ok-clause-lawful : goal.returns-in-Ok-clause-lawful
returns-in-Ok-clause-lawful g c = lawful-behind (g.D.Disk.told c.args.disk.now) (g.D.Disk.told c.open.new.disk) c.open.ensures.silent c.run.result c.run.ensures.refused
