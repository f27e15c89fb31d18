use Rattle.std.proofs.lemmas.Result.{IfOk-weaker, on_err_weaker}
use Rattle.mj_machine.specs.MachineState.{start_with}
use Rattle.mj_machine.specs.StoreState.{no_store}
use Rattle.mj_serve.proofs.Ending.{ended-without, served-without, starts-without, unopened-without}
use Rattle.mj_serve.proofs.serving.serve_without.Goals as goal

pub returns-in-Ok-clause-served : goal.returns-in-Ok-clause-served
returns-in-Ok-clause-served g c = IfOk-weaker c.run.result _ _
    (λ summary ran stands.
    let limits = c.args.limits.now in
    served-without g.P.Ports.stand g.D.Disk c.args.ports.now c.args.disk.now c.begin.new.disk limits stands c.begin.ensures.count
    c.run.new.broker c.run.new.ports c.run.new.disk summary (g.met.D.Disk.reads_image c.run.new.disk)
    (ran c.args.ports.now c.args.disk.now limits (start_with limits no_store)
    (starts-without g.P.Ports.stand g.D.Disk c.args.ports.now c.args.disk.now c.begin.new.disk limits stands c.begin.ensures.count
    c.in-Ok.broker c.in-Ok.ensures.begun c.in-Ok.ensures.limits)))
    c.run.ensures.ran

pub returns-in-Ok-clause-ended : goal.returns-in-Ok-clause-ended
returns-in-Ok-clause-ended g c = on_err_weaker c.run.result
    (λ ran stands.
    let limits = c.args.limits.now in
    ended-without g.P.Ports.stand g.D.Disk c.args.ports.now c.args.disk.now c.begin.new.disk limits stands c.begin.ensures.count
    c.run.new.ports c.run.new.disk
    (ran c.args.ports.now c.args.disk.now limits (start_with limits no_store)
    (starts-without g.P.Ports.stand g.D.Disk c.args.ports.now c.args.disk.now c.begin.new.disk limits stands c.begin.ensures.count
    c.in-Ok.broker c.in-Ok.ensures.begun c.in-Ok.ensures.limits)))
    c.run.ensures.ran_out

pub returns-in-Err-clause-ended : goal.returns-in-Err-clause-ended
returns-in-Err-clause-ended g c = λ stands.
    unopened-without g.P.Ports.stand g.D.Disk c.args.ports.now c.args.disk.now c.begin.new.disk c.args.limits.now stands c.begin.ensures.count
