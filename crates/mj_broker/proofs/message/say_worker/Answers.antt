use Rattle.std.proofs.Common.{sym, ap, ◌∙◌}
use Rattle.std.proofs.lemmas.Result.{IfErr-weaker, on_ok_weaker}
use Rattle.mj_machine.specs.DiskActs.{routes}
use Rattle.mj_machine.specs.declared.connection.Voice.{Voice}
use Rattle.mj_machine.specs.MessageStep.{departs, says, unexpected, works}
use Rattle.mj_machine.specs.declared.connection.Role.TheVariants.{Worker}
use Rattle.mj_machine.specs.declared.said.Said.{Said}
use Rattle.mj_broker.proofs.Lifting.{act-as, halt-as}
use Rattle.mj_broker.proofs.message.say_worker.Goals as goal

pub returns-in-Neither-clause-acted : goal.returns-in-Neither-clause-acted
returns-in-Neither-clause-acted g c =
    on_ok_weaker c.depart.result
    (λ a. λ lane. act-as g.D.Disk c.args.parts.now c.args.disk.now c.depart.new.parts c.args.disk.now c.args.outs.now.items c.args.outs.now.items (routes (departs c.args.number)) (says lane c.args.number (Worker c.args.registration) c.args.said) (λ w at. sym (ap (λ (x : Said). says lane c.args.number (Worker c.args.registration) x w) c.in-Neither.is)) (a c.args.outs.now.items))
    c.depart.ensures.acted

pub returns-in-Neither-clause-stopped : goal.returns-in-Neither-clause-stopped
returns-in-Neither-clause-stopped g c =
    IfErr-weaker c.depart.result _ _ (λ fault s. λ lane. halt-as g.D.Disk c.args.parts.now c.args.disk.now fault c.args.disk.now (routes (departs c.args.number)) (says lane c.args.number (Worker c.args.registration) c.args.said) (λ w at. sym (ap (λ (x : Said). says lane c.args.number (Worker c.args.registration) x w) c.in-Neither.is)) s) c.depart.ensures.stopped

pub returns-in-Asks-clause-acted : goal.returns-in-Asks-clause-acted
returns-in-Asks-clause-acted g c =
    on_ok_weaker c.refuse.result
    (λ a. λ lane. act-as g.D.Disk c.args.parts.now c.args.disk.now c.refuse.new.parts c.args.disk.now c.args.outs.now.items c.refuse.new.outs.items (routes (unexpected c.args.number c.voice_at.result)) (says lane c.args.number (Worker c.args.registration) c.args.said) (λ w at. ap (λ (v : Voice). routes (unexpected c.args.number v) w) c.voice_at.ensures ∙ sym (ap (λ (x : Said). says lane c.args.number (Worker c.args.registration) x w) c.in-Asks.is)) a)
    c.refuse.ensures.acted

pub returns-in-Asks-clause-stopped : goal.returns-in-Asks-clause-stopped
returns-in-Asks-clause-stopped g c =
    IfErr-weaker c.refuse.result _ _ (λ fault s. λ lane. halt-as g.D.Disk c.args.parts.now c.args.disk.now fault c.args.disk.now (routes (unexpected c.args.number c.voice_at.result)) (says lane c.args.number (Worker c.args.registration) c.args.said) (λ w at. ap (λ (v : Voice). routes (unexpected c.args.number v) w) c.voice_at.ensures ∙ sym (ap (λ (x : Said). says lane c.args.number (Worker c.args.registration) x w) c.in-Asks.is)) s) c.refuse.ensures.stopped

pub returns-in-Serves-clause-acted : goal.returns-in-Serves-clause-acted
returns-in-Serves-clause-acted g c =
    on_ok_weaker c.work.result
    (λ a. λ lane. act-as g.D.Disk c.args.parts.now c.args.disk.now c.work.new.parts c.work.new.disk c.args.outs.now.items c.work.new.outs.items (works c.args.number c.args.registration c.in-Serves.cmd) (says lane c.args.number (Worker c.args.registration) c.args.said) (λ w at. sym (ap (λ (x : Said). says lane c.args.number (Worker c.args.registration) x w) c.in-Serves.is)) a)
    c.work.ensures.acted

pub returns-in-Serves-clause-stopped : goal.returns-in-Serves-clause-stopped
returns-in-Serves-clause-stopped g c =
    IfErr-weaker c.work.result _ _ (λ fault s. λ lane. halt-as g.D.Disk c.args.parts.now c.args.disk.now fault c.work.new.disk (works c.args.number c.args.registration c.in-Serves.cmd) (says lane c.args.number (Worker c.args.registration) c.args.said) (λ w at. sym (ap (λ (x : Said). says lane c.args.number (Worker c.args.registration) x w) c.in-Serves.is)) s) c.work.ensures.stopped
