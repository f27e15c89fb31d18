use Rattle.std.proofs.Common.{sym, ap, ◌∙◌}
use Rattle.std.proofs.lemmas.Result.{IfErr-weaker, on_ok_weaker}
use Rattle.mj_machine.specs.DiskActs.{routes}
use Rattle.mj_machine.specs.declared.connection.Voice.{Voice}
use Rattle.mj_queue.specs.declared.request.Request.{Request}
use Rattle.mj_machine.specs.MessageStep.{asks, strays, departs, says}
use Rattle.mj_machine.specs.declared.connection.Role.TheVariants.{Client}
use Rattle.mj_machine.specs.declared.said.Said.{Said}
use Rattle.mj_broker.proofs.Lifting.{act-as, halt-as}
use Rattle.mj_broker.proofs.message.say_client.Goals as goal

pub returns-in-Neither-clause-acted : goal.returns-in-Neither-clause-acted
returns-in-Neither-clause-acted g c =
    on_ok_weaker c.depart.result
    (λ a. act-as g.D.Disk c.args.parts.now c.args.disk.now c.depart.new.parts c.args.disk.now c.args.outs.now.items c.args.outs.now.items (routes (departs c.args.number)) (says c.args.lane c.args.number Client c.args.said) (λ w at. sym (ap (λ (x : Said). says c.args.lane c.args.number Client x w) c.in-Neither.is)) (a c.args.outs.now.items))
    c.depart.ensures.acted

pub returns-in-Neither-clause-stopped : goal.returns-in-Neither-clause-stopped
returns-in-Neither-clause-stopped g c =
    IfErr-weaker c.depart.result _ _ (λ fault s. halt-as g.D.Disk c.args.parts.now c.args.disk.now fault c.args.disk.now (routes (departs c.args.number)) (says c.args.lane c.args.number Client c.args.said) (λ w at. sym (ap (λ (x : Said). says c.args.lane c.args.number Client x w) c.in-Neither.is)) s) c.depart.ensures.stopped

pub returns-in-Asks-clause-acted : goal.returns-in-Asks-clause-acted
returns-in-Asks-clause-acted g c =
    on_ok_weaker c.ask.result
    (λ a. act-as g.D.Disk c.args.parts.now c.args.disk.now c.ask.new.parts c.ask.new.disk c.args.outs.now.items c.ask.new.outs.items (asks c.args.lane c.args.number c.request_by.result) (says c.args.lane c.args.number Client c.args.said) (λ w at. ap (λ (r : Request). asks c.args.lane c.args.number r w) c.request_by.ensures ∙ sym (ap (λ (x : Said). says c.args.lane c.args.number Client x w) c.in-Asks.is)) a)
    c.ask.ensures.acted

pub returns-in-Asks-clause-stopped : goal.returns-in-Asks-clause-stopped
returns-in-Asks-clause-stopped g c =
    IfErr-weaker c.ask.result _ _ (λ fault s. halt-as g.D.Disk c.args.parts.now c.args.disk.now fault c.ask.new.disk (asks c.args.lane c.args.number c.request_by.result) (says c.args.lane c.args.number Client c.args.said) (λ w at. ap (λ (r : Request). asks c.args.lane c.args.number r w) c.request_by.ensures ∙ sym (ap (λ (x : Said). says c.args.lane c.args.number Client x w) c.in-Asks.is)) s) c.ask.ensures.stopped

pub returns-in-Serves-clause-acted : goal.returns-in-Serves-clause-acted
returns-in-Serves-clause-acted g c =
    on_ok_weaker c.stray.result
    (λ a. act-as g.D.Disk c.args.parts.now c.args.disk.now c.stray.new.parts c.args.disk.now c.args.outs.now.items c.stray.new.outs.items (routes (strays c.args.number c.voice_in.result c.in-Serves.cmd.act)) (says c.args.lane c.args.number Client c.args.said) (λ w at. ap (λ (v : Voice). routes (strays c.args.number v c.in-Serves.cmd.act) w) c.voice_in.ensures ∙ sym (ap (λ (x : Said). says c.args.lane c.args.number Client x w) c.in-Serves.is)) a)
    c.stray.ensures.acted

pub returns-in-Serves-clause-stopped : goal.returns-in-Serves-clause-stopped
returns-in-Serves-clause-stopped g c =
    IfErr-weaker c.stray.result _ _ (λ fault s. halt-as g.D.Disk c.args.parts.now c.args.disk.now fault c.args.disk.now (routes (strays c.args.number c.voice_in.result c.in-Serves.cmd.act)) (says c.args.lane c.args.number Client c.args.said) (λ w at. ap (λ (v : Voice). routes (strays c.args.number v c.in-Serves.cmd.act) w) c.voice_in.ensures ∙ sym (ap (λ (x : Said). says c.args.lane c.args.number Client x w) c.in-Serves.is)) s) c.stray.ensures.stopped
