use Rattle.std.proofs.Common.{sym, ap, ◌∙◌, subst}
use Rattle.std.proofs.lemmas.Result.{IfErr-weaker, on_ok_weaker}
use Rattle.mj_machine.specs.DiskActs.{routes}
use Rattle.mj_machine.specs.declared.connection.Voice.{Voice}
use Rattle.mj_machine.specs.Leaving.{held_by}
use Rattle.mj_machine.specs.MachineState.{State}
use Rattle.mj_machine.specs.MessageStep.{departs, replied, unexpected, works_on}
use Rattle.mj_worker_cmd.specs.declared.command.WorkerAct.{WorkerAct}
use Rattle.mj_broker.specs.Acting.{hears}
use Rattle.mj_broker.specs.Bodies.{IsShortAct}
use Rattle.mj_broker.proofs.Lifting.{act-as, halt-as}
use Rattle.mj_broker.proofs.message.work_on.Goals as goal

pub returns-in-Heartbeat-clause-acted : goal.returns-in-Heartbeat-clause-acted
returns-in-Heartbeat-clause-acted g c =
    on_ok_weaker c.mark.result
    (λ a. act-as g.D.Disk c.args.parts.now c.args.disk.now c.mark.new.parts c.args.disk.now c.args.outs.now.items c.args.outs.now.items (hears c.args.number) (works_on c.args.number c.args.registration c.args.act) (λ w at. sym (ap (λ (a : WorkerAct). works_on c.args.number c.args.registration a w) c.in-Heartbeat.is)) (a c.args.outs.now.items))
    c.mark.ensures.acted

pub returns-in-Heartbeat-clause-stopped : goal.returns-in-Heartbeat-clause-stopped
returns-in-Heartbeat-clause-stopped g c =
    IfErr-weaker c.mark.result _ _ (λ fault s. halt-as g.D.Disk c.args.parts.now c.args.disk.now fault c.args.disk.now (hears c.args.number) (works_on c.args.number c.args.registration c.args.act) (λ w at. sym (ap (λ (a : WorkerAct). works_on c.args.number c.args.registration a w) c.in-Heartbeat.is)) s) c.mark.ensures.stopped

pub returns-in-Disconnect-clause-acted : goal.returns-in-Disconnect-clause-acted
returns-in-Disconnect-clause-acted g c =
    on_ok_weaker c.depart.result
    (λ a. act-as g.D.Disk c.args.parts.now c.args.disk.now c.depart.new.parts c.args.disk.now c.args.outs.now.items c.args.outs.now.items (routes (departs c.args.number)) (works_on c.args.number c.args.registration c.args.act) (λ w at. sym (ap (λ (a : WorkerAct). works_on c.args.number c.args.registration a w) c.in-Disconnect.is)) (a c.args.outs.now.items))
    c.depart.ensures.acted

pub returns-in-Disconnect-clause-stopped : goal.returns-in-Disconnect-clause-stopped
returns-in-Disconnect-clause-stopped g c =
    IfErr-weaker c.depart.result _ _ (λ fault s. halt-as g.D.Disk c.args.parts.now c.args.disk.now fault c.args.disk.now (routes (departs c.args.number)) (works_on c.args.number c.args.registration c.args.act) (λ w at. sym (ap (λ (a : WorkerAct). works_on c.args.number c.args.registration a w) c.in-Disconnect.is)) s) c.depart.ensures.stopped

pub returns-in-Ready-clause-acted : goal.returns-in-Ready-clause-acted
returns-in-Ready-clause-acted g c =
    on_ok_weaker c.refuse.result
    (λ a. act-as g.D.Disk c.args.parts.now c.args.disk.now c.refuse.new.parts c.args.disk.now c.args.outs.now.items c.refuse.new.outs.items (routes (unexpected c.args.number c.voice_at.result)) (works_on c.args.number c.args.registration c.args.act) (λ w at. ap (λ (v : Voice). routes (unexpected c.args.number v) w) c.voice_at.ensures ∙ sym (ap (λ (a : WorkerAct). works_on c.args.number c.args.registration a w) c.in-Ready.is)) a)
    c.refuse.ensures.acted

pub returns-in-Ready-clause-stopped : goal.returns-in-Ready-clause-stopped
returns-in-Ready-clause-stopped g c =
    IfErr-weaker c.refuse.result _ _ (λ fault s. halt-as g.D.Disk c.args.parts.now c.args.disk.now fault c.args.disk.now (routes (unexpected c.args.number c.voice_at.result)) (works_on c.args.number c.args.registration c.args.act) (λ w at. ap (λ (v : Voice). routes (unexpected c.args.number v) w) c.voice_at.ensures ∙ sym (ap (λ (a : WorkerAct). works_on c.args.number c.args.registration a w) c.in-Ready.is)) s) c.refuse.ensures.stopped

pub reply-requires-clause-short : goal.reply-requires-clause-short
reply-requires-clause-short g c = λ stored. subst IsShortAct c.in-Reply.is (c.requires.short stored)

pub returns-in-Reply-clause-acted : goal.returns-in-Reply-clause-acted
returns-in-Reply-clause-acted g c =
    on_ok_weaker c.reply.result
    (λ a. act-as g.D.Disk c.args.parts.now c.args.disk.now c.reply.new.parts c.reply.new.disk c.args.outs.now.items c.reply.new.outs.items (replied c.args.number c.args.registration c.in-Reply.last c.in-Reply.address c.in-Reply.body (held_by c.args.number c.args.parts.now.routing.held)) (works_on c.args.number c.args.registration c.args.act) (λ w at. ap (λ (s : State). replied c.args.number c.args.registration c.in-Reply.last c.in-Reply.address c.in-Reply.body (held_by c.args.number s.held) w) at.routing ∙ sym (ap (λ (a : WorkerAct). works_on c.args.number c.args.registration a w) c.in-Reply.is)) a)
    c.reply.ensures.acted

pub returns-in-Reply-clause-stopped : goal.returns-in-Reply-clause-stopped
returns-in-Reply-clause-stopped g c =
    IfErr-weaker c.reply.result _ _ (λ fault s. halt-as g.D.Disk c.args.parts.now c.args.disk.now fault c.reply.new.disk (replied c.args.number c.args.registration c.in-Reply.last c.in-Reply.address c.in-Reply.body (held_by c.args.number c.args.parts.now.routing.held)) (works_on c.args.number c.args.registration c.args.act) (λ w at. ap (λ (s : State). replied c.args.number c.args.registration c.in-Reply.last c.in-Reply.address c.in-Reply.body (held_by c.args.number s.held) w) at.routing ∙ sym (ap (λ (a : WorkerAct). works_on c.args.number c.args.registration a w) c.in-Reply.is)) s) c.reply.ensures.stopped
