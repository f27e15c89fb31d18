use Rattle.std.proofs.Common.{refl}
use Rattle.std.proofs.lemmas.Result.{IfErr-weaker, on_ok_weaker}
use Rattle.mj_machine.specs.Acts.{◌then◌}
use Rattle.mj_machine.specs.DiskActs.{routes}
use Rattle.mj_machine.specs.MessageStep.{delivers, rests}
use Rattle.mj_broker.specs.Acting.{hears, takes_reply}
use Rattle.mj_broker.proofs.Lifting.{back, back-first, back-stopped, front, front-stopped, rests-keep, still-first}
use Rattle.mj_broker.proofs.BrokerLemmas.{absent-stored}
use Rattle.mj_broker.proofs.message.take_reply.Goals as goal

pub returns-in-Err-clause-stopped : goal.returns-in-Err-clause-stopped
returns-in-Err-clause-stopped g c =
    still-first g.D.Disk c.args.parts.now c.args.disk.now (hears c.args.number) (takes_reply c.args.number c.args.service.now c.args.last c.args.request.now c.args.body) (λ w. refl) c.in-Err.fault c.args.disk.now c.in-Err.ensures.stopped

pub pass_on-requires-clause-short : goal.pass_on-requires-clause-short
pass_on-requires-clause-short g c = λ stored.
    c.requires.short (absent-stored c.args.parts.now.keeping.keeper.shelf c.mark.new.parts.keeping.keeper.shelf (λ absent. ((c.in-Ok.ensures.acted c.args.outs.now.items).did.plain absent).0) stored)

pub pass_on-requires-clause-sound : goal.pass_on-requires-clause-sound
pass_on-requires-clause-sound g c = (c.in-Ok.ensures.acted c.args.outs.now.items).sound

pub returns-in-Err-pass_on-clause-stopped : goal.returns-in-Err-pass_on-clause-stopped
returns-in-Err-pass_on-clause-stopped g c =
    back-first g.D.Disk c.args.parts.now c.args.disk.now (λ w. hears c.args.number w then delivers c.args.last c.args.request.now c.args.body) (routes (rests c.args.last c.args.number c.args.service.now)) (rests-keep c.args.last c.args.number c.args.service.now) c.in-Err-pass_on.fault c.pass_on.new.disk
    (front-stopped g.D.Disk c.args.parts.now c.args.disk.now (hears c.args.number) (delivers c.args.last c.args.request.now c.args.body) (λ w. refl) c.mark.new.parts c.args.disk.now c.args.outs.now.items c.args.outs.now.items c.in-Err-pass_on.fault c.pass_on.new.disk
    (c.in-Ok.ensures.acted c.args.outs.now.items) c.in-Err-pass_on.ensures.stopped)

pub rest-requires : goal.rest-requires
rest-requires g c = record { sound = c.in-Ok-pass_on.ensures.acted.sound }

pub returns-clause-acted : goal.returns-clause-acted
returns-clause-acted g c =
    on_ok_weaker c.rest.result
    (λ three. back g.D.Disk c.args.parts.now c.args.disk.now (λ w. hears c.args.number w then delivers c.args.last c.args.request.now c.args.body) (routes (rests c.args.last c.args.number c.args.service.now)) (rests-keep c.args.last c.args.number c.args.service.now)
    c.pass_on.new.parts c.pass_on.new.disk c.rest.new.parts c.pass_on.new.disk c.args.outs.now.items c.pass_on.new.outs.items c.pass_on.new.outs.items
    (front g.D.Disk c.args.parts.now c.args.disk.now (hears c.args.number) (delivers c.args.last c.args.request.now c.args.body) (λ w. refl) c.mark.new.parts c.args.disk.now c.pass_on.new.parts c.pass_on.new.disk c.args.outs.now.items c.args.outs.now.items c.pass_on.new.outs.items
    (c.in-Ok.ensures.acted c.args.outs.now.items) c.in-Ok-pass_on.ensures.acted) (three c.pass_on.new.outs.items))
    c.rest.ensures.acted

pub returns-clause-stopped : goal.returns-clause-stopped
returns-clause-stopped g c =
    IfErr-weaker c.rest.result _ _
    (λ fault three. back-stopped g.D.Disk c.args.parts.now c.args.disk.now (λ w. hears c.args.number w then delivers c.args.last c.args.request.now c.args.body) (routes (rests c.args.last c.args.number c.args.service.now)) (rests-keep c.args.last c.args.number c.args.service.now)
    c.pass_on.new.parts c.pass_on.new.disk c.args.outs.now.items c.pass_on.new.outs.items fault c.pass_on.new.disk
    (front g.D.Disk c.args.parts.now c.args.disk.now (hears c.args.number) (delivers c.args.last c.args.request.now c.args.body) (λ w. refl) c.mark.new.parts c.args.disk.now c.pass_on.new.parts c.pass_on.new.disk c.args.outs.now.items c.args.outs.now.items c.pass_on.new.outs.items
    (c.in-Ok.ensures.acted c.args.outs.now.items) c.in-Ok-pass_on.ensures.acted) three)
    c.rest.ensures.stopped
