use Rattle.std.proofs.Common.{ℕ, Bool, Option, List, sym, ap, ◌∙◌}
use Rattle.std.proofs.lemmas.Result.{IfErr-weaker, on_ok_weaker}
use Rattle.mj_machine.specs.DiskActs.{routes}
use Rattle.mj_machine.specs.declared.connection.Voice.{Voice}
use Rattle.std.specs.Str.{bytes_eq}
use Rattle.mj_queue.specs.declared.request.Request.{Request}
use Rattle.mj_machine.specs.Leaving.{held_by}
use Rattle.mj_machine.specs.MessageStep.{replied, replied_by, unexpected}
use Rattle.mj_machine.specs.Sending.{address}
use Rattle.mj_broker.specs.Acting.{takes_reply}
use Rattle.mj_broker.proofs.Lifting.{act-as, halt-as, halted}
use Rattle.mj_broker.proofs.message.reply.Goals as goal

pub returns-in-Ok-None-clause-acted : goal.returns-in-Ok-None-clause-acted
returns-in-Ok-None-clause-acted g c =
    on_ok_weaker c.refuse.result
    (λ a. act-as g.D.Disk c.args.parts.now c.args.disk.now c.refuse.new.parts c.args.disk.now c.args.outs.now.items c.refuse.new.outs.items (routes (unexpected c.args.number c.voice_at.result)) (replied c.args.number c.args.registration c.args.last c.args.address c.args.body (held_by c.args.number c.args.parts.now.routing.held)) (λ w at. ap (λ (v : Voice). routes (unexpected c.args.number v) w) c.voice_at.ensures ∙ ap (λ (o : Option Request). replied c.args.number c.args.registration c.args.last c.args.address c.args.body o w) (sym c.in-Ok-None.field-0-is ∙ c.in-Ok-None.ensures)) a)
    c.refuse.ensures.acted

pub returns-in-Ok-None-clause-stopped : goal.returns-in-Ok-None-clause-stopped
returns-in-Ok-None-clause-stopped g c =
    IfErr-weaker c.refuse.result _ _ (λ fault s. halt-as g.D.Disk c.args.parts.now c.args.disk.now fault c.args.disk.now (routes (unexpected c.args.number c.voice_at.result)) (replied c.args.number c.args.registration c.args.last c.args.address c.args.body (held_by c.args.number c.args.parts.now.routing.held)) (λ w at. ap (λ (v : Voice). routes (unexpected c.args.number v) w) c.voice_at.ensures ∙ ap (λ (o : Option Request). replied c.args.number c.args.registration c.args.last c.args.address c.args.body o w) (sym c.in-Ok-None.field-0-is ∙ c.in-Ok-None.ensures)) s) c.refuse.ensures.stopped

pub returns-in-Err-clause-stopped : goal.returns-in-Err-clause-stopped
returns-in-Err-clause-stopped g c = halted g.D.Disk c.args.parts.now c.args.disk.now _

pub returns-then-not-is_address-clause-acted : goal.returns-then-not-is_address-clause-acted
returns-then-not-is_address-clause-acted g c =
    on_ok_weaker c.refuse-then-not-is_address.result
    (λ a. act-as g.D.Disk c.args.parts.now c.args.disk.now c.refuse-then-not-is_address.new.parts c.args.disk.now c.args.outs.now.items c.refuse-then-not-is_address.new.outs.items (routes (unexpected c.args.number c.voice_at-then-not-is_address.result)) (replied c.args.number c.args.registration c.args.last c.args.address c.args.body (held_by c.args.number c.args.parts.now.routing.held)) (λ w at. ap (λ (v : Voice). routes (unexpected c.args.number v) w) c.voice_at-then-not-is_address.ensures ∙ ap (λ (b : Bool). replied_by b c.args.number c.args.registration c.args.last c.args.body c.in-Ok-Some.request w) (sym c.if-not-is_address.true ∙ c.is_address.ensures ∙ ap (λ (o : List ℕ). bytes_eq o (address c.in-Ok-Some.request.origin)) c.as_slice.ensures) ∙ ap (λ (o : Option Request). replied c.args.number c.args.registration c.args.last c.args.address c.args.body o w) (sym c.in-Ok-Some.field-0-is ∙ c.in-Ok-Some.ensures)) a)
    c.refuse-then-not-is_address.ensures.acted

pub returns-then-not-is_address-clause-stopped : goal.returns-then-not-is_address-clause-stopped
returns-then-not-is_address-clause-stopped g c =
    IfErr-weaker c.refuse-then-not-is_address.result _ _ (λ fault s. halt-as g.D.Disk c.args.parts.now c.args.disk.now fault c.args.disk.now (routes (unexpected c.args.number c.voice_at-then-not-is_address.result)) (replied c.args.number c.args.registration c.args.last c.args.address c.args.body (held_by c.args.number c.args.parts.now.routing.held)) (λ w at. ap (λ (v : Voice). routes (unexpected c.args.number v) w) c.voice_at-then-not-is_address.ensures ∙ ap (λ (b : Bool). replied_by b c.args.number c.args.registration c.args.last c.args.body c.in-Ok-Some.request w) (sym c.if-not-is_address.true ∙ c.is_address.ensures ∙ ap (λ (o : List ℕ). bytes_eq o (address c.in-Ok-Some.request.origin)) c.as_slice.ensures) ∙ ap (λ (o : Option Request). replied c.args.number c.args.registration c.args.last c.args.address c.args.body o w) (sym c.in-Ok-Some.field-0-is ∙ c.in-Ok-Some.ensures)) s) c.refuse-then-not-is_address.ensures.stopped

pub returns-clause-acted : goal.returns-clause-acted
returns-clause-acted g c =
    on_ok_weaker c.take_reply.result
    (λ a. act-as g.D.Disk c.args.parts.now c.args.disk.now c.take_reply.new.parts c.take_reply.new.disk c.args.outs.now.items c.take_reply.new.outs.items (takes_reply c.args.number c.args.registration.service c.args.last c.in-Ok-Some.request c.args.body) (replied c.args.number c.args.registration c.args.last c.args.address c.args.body (held_by c.args.number c.args.parts.now.routing.held)) (λ w at. ap (λ (b : Bool). replied_by b c.args.number c.args.registration c.args.last c.args.body c.in-Ok-Some.request w) (sym c.if-not-is_address.false ∙ c.is_address.ensures ∙ ap (λ (o : List ℕ). bytes_eq o (address c.in-Ok-Some.request.origin)) c.as_slice.ensures) ∙ ap (λ (o : Option Request). replied c.args.number c.args.registration c.args.last c.args.address c.args.body o w) (sym c.in-Ok-Some.field-0-is ∙ c.in-Ok-Some.ensures)) a)
    c.take_reply.ensures.acted

pub returns-clause-stopped : goal.returns-clause-stopped
returns-clause-stopped g c =
    IfErr-weaker c.take_reply.result _ _ (λ fault s. halt-as g.D.Disk c.args.parts.now c.args.disk.now fault c.take_reply.new.disk (takes_reply c.args.number c.args.registration.service c.args.last c.in-Ok-Some.request c.args.body) (replied c.args.number c.args.registration c.args.last c.args.address c.args.body (held_by c.args.number c.args.parts.now.routing.held)) (λ w at. ap (λ (b : Bool). replied_by b c.args.number c.args.registration c.args.last c.args.body c.in-Ok-Some.request w) (sym c.if-not-is_address.false ∙ c.is_address.ensures ∙ ap (λ (o : List ℕ). bytes_eq o (address c.in-Ok-Some.request.origin)) c.as_slice.ensures) ∙ ap (λ (o : Option Request). replied c.args.number c.args.registration c.args.last c.args.address c.args.body o w) (sym c.in-Ok-Some.field-0-is ∙ c.in-Ok-Some.ensures)) s) c.take_reply.ensures.stopped
