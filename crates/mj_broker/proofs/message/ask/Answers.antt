use Rattle.std.proofs.Common.{Bool, false, sym, ap, ◌∙◌}
use Rattle.std.proofs.lemmas.Result.{IfErr-weaker, on_ok_weaker}
use Rattle.mj_machine.specs.DiskActs.{routes}
use Rattle.mj_base.specs.ServiceName.{is_reserved}
use Rattle.mj_machine.specs.MessageStep.{answers_itself, asks, asks_by, queues}
use Rattle.mj_broker.specs.Acting.{serves_client}
use Rattle.mj_broker.proofs.Lifting.{act-as, halt-as, stored-is}
use Rattle.mj_broker.proofs.message.ask.Goals as goal

pub returns-then-reserved-clause-acted : goal.returns-then-reserved-clause-acted
returns-then-reserved-clause-acted g c =
    on_ok_weaker c.answer.result
    (λ a. act-as g.D.Disk c.args.parts.now c.args.disk.now c.answer.new.parts c.args.disk.now c.args.outs.now.items c.answer.new.outs.items (routes (answers_itself c.args.number c.args.request)) (asks c.args.lane c.args.number c.args.request) (λ w at. ap (λ (b : Bool). asks_by b (is_reserved w.store.stored c.args.request.service) c.args.lane c.args.number c.args.request w) (sym c.if-reserved.true ∙ c.reserved.ensures)) a)
    c.answer.ensures.acted

pub returns-then-reserved-clause-stopped : goal.returns-then-reserved-clause-stopped
returns-then-reserved-clause-stopped g c =
    IfErr-weaker c.answer.result _ _ (λ fault s. halt-as g.D.Disk c.args.parts.now c.args.disk.now fault c.args.disk.now (routes (answers_itself c.args.number c.args.request)) (asks c.args.lane c.args.number c.args.request) (λ w at. ap (λ (b : Bool). asks_by b (is_reserved w.store.stored c.args.request.service) c.args.lane c.args.number c.args.request w) (sym c.if-reserved.true ∙ c.reserved.ensures)) s) c.answer.ensures.stopped

pub returns-then-reserved-2-clause-acted : goal.returns-then-reserved-2-clause-acted
returns-then-reserved-2-clause-acted g c =
    on_ok_weaker c.serve.result
    (λ a. act-as g.D.Disk c.args.parts.now c.args.disk.now c.serve.new.parts c.serve.new.disk c.args.outs.now.items c.serve.new.outs.items (serves_client c.args.number c.args.request) (asks c.args.lane c.args.number c.args.request) (λ w at. ap (λ (b : Bool). asks_by false b c.args.lane c.args.number c.args.request w) (sym c.if-reserved-2.true ∙ c.reserved-else-reserved.ensures ∙ ap (λ (b : Bool). is_reserved b c.args.request.service) (c.is_stored.ensures ∙ sym (stored-is g.D.Disk c.args.parts.now c.args.disk.now w at))) ∙ ap (λ (b : Bool). asks_by b (is_reserved w.store.stored c.args.request.service) c.args.lane c.args.number c.args.request w) (sym c.if-reserved.false ∙ c.reserved.ensures)) a)
    c.serve.ensures.acted

pub returns-then-reserved-2-clause-stopped : goal.returns-then-reserved-2-clause-stopped
returns-then-reserved-2-clause-stopped g c =
    IfErr-weaker c.serve.result _ _ (λ fault s. halt-as g.D.Disk c.args.parts.now c.args.disk.now fault c.serve.new.disk (serves_client c.args.number c.args.request) (asks c.args.lane c.args.number c.args.request) (λ w at. ap (λ (b : Bool). asks_by false b c.args.lane c.args.number c.args.request w) (sym c.if-reserved-2.true ∙ c.reserved-else-reserved.ensures ∙ ap (λ (b : Bool). is_reserved b c.args.request.service) (c.is_stored.ensures ∙ sym (stored-is g.D.Disk c.args.parts.now c.args.disk.now w at))) ∙ ap (λ (b : Bool). asks_by b (is_reserved w.store.stored c.args.request.service) c.args.lane c.args.number c.args.request w) (sym c.if-reserved.false ∙ c.reserved.ensures)) s) c.serve.ensures.stopped

pub returns-else-reserved-2-clause-acted : goal.returns-else-reserved-2-clause-acted
returns-else-reserved-2-clause-acted g c =
    on_ok_weaker c.queue.result
    (λ a. act-as g.D.Disk c.args.parts.now c.args.disk.now c.queue.new.parts c.args.disk.now c.args.outs.now.items c.queue.new.outs.items (routes (queues c.args.lane c.args.number c.args.request)) (asks c.args.lane c.args.number c.args.request) (λ w at. ap (λ (b : Bool). asks_by false b c.args.lane c.args.number c.args.request w) (sym c.if-reserved-2.false ∙ c.reserved-else-reserved.ensures ∙ ap (λ (b : Bool). is_reserved b c.args.request.service) (c.is_stored.ensures ∙ sym (stored-is g.D.Disk c.args.parts.now c.args.disk.now w at))) ∙ ap (λ (b : Bool). asks_by b (is_reserved w.store.stored c.args.request.service) c.args.lane c.args.number c.args.request w) (sym c.if-reserved.false ∙ c.reserved.ensures)) a)
    c.queue.ensures.acted

pub returns-else-reserved-2-clause-stopped : goal.returns-else-reserved-2-clause-stopped
returns-else-reserved-2-clause-stopped g c =
    IfErr-weaker c.queue.result _ _ (λ fault s. halt-as g.D.Disk c.args.parts.now c.args.disk.now fault c.args.disk.now (routes (queues c.args.lane c.args.number c.args.request)) (asks c.args.lane c.args.number c.args.request) (λ w at. ap (λ (b : Bool). asks_by false b c.args.lane c.args.number c.args.request w) (sym c.if-reserved-2.false ∙ c.reserved-else-reserved.ensures ∙ ap (λ (b : Bool). is_reserved b c.args.request.service) (c.is_stored.ensures ∙ sym (stored-is g.D.Disk c.args.parts.now c.args.disk.now w at))) ∙ ap (λ (b : Bool). asks_by b (is_reserved w.store.stored c.args.request.service) c.args.lane c.args.number c.args.request w) (sym c.if-reserved.false ∙ c.reserved.ensures)) s) c.queue.ensures.stopped
