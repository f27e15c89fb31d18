use Rattle.std.proofs.Common.{Bool, sym, ap, ◌∙◌}
use Rattle.std.proofs.lemmas.Result.{IfErr-weaker, on_ok_weaker}
use Rattle.mj_machine.specs.DiskActs.{routes}
use Rattle.mj_queue.specs.declared.request.Origin.{Origin}
use Rattle.mj_queue.specs.declared.request.Origin.TheVariants as origins
use Rattle.mj_machine.specs.MessageStep.{delivers, delivers_back, delivers_to}
use Rattle.mj_machine.specs.TitanicStep.{stores}
use Rattle.mj_broker.proofs.Lifting.{act-as, acted-nothing, halt-as}
use Rattle.mj_broker.proofs.message.pass_on.Goals as goal

pub returns-in-Client-clause-acted : goal.returns-in-Client-clause-acted
returns-in-Client-clause-acted g c =
    on_ok_weaker c.deliver.result
    (λ a. act-as g.D.Disk c.args.parts.now c.args.disk.now c.deliver.new.parts c.args.disk.now c.args.outs.now.items c.deliver.new.outs.items (routes (delivers_back c.in-Client.client c.args.last c.args.request.now c.args.body)) (delivers c.args.last c.args.request.now c.args.body) (λ w at. sym (ap (λ (o : Origin). delivers_to o c.args.last c.args.request.now c.args.body w) c.in-Client.is)) a)
    c.deliver.ensures.acted

pub returns-in-Client-clause-stopped : goal.returns-in-Client-clause-stopped
returns-in-Client-clause-stopped g c =
    IfErr-weaker c.deliver.result _ _ (λ fault s. halt-as g.D.Disk c.args.parts.now c.args.disk.now fault c.args.disk.now (routes (delivers_back c.in-Client.client c.args.last c.args.request.now c.args.body)) (delivers c.args.last c.args.request.now c.args.body) (λ w at. sym (ap (λ (o : Origin). delivers_to o c.args.last c.args.request.now c.args.body w) c.in-Client.is)) s) c.deliver.ensures.stopped

pub returns-then-last-clause-acted : goal.returns-then-last-clause-acted
returns-then-last-clause-acted g c =
    on_ok_weaker c.keep.result
    (λ a. act-as g.D.Disk c.args.parts.now c.args.disk.now c.keep.new.parts c.keep.new.disk c.args.outs.now.items c.keep.new.outs.items (stores c.in-Ticket.number c.args.body) (delivers c.args.last c.args.request.now c.args.body) (λ w at. sym (ap (λ (o : Origin). delivers_to o c.args.last c.args.request.now c.args.body w) c.in-Ticket.is ∙ ap (λ (b : Bool). delivers_to (origins.Ticket c.in-Ticket.number) b c.args.request.now c.args.body w) c.if-last.true)) a)
    c.keep.ensures.acted

pub returns-then-last-clause-stopped : goal.returns-then-last-clause-stopped
returns-then-last-clause-stopped g c =
    IfErr-weaker c.keep.result _ _ (λ fault s. halt-as g.D.Disk c.args.parts.now c.args.disk.now fault c.keep.new.disk (stores c.in-Ticket.number c.args.body) (delivers c.args.last c.args.request.now c.args.body) (λ w at. sym (ap (λ (o : Origin). delivers_to o c.args.last c.args.request.now c.args.body w) c.in-Ticket.is ∙ ap (λ (b : Bool). delivers_to (origins.Ticket c.in-Ticket.number) b c.args.request.now c.args.body w) c.if-last.true)) s) c.keep.ensures.stopped

pub returns-clause-acted : goal.returns-clause-acted
returns-clause-acted g c =
    acted-nothing g.D.Disk c.args.parts.now c.args.disk.now c.requires.sound c.args.outs.now.items (delivers c.args.last c.args.request.now c.args.body)
    (λ w at. sym (ap (λ (o : Origin). delivers_to o c.args.last c.args.request.now c.args.body w) c.in-Ticket.is ∙ ap (λ (b : Bool). delivers_to (origins.Ticket c.in-Ticket.number) b c.args.request.now c.args.body w) c.if-last.false))
