use Rattle.mj_titanic.proofs.OnwardLemmas.{from-open}
use Rattle.std.proofs.Common.{ap, ◌∙◌}
use Rattle.mj_titanic.proofs.Accepts.{if-err-map, on-ok-map}
use Rattle.mj_titanic.specs.Accepting.{is_kept}
use Rattle.mj_titanic.proofs.Taking.{accept-stopped, failed-told, failed-told-stopped, full-did, full-stopped, kept-told, kept-told-stopped}
use Rattle.mj_titanic.proofs.parts.Parts.accept.Goals as goal

pub returns-in-Ok-Full-clause-done : goal.returns-in-Ok-Full-clause-done
returns-in-Ok-Full-clause-done g c =
    on-ok-map c.tell.result _ _ (λ did. full-did g.D.Disk c.args.self.now.routing c.args.self.now.keeping c.args.disk.now c.args.number c.args.request.now c.args.service.now c.args.body.now c.requires.open
    c.accept.new.self c.accept.new.disk c.args.outs.now.items c.accept.new.outs.items _ (c.in-Ok-Full.ensures.done c.args.self.now.routing) _ _ c.in-Ok-Full.field-0-is did) c.tell.ensures.done

pub returns-in-Ok-Full-clause-stopped : goal.returns-in-Ok-Full-clause-stopped
returns-in-Ok-Full-clause-stopped g c =
    if-err-map c.tell.result _ _ (λ fault stopped. full-stopped g.D.Disk c.args.self.now.routing c.args.self.now.keeping c.args.disk.now c.args.number c.args.request.now c.args.service.now c.args.body.now c.requires.open
    c.accept.new.self c.accept.new.disk c.args.outs.now.items c.accept.new.outs.items _ (c.in-Ok-Full.ensures.done c.args.self.now.routing) fault c.in-Ok-Full.field-0-is stopped) c.tell.ensures.stopped

pub returns-in-Ok-Kept-clause-done : goal.returns-in-Ok-Kept-clause-done
returns-in-Ok-Kept-clause-done g c =
    on-ok-map c.tell_accepted.result _ _ (λ did. kept-told g.D.Disk c.args.self.now.routing c.args.self.now.keeping c.args.disk.now c.args.number c.args.request.now c.args.service.now c.args.body.now c.requires.open
    c.accept.new.self c.accept.new.disk c.args.outs.now.items c.accept.new.outs.items _ (c.in-Ok-Kept.ensures.done c.args.self.now.routing) c.in-Ok-Kept.ticket c.in-Ok-Kept.text _ _ c.in-Ok-Kept.field-0-is (c.in-Ok-Kept.ensures.usable ∙ ap is_kept c.in-Ok-Kept.field-0-is) did) c.tell_accepted.ensures.done

pub returns-in-Ok-Kept-clause-stopped : goal.returns-in-Ok-Kept-clause-stopped
returns-in-Ok-Kept-clause-stopped g c =
    if-err-map c.tell_accepted.result _ _ (λ fault stopped. kept-told-stopped g.D.Disk c.args.self.now.routing c.args.self.now.keeping c.args.disk.now c.args.number c.args.request.now c.args.service.now c.args.body.now c.requires.open
    c.accept.new.self c.accept.new.disk c.args.outs.now.items c.accept.new.outs.items _ (c.in-Ok-Kept.ensures.done c.args.self.now.routing) c.in-Ok-Kept.ticket c.in-Ok-Kept.text fault c.in-Ok-Kept.field-0-is stopped) c.tell_accepted.ensures.stopped

pub returns-in-Ok-Failed-clause-done : goal.returns-in-Ok-Failed-clause-done
returns-in-Ok-Failed-clause-done g c =
    on-ok-map c.fail.result _ _ (λ did. failed-told g.D.Disk c.args.self.now.routing c.args.self.now.keeping c.args.disk.now c.args.number c.args.request.now c.args.service.now c.args.body.now c.requires.open
    c.accept.new.self c.accept.new.disk c.args.outs.now.items c.accept.new.outs.items _ (c.in-Ok-Failed.ensures.done c.args.self.now.routing) _ _ c.in-Ok-Failed.field-0-is (c.in-Ok-Failed.ensures.usable ∙ ap is_kept c.in-Ok-Failed.field-0-is) c.in-Ok-Failed.ensures.stored did) c.fail.ensures.done

pub returns-in-Ok-Failed-clause-stopped : goal.returns-in-Ok-Failed-clause-stopped
returns-in-Ok-Failed-clause-stopped g c =
    if-err-map c.fail.result _ _ (λ fault stopped. failed-told-stopped g.D.Disk c.args.self.now.routing c.args.self.now.keeping c.args.disk.now c.args.number c.args.request.now c.args.service.now c.args.body.now c.requires.open
    c.accept.new.self c.accept.new.disk c.args.outs.now.items c.accept.new.outs.items _ (c.in-Ok-Failed.ensures.done c.args.self.now.routing) fault c.in-Ok-Failed.field-0-is stopped) c.fail.ensures.stopped

pub returns-in-Err-clause-stopped : goal.returns-in-Err-clause-stopped
returns-in-Err-clause-stopped g c = accept-stopped g.D.Disk c.args.self.now.routing c.args.self.now.keeping c.args.disk.now c.args.number c.args.request.now c.args.service.now c.args.body.now c.requires.open _ _ (c.in-Err.ensures.stopped c.args.self.now.routing)

pub returns-in-Ok-Full-clause-stays : goal.returns-in-Ok-Full-clause-stays
returns-in-Ok-Full-clause-stays g c =
    on-ok-map c.tell.result _ _
    (λ s. from-open c.accept.new.self.keeper.shelf c.tell.new.self.keeping.keeper.shelf c.args.self.now.routing c.tell.new.self.routing (c.in-Ok-Full.ensures.usable ∙ ap is_kept c.in-Ok-Full.field-0-is) s c.args.self.now.keeping.keeper.shelf) c.tell.ensures.stays

pub returns-in-Ok-Kept-clause-stays : goal.returns-in-Ok-Kept-clause-stays
returns-in-Ok-Kept-clause-stays g c = on-ok-map c.tell_accepted.result _ _ (λ s. s (c.in-Ok-Kept.ensures.usable ∙ ap is_kept c.in-Ok-Kept.field-0-is) c.args.self.now.keeping.keeper.shelf) c.tell_accepted.ensures.stays

pub returns-in-Ok-Failed-clause-stays : goal.returns-in-Ok-Failed-clause-stays
returns-in-Ok-Failed-clause-stays g c = on-ok-map c.fail.result _ _ (λ s. s c.args.self.now.keeping.keeper.shelf) c.fail.ensures.stays
