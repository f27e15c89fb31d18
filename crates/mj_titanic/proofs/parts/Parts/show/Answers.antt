use Rattle.std.proofs.Common.{◌∷◌, ℕ, List, Option, is_some, false, ap, refl, ◌∙◌}
use Rattle.std.specs.Prelude.{codes}
use Rattle.mj_titanic.specs.Acting.{parts, seen, core_behind}
use Rattle.mj_titanic.proofs.Accepts.{if-err-map, on-ok-map, with-some}
use Rattle.mj_machine.specs.Acts.{quiet}
use Rattle.mj_machine.specs.DiskActs.{reading, routes}
use Rattle.mj_machine.specs.TitanicStep.{answers, fails_to}
use Rattle.mj_titanic.specs.Services.{showing}
use Rattle.mj_titanic.proofs.Following.{first-stopped, open-is, then-done, then-failed, then-stopped}
use Rattle.mj_titanic.proofs.Showing.{showing-are, showing-read, tells_it}
use Rattle.mj_titanic.proofs.parts.Parts.show.Goals as goal

pub returns-in-Ok-Some-clause-done : goal.returns-in-Ok-Some-clause-done
returns-in-Ok-Some-clause-done g c =
    let body = with-some _ c.in-Ok-Some.field-0 c.in-Ok-Some.reply c.in-Ok-Some.field-0-is c.in-Ok-Some.ensures.body in
    on-ok-map c.tell_reply.result _ _ (λ did.
    then-done g.D.Disk (seen c.args.self.now) c.args.disk.now (reading quiet quiet) (fails_to c.args.number c.args.request.now) (routes (answers c.args.number c.args.request.now (codes "200" ∷ c.in-Ok-Some.reply))) (showing c.args.number c.args.request.now c.args.ticket) (λ v. refl) (λ v. refl)
    (showing-read g.D.Disk (seen c.args.self.now) c.args.disk.now c.args.number c.args.request.now c.args.ticket (open-is _ c.args.self.now.keeping.keeper.shelf c.requires.open) c.in-Ok-Some.reply body)
    _ (parts c.args.self.now.routing c.read_reply.new.self) c.read_reply.new.disk _ _ _ _ _
    (ap (λ (o : Option (List (List ℕ))). parts (core_behind (is_some o) c.args.self.now.routing) c.read_reply.new.self) c.in-Ok-Some.field-0-is) (c.in-Ok-Some.ensures.usable ∙ ap is_some c.in-Ok-Some.field-0-is) (c.in-Ok-Some.ensures.done c.args.self.now.routing) did)
    c.tell_reply.ensures.done

pub returns-in-Ok-Some-clause-stopped : goal.returns-in-Ok-Some-clause-stopped
returns-in-Ok-Some-clause-stopped g c =
    let body = with-some _ c.in-Ok-Some.field-0 c.in-Ok-Some.reply c.in-Ok-Some.field-0-is c.in-Ok-Some.ensures.body in
    if-err-map c.tell_reply.result _ _ (λ fault stopped.
    then-stopped g.D.Disk (seen c.args.self.now) c.args.disk.now (reading quiet quiet) (fails_to c.args.number c.args.request.now) (routes (answers c.args.number c.args.request.now (codes "200" ∷ c.in-Ok-Some.reply))) (showing c.args.number c.args.request.now c.args.ticket) (λ v. refl) (λ v. refl)
    (showing-read g.D.Disk (seen c.args.self.now) c.args.disk.now c.args.number c.args.request.now c.args.ticket (open-is _ c.args.self.now.keeping.keeper.shelf c.requires.open) c.in-Ok-Some.reply body)
    _ (parts c.args.self.now.routing c.read_reply.new.self) c.read_reply.new.disk _ _ fault _
    (ap (λ (o : Option (List (List ℕ))). parts (core_behind (is_some o) c.args.self.now.routing) c.read_reply.new.self) c.in-Ok-Some.field-0-is) (c.in-Ok-Some.ensures.done c.args.self.now.routing) stopped)
    c.tell_reply.ensures.stopped

pub returns-in-Ok-None-clause-done : goal.returns-in-Ok-None-clause-done
returns-in-Ok-None-clause-done g c =
    on-ok-map c.fail.result _ _ (λ did.
    then-failed g.D.Disk (seen c.args.self.now) c.args.disk.now (reading quiet quiet) (fails_to c.args.number c.args.request.now) (tells_it c.args.number c.args.request.now c.args.ticket) (showing c.args.number c.args.request.now c.args.ticket) (λ v. refl) (λ v. refl)
    (showing-are g.D.Disk (seen c.args.self.now) c.args.disk.now c.args.number c.args.request.now c.args.ticket (open-is _ c.args.self.now.keeping.keeper.shelf c.requires.open))
    _ (parts (core_behind false c.args.self.now.routing) c.read_reply.new.self) c.read_reply.new.disk _ _ _ _ _
    (ap (λ (o : Option (List (List ℕ))). parts (core_behind (is_some o) c.args.self.now.routing) c.read_reply.new.self) c.in-Ok-None.field-0-is) (c.in-Ok-None.ensures.usable ∙ ap is_some c.in-Ok-None.field-0-is) c.in-Ok-None.ensures.stored (c.in-Ok-None.ensures.done c.args.self.now.routing) did)
    c.fail.ensures.done

pub returns-in-Ok-None-clause-stopped : goal.returns-in-Ok-None-clause-stopped
returns-in-Ok-None-clause-stopped g c =
    if-err-map c.fail.result _ _ (λ fault stopped.
    then-stopped g.D.Disk (seen c.args.self.now) c.args.disk.now (reading quiet quiet) (fails_to c.args.number c.args.request.now) (tells_it c.args.number c.args.request.now c.args.ticket) (showing c.args.number c.args.request.now c.args.ticket) (λ v. refl) (λ v. refl)
    (showing-are g.D.Disk (seen c.args.self.now) c.args.disk.now c.args.number c.args.request.now c.args.ticket (open-is _ c.args.self.now.keeping.keeper.shelf c.requires.open))
    _ (parts (core_behind false c.args.self.now.routing) c.read_reply.new.self) c.read_reply.new.disk _ _ fault _
    (ap (λ (o : Option (List (List ℕ))). parts (core_behind (is_some o) c.args.self.now.routing) c.read_reply.new.self) c.in-Ok-None.field-0-is) (c.in-Ok-None.ensures.done c.args.self.now.routing) stopped)
    c.fail.ensures.stopped

pub returns-in-Err-clause-stopped : goal.returns-in-Err-clause-stopped
returns-in-Err-clause-stopped g c =
    first-stopped g.D.Disk (seen c.args.self.now) c.args.disk.now (reading quiet quiet) (fails_to c.args.number c.args.request.now) (tells_it c.args.number c.args.request.now c.args.ticket) (showing c.args.number c.args.request.now c.args.ticket) (λ v. refl) (λ v. refl)
    (showing-are g.D.Disk (seen c.args.self.now) c.args.disk.now c.args.number c.args.request.now c.args.ticket (open-is _ c.args.self.now.keeping.keeper.shelf c.requires.open))
    _ _ (c.in-Err.ensures.stopped c.args.self.now.routing)

pub returns-in-Ok-Some-clause-stays : goal.returns-in-Ok-Some-clause-stays
returns-in-Ok-Some-clause-stays g c = on-ok-map c.tell_reply.result _ _ (λ s. s (c.in-Ok-Some.ensures.usable ∙ ap is_some c.in-Ok-Some.field-0-is) c.args.self.now.keeping.keeper.shelf) c.tell_reply.ensures.stays

pub returns-in-Ok-None-clause-stays : goal.returns-in-Ok-None-clause-stays
returns-in-Ok-None-clause-stays g c = on-ok-map c.fail.result _ _ (λ s. s c.args.self.now.keeping.keeper.shelf) c.fail.ensures.stays
