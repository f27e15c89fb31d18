use Rattle.mj_routing.proofs.PlainLemmas.{beside-then}
use Rattle.std.proofs.Common.{ℕ, List, Option, Some, ap, ◌∙◌}
use Rattle.std.specs.Prelude.{codes}
use Rattle.mj_mmi.specs.Asking
use Rattle.mj_titanic.specs.Acting.{seen}
use Rattle.mj_titanic.proofs.Accepts.{if-err-map, on-ok-map}
use Rattle.mj_titanic.proofs.Rowing.{did-around, did-same, opened-stopped, stopped-around, stopped-same}
use Rattle.mj_titanic.proofs.Following.{again-done, again-done-stopped, again-failed, again-failed-stopped}
use Rattle.mj_machine.specs.TitanicStep.{fails_to, fetches, tells}
use Rattle.mj_titanic.specs.Services.{shows_known}
use Rattle.mj_titanic.proofs.parts.Parts.fetch.Goals as goal

pub returns-in-None-clause-done : goal.returns-in-None-clause-done
returns-in-None-clause-done g c =
    on-ok-map c.tell.result _ _ (λ did. did-same g.D.Disk (seen c.args.self.now) c.args.disk.now _ _ _ _ (tells c.args.number c.args.request.now (codes "400")) (fetches c.args.number c.args.request.now (Asking.read_ticket c.args.request.now.body)) (did-around g.D.Disk (seen c.args.self.now) c.args.disk.now _ _ _ _ (tells c.args.number c.args.request.now (codes "400")) did)
    (λ w at. ap (λ (o : Option (List ℕ)). fetches c.args.number c.args.request.now o w) (c.in-None.ensures))) c.tell.ensures.done

pub returns-in-None-clause-stopped : goal.returns-in-None-clause-stopped
returns-in-None-clause-stopped g c =
    if-err-map c.tell.result _ _ (λ fault stopped. stopped-same g.D.Disk fault (seen c.args.self.now) c.args.disk.now _ (tells c.args.number c.args.request.now (codes "400")) (fetches c.args.number c.args.request.now (Asking.read_ticket c.args.request.now.body))
    (stopped-around g.D.Disk fault (seen c.args.self.now) c.args.disk.now _ (tells c.args.number c.args.request.now (codes "400")) stopped)
    (λ w at. ap (λ (o : Option (List ℕ)). fetches c.args.number c.args.request.now o w) (c.in-None.ensures))) c.tell.ensures.stopped

pub returns-in-Ok-true-clause-done : goal.returns-in-Ok-true-clause-done
returns-in-Ok-true-clause-done g c =
    on-ok-map c.show_known.result _ _ (λ did. did-same g.D.Disk (seen c.args.self.now) c.args.disk.now _ _ _ _ (fetches c.args.number c.args.request.now (Some c.in-Some.id)) (fetches c.args.number c.args.request.now (Asking.read_ticket c.args.request.now.body))
    (again-done g.D.Disk (seen c.args.self.now) c.args.disk.now (fails_to c.args.number c.args.request.now) (shows_known c.args.number c.args.request.now c.in-Some.id) (seen c.open_again.new.self) c.open_again.new.disk _ _ c.in-Ok-true.ensures.done _ _ _ (c.in-Ok-true.ensures.usable ∙ c.in-Ok-true.field-0-test) did)
    (λ w at. ap (λ (o : Option (List ℕ)). fetches c.args.number c.args.request.now o w) (c.in-Some.ensures))) c.show_known.ensures.done

pub returns-in-Ok-true-clause-stopped : goal.returns-in-Ok-true-clause-stopped
returns-in-Ok-true-clause-stopped g c =
    if-err-map c.show_known.result _ _ (λ fault stopped. stopped-same g.D.Disk fault (seen c.args.self.now) c.args.disk.now _ (fetches c.args.number c.args.request.now (Some c.in-Some.id)) (fetches c.args.number c.args.request.now (Asking.read_ticket c.args.request.now.body))
    (again-done-stopped g.D.Disk (seen c.args.self.now) c.args.disk.now (fails_to c.args.number c.args.request.now) (shows_known c.args.number c.args.request.now c.in-Some.id) (seen c.open_again.new.self) c.open_again.new.disk _ _ c.in-Ok-true.ensures.done fault _ (c.in-Ok-true.ensures.usable ∙ c.in-Ok-true.field-0-test) stopped)
    (λ w at. ap (λ (o : Option (List ℕ)). fetches c.args.number c.args.request.now o w) (c.in-Some.ensures))) c.show_known.ensures.stopped

pub returns-in-Ok-false-clause-done : goal.returns-in-Ok-false-clause-done
returns-in-Ok-false-clause-done g c =
    on-ok-map c.tell-in-Ok-false.result _ _ (λ did. did-same g.D.Disk (seen c.args.self.now) c.args.disk.now _ _ _ _ (fetches c.args.number c.args.request.now (Some c.in-Some.id)) (fetches c.args.number c.args.request.now (Asking.read_ticket c.args.request.now.body))
    (again-failed g.D.Disk (seen c.args.self.now) c.args.disk.now (fails_to c.args.number c.args.request.now) (shows_known c.args.number c.args.request.now c.in-Some.id) (seen c.open_again.new.self) c.open_again.new.disk _ _ c.in-Ok-false.ensures.done _ _ _ (c.in-Ok-false.ensures.usable ∙ c.in-Ok-false.field-0-test) c.in-Ok-false.ensures.still_stored did)
    (λ w at. ap (λ (o : Option (List ℕ)). fetches c.args.number c.args.request.now o w) (c.in-Some.ensures))) c.tell-in-Ok-false.ensures.done

pub returns-in-Ok-false-clause-stopped : goal.returns-in-Ok-false-clause-stopped
returns-in-Ok-false-clause-stopped g c =
    if-err-map c.tell-in-Ok-false.result _ _ (λ fault stopped. stopped-same g.D.Disk fault (seen c.args.self.now) c.args.disk.now _ (fetches c.args.number c.args.request.now (Some c.in-Some.id)) (fetches c.args.number c.args.request.now (Asking.read_ticket c.args.request.now.body))
    (again-failed-stopped g.D.Disk (seen c.args.self.now) c.args.disk.now (fails_to c.args.number c.args.request.now) (shows_known c.args.number c.args.request.now c.in-Some.id) (seen c.open_again.new.self) c.open_again.new.disk _ _ c.in-Ok-false.ensures.done fault _ (c.in-Ok-false.ensures.usable ∙ c.in-Ok-false.field-0-test) c.in-Ok-false.ensures.still_stored stopped)
    (λ w at. ap (λ (o : Option (List ℕ)). fetches c.args.number c.args.request.now o w) (c.in-Some.ensures))) c.tell-in-Ok-false.ensures.stopped

pub returns-in-Err-clause-stopped : goal.returns-in-Err-clause-stopped
returns-in-Err-clause-stopped g c =
    stopped-same g.D.Disk _ (seen c.args.self.now) c.args.disk.now _ (fetches c.args.number c.args.request.now (Some c.in-Some.id)) (fetches c.args.number c.args.request.now (Asking.read_ticket c.args.request.now.body))
    (opened-stopped g.D.Disk (seen c.args.self.now) c.args.disk.now (fails_to c.args.number c.args.request.now) (shows_known c.args.number c.args.request.now c.in-Some.id) _ _ c.in-Err.ensures.stopped)
    (λ w at. ap (λ (o : Option (List ℕ)). fetches c.args.number c.args.request.now o w) (c.in-Some.ensures))

pub returns-in-Ok-true-clause-stays : goal.returns-in-Ok-true-clause-stays
returns-in-Ok-true-clause-stays g c =
    on-ok-map c.show_known.result _ _
    (λ s. beside-then c.args.self.now.keeping.keeper.shelf c.open_again.new.self.keeping.keeper.shelf c.show_known.new.self.keeping.keeper.shelf c.args.self.now.routing c.open_again.new.self.routing c.show_known.new.self.routing c.in-Ok-true.ensures.stays s)
    c.show_known.ensures.stays

pub returns-in-Ok-false-clause-stays : goal.returns-in-Ok-false-clause-stays
returns-in-Ok-false-clause-stays g c =
    on-ok-map c.tell-in-Ok-false.result _ _
    (λ s. beside-then c.args.self.now.keeping.keeper.shelf c.open_again.new.self.keeping.keeper.shelf c.tell-in-Ok-false.new.self.keeping.keeper.shelf c.args.self.now.routing c.open_again.new.self.routing c.tell-in-Ok-false.new.self.routing c.in-Ok-false.ensures.stays s)
    c.tell-in-Ok-false.ensures.stays
