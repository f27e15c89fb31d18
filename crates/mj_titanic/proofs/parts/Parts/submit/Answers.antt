use Rattle.mj_routing.proofs.PlainLemmas.{beside-then}
use Rattle.std.proofs.Common.{ℕ, List, Option, Some, ap, sym, ◌∙◌}
use Rattle.std.specs.Prelude.{codes}
use Rattle.mj_mmi.specs.Asking
use Rattle.mj_titanic.specs.Acting.{seen}
use Rattle.mj_titanic.proofs.Accepts.{if-err-map, on-ok-map}
use Rattle.mj_titanic.proofs.Rowing.{did-around, did-same, opened-stopped, stopped-around, stopped-same}
use Rattle.mj_titanic.proofs.Following.{again-done, again-done-stopped, again-failed, again-failed-stopped}
use Rattle.mj_machine.specs.TitanicStep.{accepts, fails_to, submits, tells}
use Rattle.mj_titanic.specs.declared.fault.ActFault.TheVariants.{NoMemory}
use Rattle.mj_titanic.proofs.Composing.{stopped-still}
use Rattle.mj_titanic.proofs.Known.{submitted-kept}
use Rattle.mj_titanic.proofs.parts.Parts.submit.Goals as goal

pub returns-in-Ok-None-clause-done : goal.returns-in-Ok-None-clause-done
returns-in-Ok-None-clause-done g c =
    on-ok-map c.tell.result _ _ (λ did. did-same g.D.Disk (seen c.args.self.now) c.args.disk.now _ _ _ _ (tells c.args.number c.args.request.now (codes "400")) (submits c.args.number c.args.request.now (Asking.read_submit c.args.request.now.body)) (did-around g.D.Disk (seen c.args.self.now) c.args.disk.now _ _ _ _ (tells c.args.number c.args.request.now (codes "400")) did)
    (λ w at. ap (λ (o : Option (List ℕ × List (List ℕ))). submits c.args.number c.args.request.now o w) (sym c.in-Ok-None.field-0-is ∙ c.in-Ok-None.ensures))) c.tell.ensures.done

pub returns-in-Ok-None-clause-stopped : goal.returns-in-Ok-None-clause-stopped
returns-in-Ok-None-clause-stopped g c =
    if-err-map c.tell.result _ _ (λ fault stopped. stopped-same g.D.Disk fault (seen c.args.self.now) c.args.disk.now _ (tells c.args.number c.args.request.now (codes "400")) (submits c.args.number c.args.request.now (Asking.read_submit c.args.request.now.body))
    (stopped-around g.D.Disk fault (seen c.args.self.now) c.args.disk.now _ (tells c.args.number c.args.request.now (codes "400")) stopped)
    (λ w at. ap (λ (o : Option (List ℕ × List (List ℕ))). submits c.args.number c.args.request.now o w) (sym c.in-Ok-None.field-0-is ∙ c.in-Ok-None.ensures))) c.tell.ensures.stopped

pub returns-in-Ok-true-clause-done : goal.returns-in-Ok-true-clause-done
returns-in-Ok-true-clause-done g c =
    on-ok-map c.accept.result _ _ (λ did. did-same g.D.Disk (seen c.args.self.now) c.args.disk.now _ _ _ _ (submits c.args.number c.args.request.now (Some c.in-Ok-Some.submitted)) (submits c.args.number c.args.request.now (Asking.read_submit c.args.request.now.body))
    (again-done g.D.Disk (seen c.args.self.now) c.args.disk.now (fails_to c.args.number c.args.request.now) (accepts c.args.number c.args.request.now c.in-Ok-Some.submitted) (seen c.open_again.new.self) c.open_again.new.disk _ _ c.in-Ok-true.ensures.done _ _ _ (c.in-Ok-true.ensures.usable ∙ c.in-Ok-true.field-0-test) did)
    (λ w at. ap (λ (o : Option (List ℕ × List (List ℕ))). submits c.args.number c.args.request.now o w) (sym c.in-Ok-Some.field-0-is ∙ c.in-Ok-Some.ensures))) c.accept.ensures.done

pub returns-in-Ok-true-clause-stopped : goal.returns-in-Ok-true-clause-stopped
returns-in-Ok-true-clause-stopped g c =
    if-err-map c.accept.result _ _ (λ fault stopped. stopped-same g.D.Disk fault (seen c.args.self.now) c.args.disk.now _ (submits c.args.number c.args.request.now (Some c.in-Ok-Some.submitted)) (submits c.args.number c.args.request.now (Asking.read_submit c.args.request.now.body))
    (again-done-stopped g.D.Disk (seen c.args.self.now) c.args.disk.now (fails_to c.args.number c.args.request.now) (accepts c.args.number c.args.request.now c.in-Ok-Some.submitted) (seen c.open_again.new.self) c.open_again.new.disk _ _ c.in-Ok-true.ensures.done fault _ (c.in-Ok-true.ensures.usable ∙ c.in-Ok-true.field-0-test) stopped)
    (λ w at. ap (λ (o : Option (List ℕ × List (List ℕ))). submits c.args.number c.args.request.now o w) (sym c.in-Ok-Some.field-0-is ∙ c.in-Ok-Some.ensures))) c.accept.ensures.stopped

pub returns-in-Ok-false-clause-done : goal.returns-in-Ok-false-clause-done
returns-in-Ok-false-clause-done g c =
    on-ok-map c.tell-in-Ok-false.result _ _ (λ did. did-same g.D.Disk (seen c.args.self.now) c.args.disk.now _ _ _ _ (submits c.args.number c.args.request.now (Some c.in-Ok-Some.submitted)) (submits c.args.number c.args.request.now (Asking.read_submit c.args.request.now.body))
    (again-failed g.D.Disk (seen c.args.self.now) c.args.disk.now (fails_to c.args.number c.args.request.now) (accepts c.args.number c.args.request.now c.in-Ok-Some.submitted) (seen c.open_again.new.self) c.open_again.new.disk _ _ c.in-Ok-false.ensures.done _ _ _ (c.in-Ok-false.ensures.usable ∙ c.in-Ok-false.field-0-test) c.in-Ok-false.ensures.still_stored did)
    (λ w at. ap (λ (o : Option (List ℕ × List (List ℕ))). submits c.args.number c.args.request.now o w) (sym c.in-Ok-Some.field-0-is ∙ c.in-Ok-Some.ensures))) c.tell-in-Ok-false.ensures.done

pub returns-in-Ok-false-clause-stopped : goal.returns-in-Ok-false-clause-stopped
returns-in-Ok-false-clause-stopped g c =
    if-err-map c.tell-in-Ok-false.result _ _ (λ fault stopped. stopped-same g.D.Disk fault (seen c.args.self.now) c.args.disk.now _ (submits c.args.number c.args.request.now (Some c.in-Ok-Some.submitted)) (submits c.args.number c.args.request.now (Asking.read_submit c.args.request.now.body))
    (again-failed-stopped g.D.Disk (seen c.args.self.now) c.args.disk.now (fails_to c.args.number c.args.request.now) (accepts c.args.number c.args.request.now c.in-Ok-Some.submitted) (seen c.open_again.new.self) c.open_again.new.disk _ _ c.in-Ok-false.ensures.done fault _ (c.in-Ok-false.ensures.usable ∙ c.in-Ok-false.field-0-test) c.in-Ok-false.ensures.still_stored stopped)
    (λ w at. ap (λ (o : Option (List ℕ × List (List ℕ))). submits c.args.number c.args.request.now o w) (sym c.in-Ok-Some.field-0-is ∙ c.in-Ok-Some.ensures))) c.tell-in-Ok-false.ensures.stopped

pub returns-clause-stopped : goal.returns-clause-stopped
returns-clause-stopped g c =
    stopped-same g.D.Disk _ (seen c.args.self.now) c.args.disk.now _ (submits c.args.number c.args.request.now (Some c.in-Ok-Some.submitted)) (submits c.args.number c.args.request.now (Asking.read_submit c.args.request.now.body))
    (opened-stopped g.D.Disk (seen c.args.self.now) c.args.disk.now (fails_to c.args.number c.args.request.now) (accepts c.args.number c.args.request.now c.in-Ok-Some.submitted) _ _ c.in-Err-open_again.ensures.stopped)
    (λ w at. ap (λ (o : Option (List ℕ × List (List ℕ))). submits c.args.number c.args.request.now o w) (sym c.in-Ok-Some.field-0-is ∙ c.in-Ok-Some.ensures))

pub returns-in-Err-clause-stopped : goal.returns-in-Err-clause-stopped
returns-in-Err-clause-stopped g c = stopped-still g.D.Disk NoMemory (seen c.args.self.now) c.args.disk.now _ tt (λ refused. absurd refused)

pub accept-requires-clause-body : goal.accept-requires-clause-body
accept-requires-clause-body g c = submitted-kept c.args.request.now.body c.in-Ok-Some.submitted c.requires.body (sym c.in-Ok-Some.field-0-is ∙ c.in-Ok-Some.ensures)

pub returns-in-Ok-true-clause-stays : goal.returns-in-Ok-true-clause-stays
returns-in-Ok-true-clause-stays g c =
    on-ok-map c.accept.result _ _
    (λ s. beside-then c.args.self.now.keeping.keeper.shelf c.open_again.new.self.keeping.keeper.shelf c.accept.new.self.keeping.keeper.shelf c.args.self.now.routing c.open_again.new.self.routing c.accept.new.self.routing c.in-Ok-true.ensures.stays s)
    c.accept.ensures.stays

pub returns-in-Ok-false-clause-stays : goal.returns-in-Ok-false-clause-stays
returns-in-Ok-false-clause-stays g c =
    on-ok-map c.tell-in-Ok-false.result _ _
    (λ s. beside-then c.args.self.now.keeping.keeper.shelf c.open_again.new.self.keeping.keeper.shelf c.tell-in-Ok-false.new.self.keeping.keeper.shelf c.args.self.now.routing c.open_again.new.self.routing c.tell-in-Ok-false.new.self.routing c.in-Ok-false.ensures.stays s)
    c.tell-in-Ok-false.ensures.stays
