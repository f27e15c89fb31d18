use Rattle.mj_routing.proofs.PlainLemmas.{beside-then}
use Rattle.std.proofs.Common.{◌∙◌}
use Rattle.mj_machine.specs.Acts.{quiet}
use Rattle.mj_titanic.specs.Acting.{seen}
use Rattle.mj_titanic.specs.Services.{stores_now}
use Rattle.mj_titanic.proofs.Accepts.{if-err-map, on-ok-map}
use Rattle.mj_titanic.proofs.Composing.{did-nothing}
use Rattle.mj_titanic.proofs.Rowing.{opened-stopped}
use Rattle.mj_titanic.proofs.Following.{again-done, again-done-stopped, again-failed}
use Rattle.mj_titanic.proofs.parts.Parts.keep_reply.Goals as goal

pub returns-in-Ok-true-clause-done : goal.returns-in-Ok-true-clause-done
returns-in-Ok-true-clause-done g c =
    on-ok-map c.store_now.result _ _ (λ did.
    again-done g.D.Disk (seen c.args.self.now) c.args.disk.now quiet (stores_now c.args.ticket c.args.body.now) (seen c.open_again.new.self) c.open_again.new.disk _ _ c.in-Ok-true.ensures.done _ _ _ (c.in-Ok-true.ensures.usable ∙ c.in-Ok-true.field-0-test) did) c.store_now.ensures.done

pub returns-in-Ok-true-clause-stopped : goal.returns-in-Ok-true-clause-stopped
returns-in-Ok-true-clause-stopped g c =
    if-err-map c.store_now.result _ _ (λ fault stopped.
    again-done-stopped g.D.Disk (seen c.args.self.now) c.args.disk.now quiet (stores_now c.args.ticket c.args.body.now) (seen c.open_again.new.self) c.open_again.new.disk _ _ c.in-Ok-true.ensures.done fault _ (c.in-Ok-true.ensures.usable ∙ c.in-Ok-true.field-0-test) stopped) c.store_now.ensures.stopped

pub returns-in-Ok-false-clause-done : goal.returns-in-Ok-false-clause-done
returns-in-Ok-false-clause-done g c =
    again-failed g.D.Disk (seen c.args.self.now) c.args.disk.now quiet (stores_now c.args.ticket c.args.body.now) (seen c.open_again.new.self) c.open_again.new.disk _ _ c.in-Ok-false.ensures.done _ _ _ (c.in-Ok-false.ensures.usable ∙ c.in-Ok-false.field-0-test) c.in-Ok-false.ensures.still_stored
    (did-nothing g.D.Disk (seen c.open_again.new.self) c.open_again.new.disk _)

pub returns-in-Err-clause-stopped : goal.returns-in-Err-clause-stopped
returns-in-Err-clause-stopped g c = opened-stopped g.D.Disk (seen c.args.self.now) c.args.disk.now quiet (stores_now c.args.ticket c.args.body.now) _ _ c.in-Err.ensures.stopped

pub returns-in-Ok-true-clause-stays : goal.returns-in-Ok-true-clause-stays
returns-in-Ok-true-clause-stays g c =
    on-ok-map c.store_now.result _ _
    (λ s. beside-then c.args.self.now.keeping.keeper.shelf c.open_again.new.self.keeping.keeper.shelf c.store_now.new.self.keeping.keeper.shelf c.args.self.now.routing c.open_again.new.self.routing c.store_now.new.self.routing c.in-Ok-true.ensures.stays s)
    c.store_now.ensures.stays
