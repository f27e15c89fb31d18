use Rattle.std.proofs.Common.{◌≢◌, ℕ, ap, sym, subst, ◌∙◌, refl, is_some}
use Rattle.mj_store.specs.Standing.{StoreValue}
use Rattle.std.proofs.Common.{None}
use Rattle.mj_store.specs.Bodies.{IsDamage}
use Rattle.mj_titanic.specs.declared.fault.ActFault.TheVariants.{NoMemory, Refused}
use Rattle.mj_keeper.specs.declared.keeper.Shelf.{Shelf}
use Rattle.mj_keeper.specs.declared.keeper.Shelf.TheVariants as shelves
use Rattle.mj_keeper.specs.Standing.{IsOpenWith}
use Rattle.mj_tickets.specs.Fold.{ticket_of}
use Rattle.mj_titanic.specs.Acting.{parts}
use Rattle.mj_titanic.proofs.Composing.{stopped-still}
use Rattle.mj_titanic.proofs.Attempts.{sound-failed, tells-none}
use Rattle.mj_titanic.proofs.Appends.{read-did, read-failed, read-stopped}
use Rattle.mj_titanic.proofs.Bodies.{body-is}
use Rattle.mj_titanic.proofs.acts.Keeping.read_open.Goals as goal

pub returns-in_default-checked_add-clause-stopped : goal.returns-in_default-checked_add-clause-stopped
returns-in_default-checked_add-clause-stopped g c = λ core. stopped-still g.D.Disk NoMemory (parts core c.args.self.now) c.args.disk.now _ tt (λ refused. absurd refused)

pub returns-in-Ok-clause-done : goal.returns-in-Ok-clause-done
returns-in-Ok-clause-done g c = λ core.
    read-did g.D.Disk (parts core c.args.self.now) c.in-Open.store c.args.disk.now c.body.new.disk c.in-Open.is c.body.ensures.crash c.body.ensures.count
    _ c.body.new.self _ _ (c.in-Some.ensures.1) (ap is_some c.body.ensures.told) refl refl (ap (λ (s : StoreValue). s.limits) c.in-Ok.ensures.same) c.in-Ok.ensures.kept refl

pub returns-in-Err-NoMemory-clause-stopped : goal.returns-in-Err-NoMemory-clause-stopped
returns-in-Err-NoMemory-clause-stopped g c = λ core.
    read-stopped g.D.Disk (parts core c.args.self.now) c.in-Open.store c.args.disk.now c.body.new.disk c.in-Open.is c.body.ensures.crash c.body.ensures.count NoMemory tt (λ refused. absurd refused)

pub returns-in-Ok-shut-clause-done : goal.returns-in-Ok-shut-clause-done
returns-in-Ok-shut-clause-done g c = λ core.
    let now = c.in-Ok-shut.ensures.keeper ∙ ap (λ (n : ℕ). record c.args.self.now.keeper { shelf = shelves.Shut n }) c.end-end.ensures.value in
    read-failed g.D.Disk (parts core c.args.self.now) c.in-Open.store c.args.disk.now c.body.new.disk c.in-Open.is c.body.ensures.crash c.body.ensures.count
    _ _ _ (c.in-Ok-shut.ensures.acts ∙ c.in-Some.ensures.1) (ap is_some c.body.ensures.told) refl now (c.in-Err-DiskFault.ensures.doubt (cc)) (c.in-Err-DiskFault.ensures.cause (cc)) c.in-Ok-shut.ensures.note

pub returns-in-Ok-shut-clause-sound : goal.returns-in-Ok-shut-clause-sound
returns-in-Ok-shut-clause-sound g c =
    let now = c.in-Ok-shut.ensures.keeper ∙ ap (λ (n : ℕ). record c.args.self.now.keeper { shelf = shelves.Shut n }) c.end-end.ensures.value in
    sound-failed g.D.Disk c.args.self.now.keeper c.shut.new.self.keeper c.in-Open.store c.args.disk.now c.body.new.disk c.in-Open.is c.requires.sound None now (c.in-Err-DiskFault.ensures.doubt (cc))

pub returns-in-Err-clause-stopped : goal.returns-in-Err-clause-stopped
returns-in-Err-clause-stopped g c = λ core.
    read-stopped g.D.Disk (parts core c.args.self.now) c.in-Open.store c.args.disk.now c.body.new.disk c.in-Open.is c.body.ensures.crash c.body.ensures.count NoMemory tt (λ refused. absurd refused)

pub returns-in-Ok-clause-body : goal.returns-in-Ok-clause-body
returns-in-Ok-clause-body g c = body-is g.D.Disk c.args.number c.args.self.now.keeper c.in-Open.store c.args.disk.now c.in-Ok.frames c.in-Open.is (subst (λ (s : Shelf). IsOpenWith (λ (held : StoreValue). ticket_of c.args.number held.index ≢ None) s) c.in-Open.is c.requires.open) c.in-Ok.ensures.body

pub returns-in-Err-Damaged-clause-stopped : goal.returns-in-Err-Damaged-clause-stopped
returns-in-Err-Damaged-clause-stopped g c = λ core.
    let none = c.in-Err-Damaged.ensures.whole (subst IsDamage (sym c.in-Err-Damaged.field-0-is) tt) in
    read-stopped g.D.Disk (parts core c.args.self.now) c.in-Open.store c.args.disk.now c.body.new.disk c.in-Open.is c.body.ensures.crash c.body.ensures.count (Refused _) tt (λ refused. tells-none (g.D.Disk.told c.args.disk.now) none)
