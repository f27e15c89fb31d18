use Rattle.std.proofs.Common.{ap, sym, subst, ◌∙◌}
use Rattle.mj_store.specs.Opening.{IsRefusal}
use Rattle.mj_machine.specs.MachineState.{State}
use Rattle.mj_titanic.specs.declared.fault.ActFault.TheVariants.{NoMemory, Refused}
use Rattle.mj_keeper.specs.declared.keeper.Keeper.{Keeper}
use Rattle.mj_keeper.specs.declared.keeper.Shelf.{Shelf}
use Rattle.mj_titanic.specs.Acting.{parts}
use Rattle.mj_titanic.specs.Reopening.{core_opened, core_reopened}
use Rattle.mj_titanic.proofs.Composing.{stopped-still}
use Rattle.mj_titanic.proofs.Openings.{opening-did, opening-failed, opening-open, opening-stopped, refused-silent, sound-opened}
use Rattle.mj_titanic.proofs.acts.Keeping.open_again.Goals as goal

pub returns-in-Open-clause-done : goal.returns-in-Open-clause-done
returns-in-Open-clause-done g c = λ core.
    opening-open g.D.Disk (parts core c.args.self.now) _ c.in-Open._store c.args.disk.now c.args.outs.now.items c.in-Open.is
    (ap (λ (s : State). parts s c.args.self.now) (ap (λ (s : Shelf). core_reopened s c.args.self.now.keeper.shelf core) c.in-Open.is))

pub returns-in_default-clause-stopped : goal.returns-in_default-clause-stopped
returns-in_default-clause-stopped g c = λ core. stopped-still g.D.Disk NoMemory (parts core c.args.self.now) c.args.disk.now _ tt (λ refused. absurd refused)

pub returns-in-Ok-opened-clause-done : goal.returns-in-Ok-opened-clause-done
returns-in-Ok-opened-clause-done g c = λ core.
    let behind = ap (λ (s : Shelf). core_reopened s c.opened.new.self.keeper.shelf core) c.in-Shut.is ∙ ap (λ (k : Keeper). core_opened k.shelf core) c.in-Ok-opened.ensures.keeper in
    opening-did g.D.Disk (parts core c.args.self.now) c.in-Shut.end c.args.disk.now c.open.new.disk c.in-Shut.is _ (c.in-Ok-opened.ensures.acts ∙ c.in-Some.ensures.1) c.open.ensures.telling
    c.in-Ok.store behind c.in-Ok-opened.ensures.keeper c.in-Ok.ensures.limits c.in-Ok.ensures.found _ _ c.open.ensures.crash_again c.open.ensures.count c.in-Ok-opened.ensures.note

pub returns-in-Ok-opened-clause-sound : goal.returns-in-Ok-opened-clause-sound
returns-in-Ok-opened-clause-sound g c =
    sound-opened g.D.Disk c.args.self.now.keeper c.in-Shut.end c.args.disk.now c.in-Shut.is c.requires.sound _ c.in-Ok.store c.open.new.disk c.in-Ok-opened.ensures.keeper c.in-Ok.ensures.limits c.in-Ok.ensures.held

pub returns-in-Err-clause-stopped : goal.returns-in-Err-clause-stopped
returns-in-Err-clause-stopped g c = λ core.
    opening-stopped g.D.Disk (parts core c.args.self.now) c.in-Shut.end c.args.disk.now c.open.new.disk c.in-Shut.is c.open.ensures.crash_again c.open.ensures.count NoMemory tt (λ refused. absurd refused)

pub returns-in-Err-NotAStore-clause-stopped : goal.returns-in-Err-NotAStore-clause-stopped
returns-in-Err-NotAStore-clause-stopped g c = λ core.
    let none = refused-silent g.D.Disk c.args.self.now.keeper c.in-Shut.end c.args.disk.now c.in-Shut.is c.requires.sound _ (subst IsRefusal (sym c.in-Err-NotAStore.field-0-is) tt) c.in-Err-NotAStore.ensures.refused in
    opening-stopped g.D.Disk (parts core c.args.self.now) c.in-Shut.end c.args.disk.now c.open.new.disk c.in-Shut.is c.open.ensures.crash_again c.open.ensures.count (Refused _) tt (λ refused. none)

pub returns-in-Err-Version-clause-stopped : goal.returns-in-Err-Version-clause-stopped
returns-in-Err-Version-clause-stopped g c = λ core.
    let none = refused-silent g.D.Disk c.args.self.now.keeper c.in-Shut.end c.args.disk.now c.in-Shut.is c.requires.sound _ (subst IsRefusal (sym c.in-Err-Version.field-0-is) tt) c.in-Err-Version.ensures.refused in
    opening-stopped g.D.Disk (parts core c.args.self.now) c.in-Shut.end c.args.disk.now c.open.new.disk c.in-Shut.is c.open.ensures.crash_again c.open.ensures.count (Refused _) tt (λ refused. none)

pub returns-in-Err-Damaged-clause-stopped : goal.returns-in-Err-Damaged-clause-stopped
returns-in-Err-Damaged-clause-stopped g c = λ core.
    let none = refused-silent g.D.Disk c.args.self.now.keeper c.in-Shut.end c.args.disk.now c.in-Shut.is c.requires.sound _ (subst IsRefusal (sym c.in-Err-Damaged.field-0-is) tt) c.in-Err-Damaged.ensures.refused in
    opening-stopped g.D.Disk (parts core c.args.self.now) c.in-Shut.end c.args.disk.now c.open.new.disk c.in-Shut.is c.open.ensures.crash_again c.open.ensures.count (Refused _) tt (λ refused. none)

pub returns-in-Err-NoMemory-clause-stopped : goal.returns-in-Err-NoMemory-clause-stopped
returns-in-Err-NoMemory-clause-stopped g c = λ core.
    opening-stopped g.D.Disk (parts core c.args.self.now) c.in-Shut.end c.args.disk.now c.open.new.disk c.in-Shut.is c.open.ensures.crash_again c.open.ensures.count NoMemory tt (λ refused. absurd refused)

pub returns-in-Ok-shut-clause-done : goal.returns-in-Ok-shut-clause-done
returns-in-Ok-shut-clause-done g c = λ core.
    let behind = ap (λ (s : Shelf). core_reopened s c.shut.new.self.keeper.shelf core) c.in-Shut.is ∙ ap (λ (k : Keeper). core_opened k.shelf core) c.in-Ok-shut.ensures.keeper in
    opening-failed g.D.Disk (parts core c.args.self.now) c.in-Shut.end c.args.disk.now c.open.new.disk c.in-Shut.is _ (c.in-Ok-shut.ensures.acts ∙ c.in-Some.ensures.1) c.open.ensures.telling
    behind c.in-Ok-shut.ensures.keeper (c.in-Err-DiskFault.ensures.still (cc)) _ _ c.open.ensures.crash_again c.open.ensures.count (c.in-Err-DiskFault.ensures.cause (cc)) c.in-Ok-shut.ensures.note

pub returns-in-Err-shut-clause-stopped : goal.returns-in-Err-shut-clause-stopped
returns-in-Err-shut-clause-stopped g c = λ core.
    opening-stopped g.D.Disk (parts core c.args.self.now) c.in-Shut.end c.args.disk.now c.open.new.disk c.in-Shut.is c.open.ensures.crash_again c.open.ensures.count NoMemory tt (λ refused. absurd refused)
