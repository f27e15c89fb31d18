use Rattle.std.proofs.Common.{ℕ, ap, ◌∙◌, refl}
use Rattle.std.proofs.Common.{Some}
use Rattle.mj_tickets.specs.declared.command.TicketCmd.TheVariants as cmds
use Rattle.mj_titanic.specs.declared.fault.ActFault.TheVariants.{NoMemory}
use Rattle.mj_keeper.specs.declared.keeper.Shelf.TheVariants as shelves
use Rattle.mj_titanic.specs.Acting.{parts}
use Rattle.mj_titanic.proofs.Composing.{stopped-still}
use Rattle.mj_titanic.proofs.Attempts.{sound-done, sound-failed}
use Rattle.mj_titanic.proofs.Appends.{append-did, append-failed, append-stopped}
use Rattle.mj_titanic.proofs.acts.Keeping.close_ticket.Goals as goal

pub returns-in_default-checked_add-clause-stopped : goal.returns-in_default-checked_add-clause-stopped
returns-in_default-checked_add-clause-stopped g c = λ core. stopped-still g.D.Disk NoMemory (parts core c.args.self.now) c.args.disk.now _ tt (λ refused. absurd refused)

pub returns-in-Ok-clause-done : goal.returns-in-Ok-clause-done
returns-in-Ok-clause-done g c = λ core.
    append-did g.D.Disk (cmds.Close c.args.number) (parts core c.args.self.now) c.in-Open.store c.args.disk.now c.close.new.disk c.in-Open.is c.close.ensures.crash c.close.ensures.count
    _ c.close.new.self _ _ (c.in-Some.ensures.1) c.close.ensures.telling refl refl c.close.ensures.limits c.in-Ok.ensures.added refl

pub returns-in-Ok-clause-sound : goal.returns-in-Ok-clause-sound
returns-in-Ok-clause-sound g c =
    sound-done g.D.Disk c.args.self.now.keeper _ c.in-Open.store c.args.disk.now c.close.new.disk c.in-Open.is c.requires.sound c.close.new.self refl c.close.ensures.limits c.in-Ok.ensures.held

pub returns-in-Err-NoMemory-clause-stopped : goal.returns-in-Err-NoMemory-clause-stopped
returns-in-Err-NoMemory-clause-stopped g c = λ core.
    append-stopped g.D.Disk (cmds.Close c.args.number) (parts core c.args.self.now) c.in-Open.store c.args.disk.now c.close.new.disk c.in-Open.is c.close.ensures.crash c.close.ensures.count NoMemory tt (λ refused. absurd refused)

pub returns-in-Ok-shut-clause-done : goal.returns-in-Ok-shut-clause-done
returns-in-Ok-shut-clause-done g c = λ core.
    let now = c.in-Ok-shut.ensures.keeper ∙ ap (λ (n : ℕ). record c.args.self.now.keeper { shelf = shelves.Shut n }) c.end-end.ensures.value in
    append-failed g.D.Disk (cmds.Close c.args.number) (parts core c.args.self.now) c.in-Open.store c.args.disk.now c.close.new.disk c.in-Open.is c.close.ensures.crash c.close.ensures.count
    _ _ _ (c.in-Ok-shut.ensures.acts ∙ c.in-Some.ensures.1) c.close.ensures.telling refl now (c.in-Err-DiskFault.ensures.doubt (cc)) (c.in-Err-DiskFault.ensures.cause (cc)) c.in-Ok-shut.ensures.note

pub returns-in-Ok-shut-clause-sound : goal.returns-in-Ok-shut-clause-sound
returns-in-Ok-shut-clause-sound g c =
    let now = c.in-Ok-shut.ensures.keeper ∙ ap (λ (n : ℕ). record c.args.self.now.keeper { shelf = shelves.Shut n }) c.end-end.ensures.value in
    sound-failed g.D.Disk c.args.self.now.keeper c.shut.new.self.keeper c.in-Open.store c.args.disk.now c.close.new.disk c.in-Open.is c.requires.sound (Some (cmds.Close c.args.number)) now (c.in-Err-DiskFault.ensures.doubt (cc))

pub returns-in-Err-clause-stopped : goal.returns-in-Err-clause-stopped
returns-in-Err-clause-stopped g c = λ core.
    append-stopped g.D.Disk (cmds.Close c.args.number) (parts core c.args.self.now) c.in-Open.store c.args.disk.now c.close.new.disk c.in-Open.is c.close.ensures.crash c.close.ensures.count NoMemory tt (λ refused. absurd refused)
