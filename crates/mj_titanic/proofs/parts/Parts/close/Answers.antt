use Rattle.std.proofs.Common.{Bool, false, ap, refl, ◌∙◌}
use Rattle.mj_titanic.specs.Acting.{parts, seen, core_behind}
use Rattle.mj_titanic.proofs.Accepts.{if-err-map, on-ok-map}
use Rattle.mj_tickets.specs.declared.command.TicketCmd.TheVariants as cmds
use Rattle.mj_machine.specs.Acts.{quiet}
use Rattle.mj_machine.specs.DiskActs.{appending, routes}
use Rattle.mj_machine.specs.TitanicStep.{closed, fails_to}
use Rattle.mj_titanic.specs.Services.{closing}
use Rattle.mj_titanic.proofs.Following.{appending-are, first-stopped, open-is, then-done, then-failed, then-stopped}
use Rattle.mj_titanic.proofs.parts.Parts.close.Goals as goal

pub returns-in-Ok-true-clause-done : goal.returns-in-Ok-true-clause-done
returns-in-Ok-true-clause-done g c =
    let failed = fails_to c.args.number c.args.request.now in
    let done = routes (closed c.args.number c.args.request.now c.args.ticket) in
    let ready = open-is _ c.args.self.now.keeping.keeper.shelf c.requires.open in
    on-ok-map c.tell_closed.result _ _ (λ did.
    then-done g.D.Disk (seen c.args.self.now) c.args.disk.now (appending (cmds.Close c.args.ticket) quiet quiet) failed done (closing c.args.number c.args.request.now c.args.ticket) (λ v. refl) (λ v. refl)
    (appending-are g.D.Disk (seen c.args.self.now) c.args.disk.now failed done ready (cmds.Close c.args.ticket))
    _ (parts c.args.self.now.routing c.close_ticket.new.self) c.close_ticket.new.disk _ _ _ _ _
    (ap (λ (b : Bool). parts (core_behind b c.args.self.now.routing) c.close_ticket.new.self) c.in-Ok-true.field-0-test) (c.in-Ok-true.ensures.usable ∙ c.in-Ok-true.field-0-test) (c.in-Ok-true.ensures.done c.args.self.now.routing) did)
    c.tell_closed.ensures.done

pub returns-in-Ok-true-clause-stopped : goal.returns-in-Ok-true-clause-stopped
returns-in-Ok-true-clause-stopped g c =
    let failed = fails_to c.args.number c.args.request.now in
    let done = routes (closed c.args.number c.args.request.now c.args.ticket) in
    let ready = open-is _ c.args.self.now.keeping.keeper.shelf c.requires.open in
    if-err-map c.tell_closed.result _ _ (λ fault stopped.
    then-stopped g.D.Disk (seen c.args.self.now) c.args.disk.now (appending (cmds.Close c.args.ticket) quiet quiet) failed done (closing c.args.number c.args.request.now c.args.ticket) (λ v. refl) (λ v. refl)
    (appending-are g.D.Disk (seen c.args.self.now) c.args.disk.now failed done ready (cmds.Close c.args.ticket))
    _ (parts c.args.self.now.routing c.close_ticket.new.self) c.close_ticket.new.disk _ _ fault _
    (ap (λ (b : Bool). parts (core_behind b c.args.self.now.routing) c.close_ticket.new.self) c.in-Ok-true.field-0-test) (c.in-Ok-true.ensures.done c.args.self.now.routing) stopped)
    c.tell_closed.ensures.stopped

pub returns-in-Ok-false-clause-done : goal.returns-in-Ok-false-clause-done
returns-in-Ok-false-clause-done g c =
    let failed = fails_to c.args.number c.args.request.now in
    let done = routes (closed c.args.number c.args.request.now c.args.ticket) in
    let ready = open-is _ c.args.self.now.keeping.keeper.shelf c.requires.open in
    on-ok-map c.fail.result _ _ (λ did.
    then-failed g.D.Disk (seen c.args.self.now) c.args.disk.now (appending (cmds.Close c.args.ticket) quiet quiet) failed done (closing c.args.number c.args.request.now c.args.ticket) (λ v. refl) (λ v. refl)
    (appending-are g.D.Disk (seen c.args.self.now) c.args.disk.now failed done ready (cmds.Close c.args.ticket))
    _ (parts (core_behind false c.args.self.now.routing) c.close_ticket.new.self) c.close_ticket.new.disk _ _ _ _ _
    (ap (λ (b : Bool). parts (core_behind b c.args.self.now.routing) c.close_ticket.new.self) c.in-Ok-false.field-0-test) (c.in-Ok-false.ensures.usable ∙ c.in-Ok-false.field-0-test) c.in-Ok-false.ensures.stored (c.in-Ok-false.ensures.done c.args.self.now.routing) did)
    c.fail.ensures.done

pub returns-in-Ok-false-clause-stopped : goal.returns-in-Ok-false-clause-stopped
returns-in-Ok-false-clause-stopped g c =
    let failed = fails_to c.args.number c.args.request.now in
    let done = routes (closed c.args.number c.args.request.now c.args.ticket) in
    let ready = open-is _ c.args.self.now.keeping.keeper.shelf c.requires.open in
    if-err-map c.fail.result _ _ (λ fault stopped.
    then-stopped g.D.Disk (seen c.args.self.now) c.args.disk.now (appending (cmds.Close c.args.ticket) quiet quiet) failed done (closing c.args.number c.args.request.now c.args.ticket) (λ v. refl) (λ v. refl)
    (appending-are g.D.Disk (seen c.args.self.now) c.args.disk.now failed done ready (cmds.Close c.args.ticket))
    _ (parts (core_behind false c.args.self.now.routing) c.close_ticket.new.self) c.close_ticket.new.disk _ _ fault _
    (ap (λ (b : Bool). parts (core_behind b c.args.self.now.routing) c.close_ticket.new.self) c.in-Ok-false.field-0-test) (c.in-Ok-false.ensures.done c.args.self.now.routing) stopped)
    c.fail.ensures.stopped

pub returns-in-Err-clause-stopped : goal.returns-in-Err-clause-stopped
returns-in-Err-clause-stopped g c =
    let failed = fails_to c.args.number c.args.request.now in
    let done = routes (closed c.args.number c.args.request.now c.args.ticket) in
    let ready = open-is _ c.args.self.now.keeping.keeper.shelf c.requires.open in
    first-stopped g.D.Disk (seen c.args.self.now) c.args.disk.now (appending (cmds.Close c.args.ticket) quiet quiet) failed done (closing c.args.number c.args.request.now c.args.ticket) (λ v. refl) (λ v. refl)
    (appending-are g.D.Disk (seen c.args.self.now) c.args.disk.now failed done ready (cmds.Close c.args.ticket))
    _ _ (c.in-Err.ensures.stopped c.args.self.now.routing)

pub returns-in-Ok-true-clause-stays : goal.returns-in-Ok-true-clause-stays
returns-in-Ok-true-clause-stays g c = on-ok-map c.tell_closed.result _ _ (λ s. s (c.in-Ok-true.ensures.usable ∙ c.in-Ok-true.field-0-test) c.args.self.now.keeping.keeper.shelf) c.tell_closed.ensures.stays

pub returns-in-Ok-false-clause-stays : goal.returns-in-Ok-false-clause-stays
returns-in-Ok-false-clause-stays g c = on-ok-map c.fail.result _ _ (λ s. s c.args.self.now.keeping.keeper.shelf) c.fail.ensures.stays
