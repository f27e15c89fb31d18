use Rattle.mj_titanic.proofs.OnwardLemmas.{dropped-onward, from-open, same-onward}
use Rattle.std.proofs.Common.{Bool, true, false, ap, refl, sym, ◌∙◌}
use Rattle.mj_tickets.specs.declared.command.TicketCmd.TheVariants as cmds
use Rattle.mj_machine.specs.Acts.{quiet}
use Rattle.mj_machine.specs.DiskActs.{appending}
use Rattle.mj_titanic.specs.Acting.{core_behind, parts, seen}
use Rattle.mj_titanic.specs.Services.{stores_now}
use Rattle.mj_titanic.proofs.Composing.{did-nothing, did-to}
use Rattle.mj_titanic.proofs.Rowing.{did-around, did-same, stopped-same}
use Rattle.mj_titanic.proofs.Routed.{parts-same}
use Rattle.mj_titanic.proofs.Known.{stores-are}
use Rattle.mj_titanic.proofs.parts.Parts.store_now.Goals as goal

pub returns-then-not-is_pending-clause-done : goal.returns-then-not-is_pending-clause-done
returns-then-not-is_pending-clause-done g c =
    did-same g.D.Disk (seen c.args.self.now) c.args.disk.now _ _ _ _ quiet (stores_now c.args.ticket c.args.body.now) (did-around g.D.Disk (seen c.args.self.now) c.args.disk.now _ _ _ _ quiet (did-nothing g.D.Disk (seen c.args.self.now) c.args.disk.now c.args.outs.now.items))
    (stores-are g.D.Disk (seen c.args.self.now) c.in-Open.store c.args.disk.now c.in-Open.is c.args.ticket c.args.body.now false (sym c.is_pending.ensures ∙ c.if-not-is_pending.true))

pub returns-in-Ok-true-clause-done : goal.returns-in-Ok-true-clause-done
returns-in-Ok-true-clause-done g c =
    did-same g.D.Disk (seen c.args.self.now) c.args.disk.now _ _ _ _ (appending (cmds.Store c.args.ticket c.args.body.now) quiet quiet) (stores_now c.args.ticket c.args.body.now)
    (did-to g.D.Disk (seen c.args.self.now) c.args.disk.now _ (parts c.args.self.now.routing c.store_reply.new.self) c.store_reply.new.disk _ _ _ _ (ap (λ (b : Bool). parts (core_behind b c.args.self.now.routing) c.store_reply.new.self) c.in-Ok-true.field-0-test) (c.in-Ok-true.ensures.done c.args.self.now.routing))
    (stores-are g.D.Disk (seen c.args.self.now) c.in-Open.store c.args.disk.now c.in-Open.is c.args.ticket c.args.body.now true (sym c.is_pending.ensures ∙ c.if-not-is_pending.false))

pub returns-in-Ok-false-clause-done : goal.returns-in-Ok-false-clause-done
returns-in-Ok-false-clause-done g c =
    did-same g.D.Disk (seen c.args.self.now) c.args.disk.now _ _ _ _ (appending (cmds.Store c.args.ticket c.args.body.now) quiet quiet) (stores_now c.args.ticket c.args.body.now)
    (did-to g.D.Disk (seen c.args.self.now) c.args.disk.now _ _ c.store_reply.new.disk _ _ _ _ (ap (λ (b : Bool). parts (core_behind b c.args.self.now.routing) c.store_reply.new.self) c.in-Ok-false.field-0-test ∙ parts-same _ _ c.store_reply.new.self c.store_reply.new.self (sym c.drop_tickets.ensures) refl) (c.in-Ok-false.ensures.done c.args.self.now.routing))
    (stores-are g.D.Disk (seen c.args.self.now) c.in-Open.store c.args.disk.now c.in-Open.is c.args.ticket c.args.body.now true (sym c.is_pending.ensures ∙ c.if-not-is_pending.false))

pub returns-in-Err-clause-stopped : goal.returns-in-Err-clause-stopped
returns-in-Err-clause-stopped g c =
    stopped-same g.D.Disk _ (seen c.args.self.now) c.args.disk.now _ (appending (cmds.Store c.args.ticket c.args.body.now) quiet quiet) (stores_now c.args.ticket c.args.body.now) (c.in-Err.ensures.stopped c.args.self.now.routing)
    (stores-are g.D.Disk (seen c.args.self.now) c.in-Open.store c.args.disk.now c.in-Open.is c.args.ticket c.args.body.now true (sym c.is_pending.ensures ∙ c.if-not-is_pending.false))

pub returns-then-not-is_pending-clause-stays : goal.returns-then-not-is_pending-clause-stays
returns-then-not-is_pending-clause-stays g c = same-onward c.args.self.now.keeping.keeper.shelf c.args.self.now.routing

pub returns-in-Ok-true-clause-stays : goal.returns-in-Ok-true-clause-stays
returns-in-Ok-true-clause-stays g c =
    from-open c.store_reply.new.self.keeper.shelf c.store_reply.new.self.keeper.shelf c.args.self.now.routing c.args.self.now.routing (c.in-Ok-true.ensures.usable ∙ c.in-Ok-true.field-0-test) (same-onward c.store_reply.new.self.keeper.shelf c.args.self.now.routing) c.args.self.now.keeping.keeper.shelf

pub returns-in-Ok-false-clause-stays : goal.returns-in-Ok-false-clause-stays
returns-in-Ok-false-clause-stays g c = dropped-onward c.args.self.now.keeping.keeper.shelf c.store_reply.new.self.keeper.shelf c.args.self.now.routing c.drop_tickets.new.self c.drop_tickets.ensures
