use Rattle.std.proofs.Common.{sym, ◌∙◌}
use Rattle.mj_tickets.proofs.KeptLemmas.{pending_found, stored_found}
use Rattle.mj_tickets.proofs.entries.pending_place.Goals as goal

pub returns-then-is_pending-clause-found : goal.returns-then-is_pending-clause-found
returns-then-is_pending-clause-found c =
    pending_found c.args.number c.args.entries.now c.in_ok-at.at c.in_ok-entry.entry.now c.in_ok-at.ensures.found c.in_ok-entry.ensures (sym c.is_pending.ensures ∙ c.if-is_pending.true)

pub returns-else-is_pending-clause-none : goal.returns-else-is_pending-clause-none
returns-else-is_pending-clause-none c =
    stored_found c.args.number c.args.entries.now c.in_ok-at.at c.in_ok-entry.entry.now c.in_ok-at.ensures.found c.in_ok-entry.ensures (sym c.is_pending.ensures ∙ c.if-is_pending.false)
