use Rattle.std.proofs.Common.{sym, ◌∙◌}
use Rattle.mj_tickets.proofs.EntryLemmas.{none_at_end, none_here, closed_here, open_at}
use Rattle.mj_tickets.proofs.entries.open_place.Goals as goal
use Rattle.mj_tickets.proofs.entries.open_place.Goals.{else-number_of-number-via-then-number_of-number+else-is_open, else-number_of-number-via-else-number_of-number}

pub returns-in_err-entry-clause-none : goal.returns-in_err-entry-clause-none
returns-in_err-entry-clause-none c = rw c.from_residual.ensures (none_at_end c.args.number c.args.entries.now c.first_from-at.result c.first_from-at.ensures c.in_err-entry.ensures)

pub returns-then-is_open-clause-found : goal.returns-then-is_open-clause-found
returns-then-is_open-clause-found c =
    open_at c.args.number c.args.entries.now c.first_from-at.result c.in_ok-entry.entry.now c.first_from-at.ensures c.requires c.in_ok-entry.ensures
    (sym c.number_of.ensures ∙ c.if-number_of-number.true) (sym c.is_open.ensures ∙ c.if-is_open.true)

pub returns-else-number_of-number-clause-none : goal.returns-else-number_of-number-clause-none
returns-else-number_of-number-clause-none c =
    elim c.else-number_of-number.branch [
      | else-number_of-number-via-then-number_of-number+else-is_open w ↦
          closed_here c.args.number c.args.entries.now c.first_from-at.result c.in_ok-entry.entry.now c.first_from-at.ensures c.requires c.in_ok-entry.ensures.1
          (sym c.number_of.ensures ∙ w.if-number_of-number.true) (sym w.is_open.ensures ∙ w.if-is_open.false)
      | else-number_of-number-via-else-number_of-number w ↦
          none_here c.args.number c.args.entries.now c.first_from-at.result c.in_ok-entry.entry.now c.first_from-at.ensures c.requires c.in_ok-entry.ensures.1
          (λ is. w.if-number_of-number.false (c.number_of.ensures ∙ is))
    ]
