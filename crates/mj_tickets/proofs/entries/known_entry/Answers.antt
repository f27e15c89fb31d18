use Rattle.std.proofs.Common.{sym, ◌∙◌}
use Rattle.mj_tickets.proofs.KeptLemmas.{known_here, known_other, known_none}
use Rattle.mj_tickets.proofs.entries.known_entry.Goals as goal

pub returns-in_err-entry : goal.returns-in_err-entry
returns-in_err-entry c = rw c.from_residual.ensures (known_none c.number.result c.args.entries.now c.args.id.now c.requires c.number.ensures.value c.in_err-entry.ensures.exact)

pub returns-then-eq : goal.returns-then-eq
returns-then-eq c = known_here c.number.result c.args.entries.now c.args.id.now c.in_ok-entry.entry.now c.requires c.number.ensures.value c.in_ok-entry.ensures.exact (sym c.eq.ensures ∙ c.if-eq.true)

pub returns-else-eq : goal.returns-else-eq
returns-else-eq c = known_other c.number.result c.args.entries.now c.args.id.now c.in_ok-entry.entry.now c.requires c.number.ensures.value c.in_ok-entry.ensures.exact (sym c.eq.ensures ∙ c.if-eq.false)
