use Rattle.mj_tickets.proofs.EntryLemmas.{entry_shown, shown_open}
use Rattle.mj_tickets.proofs.entries.open_entry.Goals as goal

pub returns-clause-exact : goal.returns-clause-exact
returns-clause-exact c = entry_shown c.args.number c.args.entries.now c.in_ok-at.at c.entry_at.result c.in_ok-at.ensures.found c.entry_at.ensures

pub returns-clause-open : goal.returns-clause-open
returns-clause-open c = shown_open c.args.number c.args.entries.now c.in_ok-at.at c.entry_at.result c.in_ok-at.ensures.found c.entry_at.ensures
