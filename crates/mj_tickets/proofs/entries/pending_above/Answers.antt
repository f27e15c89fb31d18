use Rattle.mj_tickets.proofs.ListingLemmas.{pending_found, passes}
use Rattle.mj_tickets.proofs.entries.pending_above.Goals as goal

pub returns-clause-exact : goal.returns-clause-exact
returns-clause-exact c = pending_found c.args.after c.args.entries.now c.entries_above.result.now c.first_pending.result c.entries_above.ensures c.first_pending.ensures

pub returns-clause-pending : goal.returns-clause-pending
returns-clause-pending c = passes _ c.entries_above.result.now c.first_pending.result c.first_pending.ensures
