use Rattle.mj_tickets.proofs.ListingLemmas.{open_found, passes}
use Rattle.mj_tickets.proofs.entries.open_above.Goals as goal

pub returns-clause-exact : goal.returns-clause-exact
returns-clause-exact c = open_found c.args.after c.args.entries.now c.entries_above.result.now c.first_open.result c.entries_above.ensures c.first_open.ensures

pub returns-clause-open : goal.returns-clause-open
returns-clause-open c = passes _ c.entries_above.result.now c.first_open.result c.first_open.ensures
