use Rattle.mj_tickets.proofs.EntryLemmas.{rest_at}
use Rattle.mj_tickets.proofs.entries.entry_at.Goals as goal

pub returns : goal.returns
returns c = rest_at c.read_at.result c.args.entries.now c.args.at c.read_at.ensures
