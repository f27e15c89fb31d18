use Rattle.mj_tickets.proofs.FoldLemmas.{accepts_by_base}
use Rattle.mj_tickets.proofs.laws.accepts_follow_the_base.Goals as goal

pub returns : goal.returns
returns c = accepts_by_base
