use Rattle.mj_ids.proofs.NumberLemmas.{apart}
use Rattle.mj_ids.proofs.TextLemmas.{one_id}
use Rattle.mj_ids.proofs.laws.ids_of_tickets_are_told_apart.Goals as goal

pub returns-clause-numbers : goal.returns-clause-numbers
returns-clause-numbers c = apart

pub returns-clause-texts : goal.returns-clause-texts
returns-clause-texts c = one_id
