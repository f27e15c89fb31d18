use Rattle.mj_tickets.proofs.FoldLemmas.{fold_numbered, fold_apart, fold_few, one_of_number}
use Rattle.mj_tickets.proofs.laws.open_tickets_are_numbered.Goals as goal

pub returns-clause-numbered : goal.returns-clause-numbered
returns-clause-numbered c = fold_numbered

pub returns-clause-apart : goal.returns-clause-apart
returns-clause-apart c = fold_apart

pub returns-clause-few : goal.returns-clause-few
returns-clause-few c = fold_few

pub returns-clause-one : goal.returns-clause-one
returns-clause-one c = one_of_number
