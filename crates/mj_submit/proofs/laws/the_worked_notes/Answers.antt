use Rattle.std.proofs.Common.{refl}
use Rattle.mj_submit.proofs.OnLiterals.{runs_on_literals}
use Rattle.mj_submit.proofs.laws.the_worked_notes.Goals as goal

pub returns-clause-payloads : goal.returns-clause-payloads
unfolding runs_on_literals
returns-clause-payloads c = (refl, refl, refl, refl, refl, refl)

pub returns-clause-lawful : goal.returns-clause-lawful
unfolding runs_on_literals
returns-clause-lawful c = (refl, refl, refl, refl)

pub returns-clause-unlawful : goal.returns-clause-unlawful
unfolding runs_on_literals
returns-clause-unlawful c = (refl, refl, refl, refl, refl, refl, refl, refl, refl, refl, refl)

pub returns-clause-sizes : goal.returns-clause-sizes
unfolding runs_on_literals
returns-clause-sizes c = (refl, refl)
