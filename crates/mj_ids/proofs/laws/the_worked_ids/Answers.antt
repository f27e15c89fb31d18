use Rattle.std.proofs.Common.{refl}
use Rattle.mj_ids.proofs.OnLiterals.{ids_on_literals}
use Rattle.mj_ids.proofs.laws.the_worked_ids.Goals as goal

pub returns-clause-first : goal.returns-clause-first
unfolding ids_on_literals
returns-clause-first c = refl

pub returns-clause-second : goal.returns-clause-second
unfolding ids_on_literals
returns-clause-second c = refl
