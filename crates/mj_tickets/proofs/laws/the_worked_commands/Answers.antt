use Rattle.std.proofs.Common.{refl}
use Rattle.mj_tickets.proofs.OnLiterals.{tickets_on_literals}
use Rattle.mj_tickets.proofs.laws.the_worked_commands.Goals as goal

pub returns-clause-accept : goal.returns-clause-accept
unfolding tickets_on_literals
returns-clause-accept c = refl

pub returns-clause-store : goal.returns-clause-store
unfolding tickets_on_literals
returns-clause-store c = refl

pub returns-clause-close : goal.returns-clause-close
unfolding tickets_on_literals
returns-clause-close c = refl

pub returns-clause-tickets : goal.returns-clause-tickets
unfolding tickets_on_literals
returns-clause-tickets c = (refl, refl, refl, refl, refl, refl)

pub returns-clause-kept : goal.returns-clause-kept
unfolding tickets_on_literals
returns-clause-kept c = (refl, refl, refl)

pub returns-clause-refused : goal.returns-clause-refused
unfolding tickets_on_literals
returns-clause-refused c = (refl, refl, refl, refl, refl, refl)
