use Rattle.std.proofs.Common.{refl}
use Rattle.mj_submit.proofs.OnLiterals.{runs_on_literals}
use Rattle.mj_submit.proofs.laws.the_worked_submissions.Goals as goal

pub returns-clause-submitted : goal.returns-clause-submitted
unfolding runs_on_literals
returns-clause-submitted c = refl

pub returns-clause-fetched : goal.returns-clause-fetched
unfolding runs_on_literals
returns-clause-fetched c = refl

pub returns-clause-closed : goal.returns-clause-closed
unfolding runs_on_literals
returns-clause-closed c = refl

pub returns-clause-skipped : goal.returns-clause-skipped
unfolding runs_on_literals
returns-clause-skipped c = refl

pub returns-clause-waits : goal.returns-clause-waits
unfolding runs_on_literals
returns-clause-waits c = refl

pub returns-clause-polls : goal.returns-clause-polls
unfolding runs_on_literals
returns-clause-polls c = refl

pub returns-clause-refused : goal.returns-clause-refused
unfolding runs_on_literals
returns-clause-refused c = refl

pub returns-clause-unanswered : goal.returns-clause-unanswered
unfolding runs_on_literals
returns-clause-unanswered c = refl
