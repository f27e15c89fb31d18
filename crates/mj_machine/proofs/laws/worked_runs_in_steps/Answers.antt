use Rattle.mj_machine.proofs.WorkedStepLemmas.{run_is_in_steps, ticket_is_given_back_in_steps}
use Rattle.mj_machine.proofs.laws.worked_runs_in_steps.Goals as goal

pub returns : goal.returns
returns c = record { requests = run_is_in_steps; ticket = ticket_is_given_back_in_steps }
