-- The worked run in its single acts, computed.
use Rattle.std.proofs.Common.{refl}
use Rattle.mj_machine.proofs.OnLiterals.{runs_on_literals}
use Rattle.mj_machine.specs.WorkedSteps.{RunIsInSteps, TicketIsGivenBackInSteps}

pub run_is_in_steps : RunIsInSteps
unfolding runs_on_literals
run_is_in_steps = refl

pub ticket_is_given_back_in_steps : TicketIsGivenBackInSteps
unfolding runs_on_literals
ticket_is_given_back_in_steps = refl
