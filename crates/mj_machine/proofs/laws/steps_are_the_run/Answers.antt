use Rattle.mj_machine.proofs.StepLemmas.{steps-lead, steps-do}
use Rattle.mj_machine.proofs.laws.steps_are_the_run.Goals as goal

pub returns : goal.returns
returns c = record { lead = steps-lead; outs = steps-do }
