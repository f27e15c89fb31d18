use Rattle.mj_machine.proofs.RunLemmas.{run_outs-append, run_state-append}
use Rattle.mj_machine.proofs.StepLemmas.{run_steps-append}
use Rattle.mj_machine.proofs.laws.a_run_is_its_front_and_its_rest.Goals as goal

pub returns : goal.returns
returns c = record { state = run_state-append; outs = run_outs-append; steps = run_steps-append }
