-- Laws of runs.
use Rattle.std.specs.Prelude.{◌≡◌, List, ◌++◌}
use Rattle.mj_base.specs.declared.limits.Limits.{Limits}
use Rattle.mj_machine.specs.MachineState.{Machine, between}
use Rattle.mj_machine.specs.EventStep.{Noted}
use Rattle.mj_machine.specs.MachineRun.{run_outs, run_state}
use Rattle.mj_machine.specs.Steps.{IsChain, outs_in, run_steps}

-- the machine after two lists of events, and what it does at them
abbrev pub FrontAndRestState : Type 0
FrontAndRestState = (limits : Limits) (m : Machine) (front rest : List Noted)
    → run_state limits m (front ++ rest) ≡ run_state limits (run_state limits m front) rest

abbrev pub FrontAndRestOuts : Type 0
FrontAndRestOuts = (limits : Limits) (m : Machine) (front rest : List Noted)
    → run_outs limits m (front ++ rest) ≡ run_outs limits m front ++ run_outs limits (run_state limits m front) rest

abbrev pub FrontAndRestSteps : Type 0
FrontAndRestSteps = (limits : Limits) (m : Machine) (front rest : List Noted)
    → run_steps limits m (front ++ rest) ≡ run_steps limits m front ++ run_steps limits (run_state limits m front) rest

-- the steps lead from the run's first state to its last
abbrev pub StepsLead : Type 0
StepsLead = (limits : Limits) (m : Machine) (events : List Noted) → IsChain (between m) (run_steps limits m events) (between (run_state limits m events))

-- what they do is what the run does
abbrev pub StepsDo : Type 0
StepsDo = (limits : Limits) (m : Machine) (events : List Noted) → outs_in (run_steps limits m events) ≡ run_outs limits m events
