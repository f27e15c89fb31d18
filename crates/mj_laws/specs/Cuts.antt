-- How what comes on a lane is cut into pieces.
use Rattle.std.specs.Prelude.{ℕ, ◌≡◌, List, ◌++◌, map}
use Rattle.std.specs.List.{concat}
use Rattle.mj_base.specs.declared.event.Event.TheVariants.{Bytes}
use Rattle.mj_base.specs.declared.limits.Limits.{Limits}
use Rattle.mj_machine.specs.MachineState.{start}
use Rattle.mj_machine.specs.EventStep.{Noted}
use Rattle.mj_machine.specs.MachineRun.{plain, run_outs, run_state}

-- these pieces come on a lane, one behind the other
abbrev pub come_on : ℕ → List (List ℕ) → List Noted
come_on lane pieces = map (λ piece. plain (Bytes lane piece)) pieces

-- without a store the same is done to the lanes, in the same order, and the state at the end is the same
pub record EndAlike (limits : Limits) (events others : List Noted) : Type 0 where
  pub outs : run_outs limits (start limits) events ≡ run_outs limits (start limits) others
  pub state : (run_state limits (start limits) events).state ≡ (run_state limits (start limits) others).state

-- between the same events the same bytes come on a lane, cut in two ways
abbrev pub CutsChangeNothing : Limits → Type 0
CutsChangeNothing limits = (before behind : List Noted) (lane : ℕ) (pieces others : List (List ℕ)) → concat pieces ≡ concat others
    → EndAlike limits (before ++ (come_on lane pieces ++ behind)) (before ++ (come_on lane others ++ behind))
