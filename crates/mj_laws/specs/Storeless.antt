-- Without a store no ticket is ever kept, and no act on a disk is made.
use Rattle.std.specs.Prelude.{◌≡◌, true, List, []}
use Rattle.std.specs.List.{AllByRecursion}
use Rattle.mj_base.specs.declared.limits.Limits.{Limits}
use Rattle.mj_queue.specs.Settling.{is_of_client}
use Rattle.mj_machine.specs.StoreState.{Store, no_store}
use Rattle.mj_machine.specs.MachineState.{State, start}
use Rattle.mj_machine.specs.DiskActs.{notes_in}
use Rattle.mj_machine.specs.EventStep.{Noted}
use Rattle.mj_machine.specs.MachineRun.{run_state}
use Rattle.mj_machine.specs.Steps.{Step, run_steps}

-- no ticket is queued, and no worker holds one
pub record HasNoTickets (s : State) : Type 0 where
  pub queue : AllByRecursion (λ r. is_of_client r.origin ≡ true) s.queue
  pub held : AllByRecursion (λ h. is_of_client h.request.origin ≡ true) s.held

abbrev pub IsStoreless : State → Store → Type 0
IsStoreless s store = (store ≡ no_store) × HasNoTickets s

-- and a step gives no note
abbrev pub StaysStoreless : Step → Type 0
StaysStoreless t = IsStoreless t.before.routing t.before.store × IsStoreless t.after.routing t.after.store × (notes_in t.outs ≡ [])

abbrev pub NothingIsKept : Limits → List Noted → Type 0
NothingIsKept limits events =
    AllByRecursion StaysStoreless (run_steps limits (start limits) events) × IsStoreless (run_state limits (start limits) events).state (run_state limits (start limits) events).store
