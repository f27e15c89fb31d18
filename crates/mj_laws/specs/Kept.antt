-- The commands that a store keeps: they are only added to, and each list that a crash may leave is lawful.
use Rattle.std.specs.Prelude.{ℕ, ◌≡◌, ◌<◌, ◌≤◌, ◌^◌, List, ◌++◌, Some}
use Rattle.std.specs.List.{AllByRecursion}
use Rattle.mj_base.specs.declared.limits.Limits.{Limits}
use Rattle.mj_tickets.specs.declared.command.TicketCmd.{TicketCmd}
use Rattle.mj_tickets.specs.Fold.{Fold, fold_of}
use Rattle.mj_machine.specs.StoreState.{Store, opened_store}
use Rattle.mj_machine.specs.MachineState.{Machine, start_with}
use Rattle.mj_machine.specs.EventStep.{Noted, state_after}
use Rattle.mj_machine.specs.MachineRun.{run_state}
use Rattle.mj_machine.specs.Steps.{lists_at, lists_in, run_steps, stores_of}

-- ---- commands grow

-- it begins with the commands of the one before
abbrev pub Extends : List TicketCmd → List TicketCmd → Type 0
Extends before after = (more : List TicketCmd) × (after ≡ before ++ more)

-- the same store later: its commands stand in front
pub record GoesFrom (before after : Store) : Type 0 where
  pub stored : after.stored ≡ before.stored
  pub seed : after.seed ≡ before.seed
  pub base : after.base ≡ before.base
  pub commands : Extends before.commands after.commands

-- over each step, and over the whole run
abbrev pub CommandsGrow : Limits → Machine → List Noted → Type 0
CommandsGrow limits m events = AllByRecursion (λ t. GoesFrom t.before.store t.after.store) (run_steps limits m events) × GoesFrom m.store (run_state limits m events).store

-- each store of an event goes on from the one before the event
abbrev pub StoresGoOn : Limits → Machine → Noted → Type 0
StoresGoOn limits m e = AllByRecursion (GoesFrom m.store) (stores_of limits m e) × GoesFrom m.store (state_after limits m e).store

-- ---- what a crash may leave

abbrev pub IsLawfulList : ℕ → List TicketCmd → Type 0
IsLawfulList base commands = (f : Fold (List (List ℕ))) × (fold_of base commands ≡ Some f)

-- a file of these commands may be opened: its base is from 1 to 2^61, and it may not grow so long that numbers end
pub record IsOpenable (limits : Limits) (base : ℕ) (commands : List TicketCmd) : Type 0 where
  pub lawful : IsLawfulList base commands
  pub from_one : 1 ≤ base
  pub based : base ≤ 2 ^ 61
  pub sized : limits.file < 2 ^ 61

abbrev pub ListsAreLawful : Limits → List ℕ → ℕ → List TicketCmd → List Noted → Type 0
ListsAreLawful limits seed base commands events =
    AllByRecursion (IsLawfulList base) (lists_in (run_steps limits (start_with limits (opened_store seed base commands)) events))
    × AllByRecursion (IsLawfulList base) (lists_at (run_state limits (start_with limits (opened_store seed base commands)) events).store)
