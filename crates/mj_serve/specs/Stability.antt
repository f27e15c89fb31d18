-- What a crash may leave of the commands: since a piece was given, and since a run began.
use Rattle.std.specs.Prelude.{ℕ, ◌≤◌, List, [], ◌∷◌, ◌++◌, map, Option, Some, None}
use Rattle.mj_base.specs.declared.limits.Limits.{Limits}
use Rattle.mj_disk.specs.DiskModel.{History, LeftSince}
use Rattle.mj_laws.specs.Kept.{Extends}
use Rattle.mj_machine.specs.EventStep.{Noted, outs_of, state_after}
use Rattle.mj_machine.specs.MachineState.{Machine}
use Rattle.mj_machine.specs.Steps.{stores_of}
use Rattle.mj_machine.specs.StoreState.{Store}
use Rattle.mj_store.specs.Commands.{OpensFor}
use Rattle.mj_tickets.specs.declared.command.TicketCmd.{TicketCmd}
use Rattle.mj_serve.specs.Given.{Entry}

-- ---- since a piece

-- it opens as these commands, or with more behind them
abbrev pub HasPrefix : ℕ → List TicketCmd → List ℕ → Type 0
HasPrefix base commands image = (more : List TicketCmd) × OpensFor base (commands ++ more) image

-- the moment isn't later than now, and each image of a crash since has these commands in front
abbrev pub StaysSince : Option History → ℕ → ℕ → List TicketCmd → Option ℕ → Type 0
StaysSince told now base behind None = Unit {0}
StaysSince told now base behind (Some moment) = (moment ≤ now) × ((image : List ℕ) → LeftSince told moment image → HasPrefix base behind image)

-- the commands that were kept behind an entry's event are among those of now, and a crash loses none of them
pub record IsStable (told : Option History) (now base : ℕ) (commands : List TicketCmd) (entry : Entry) (behind : List TicketCmd) : Type 0 where
  pub extends : Extends behind commands
  pub stays : StaysSince told now base behind entry.moment

-- each entry, with the commands behind its event
abbrev pub AreStable : Option History → ℕ → ℕ → List TicketCmd → List Entry → List (List TicketCmd) → Type 0
AreStable told now base commands [] [] = Unit {0}
AreStable told now base commands [] (behind ∷ marks) = ⊥
AreStable told now base commands (entry ∷ given) [] = ⊥
AreStable told now base commands (entry ∷ given) (behind ∷ marks) = IsStable told now base commands entry behind × AreStable told now base commands given marks

-- for each of the outs of a run, the commands that were kept behind its event
abbrev pub marked : Limits → Machine → List Noted → List (List TicketCmd)
marked limits m [] = []
marked limits m (e ∷ events) = map (λ out. (state_after limits m e).store.commands) (outs_of limits m e) ++ marked limits (state_after limits m e) events

-- ---- since the start

-- the stores around all steps of a run
abbrev pub stores_over : Limits → Machine → List Noted → List Store
stores_over limits m [] = m.store ∷ []
stores_over limits m (e ∷ events) = stores_of limits m e ++ stores_over limits (state_after limits m e) events
