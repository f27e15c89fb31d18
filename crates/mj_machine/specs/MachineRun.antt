-- What the machine does over a list of events.
use Rattle.std.specs.Prelude.{◌≡◌, List, [], ◌∷◌, ◌++◌, map}
use Rattle.mj_base.specs.declared.event.Event.{Event}
use Rattle.mj_base.specs.declared.event.Out.{Out}
use Rattle.mj_base.specs.declared.limits.Limits.{Limits}
use Rattle.mj_machine.specs.MachineState.{Machine}
use Rattle.mj_machine.specs.DiskActs.{notes_in}
use Rattle.mj_machine.specs.EventStep.{Noted, outs_of, state_after}

-- no act on the disk fails
abbrev pub plain : Event → Noted
plain event = record { event = event; notes = [] }

abbrev pub plainly : List Event → List Noted
plainly events = map plain events

-- the machine after these events
abbrev pub run_state : Limits → Machine → List Noted → Machine
run_state limits m [] = m
run_state limits m (e ∷ events) = run_state limits (state_after limits m e) events

-- what it does at these events, in order
abbrev pub run_outs : Limits → Machine → List Noted → List Out
run_outs limits m [] = []
run_outs limits m (e ∷ events) = outs_of limits m e ++ run_outs limits (state_after limits m e) events

-- each event's notes are exactly those that its acts gave
abbrev pub AreGiven : Limits → Machine → List Noted → Type 0
AreGiven limits m [] = Unit {0}
AreGiven limits m (e ∷ events) = (notes_in (outs_of limits m e) ≡ e.notes) × AreGiven limits (state_after limits m e) events
