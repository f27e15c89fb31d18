-- Notes: each says what became of one act on the disk.
use Rattle.std.specs.Prelude.{ℕ, ◌≡◌, ◌+◌, ◌≤◌, Bool, true, false, ◌&&◌, nat_lt, List, [], ◌∷◌}
use Rattle.std.specs.List.{list_any}
use Rattle.mj_base.specs.declared.event.Note.{Note}
use Rattle.mj_base.specs.declared.event.Note.TheVariants.{Again, Shut}
use Rattle.mj_base.specs.declared.limits.Limits.{Limits}
use Rattle.mj_machine.specs.MachineState.{Machine}
use Rattle.mj_machine.specs.DiskActs.{notes_in, says_found, says_shut}
use Rattle.mj_machine.specs.EventStep.{Noted, does}
use Rattle.mj_machine.specs.MachineRun.{run_outs, run_state}
use Rattle.mj_machine.specs.StoreState.{usable}

abbrev pub act_of : Note → ℕ
act_of (Shut k) = k
act_of (Again k found) = k

-- of rising acts, from the first one up to below the last
abbrev pub InTurn : ℕ → List Note → ℕ → Type 0
InTurn first [] end = first ≤ end
InTurn first (note ∷ notes) end = (first ≤ act_of note) × InTurn (act_of note + 1) notes end

-- an event gives one note at most for each act that it has made; of these acts exactly those failed of which its notes say
-- so, and a command in doubt was found only where they say so
pub record NotesAreTold (limits : Limits) (m : Machine) (e : Noted) : Type 0 where
  pub turns : InTurn 0 (notes_in (does limits m e).1) (does limits m e).0.acts
  pub failed : (k : ℕ) → list_any (says_shut k) (notes_in (does limits m e).1) ≡ (nat_lt k (does limits m e).0.acts && list_any (says_shut k) e.notes)
  pub found : (k : ℕ) → list_any (says_found k) (notes_in (does limits m e).1) ≡ true → list_any (says_found k) e.notes ≡ true

-- it says that an act has failed
abbrev pub is_failure : Note → Bool
is_failure (Shut k) = true
is_failure (Again k found) = false

-- from an open store on: where no note says that an act has failed there is no note, and the store is open still
abbrev pub NotesComeWithAFailure : Limits → Machine → List Noted → Type 0
NotesComeWithAFailure limits m events =
    m.store.access ≡ usable → list_any is_failure (notes_in (run_outs limits m events)) ≡ false
    → (notes_in (run_outs limits m events) ≡ []) × ((run_state limits m events).store.access ≡ usable)
