-- What the ports over the lanes stand for.
use Rattle.std.specs.Prelude.{◌≡◌, ◌≤◌, ◌⊎◌, Bool, true, false, List, [], ◌∷◌, ◌++◌, length}
use Rattle.mj_base.specs.declared.event.Event.{Event}
use Rattle.mj_base.specs.declared.event.Event.TheVariants.{Stop}
use Rattle.mj_serve.specs.Given.{Entry, is_stop, outs_given}
use Rattle.mj_net.specs.Passing.{Act, PortsState, events_of, most_entries, outs_of, passed}

-- what stands before the first end
abbrev pub cut : Bool → Event → List Event → List Event
cut true event rest = []
cut false event rest = event ∷ rest

abbrev pub until_stop : List Event → List Event
until_stop [] = []
until_stop (event ∷ events) = cut (is_stop event) event (until_stop events)

-- since the origin these events were taken, and these entries given
pub record Stands (origin now : PortsState) (taken : List Event) (given : List Entry) : Type 0 where
  pub acts : List Act
  -- the acts are the entries taken of the inbox, and what was given; what is in the outlets is what they make of them
  pub entries : now.taken ≡ origin.taken ++ events_of acts
  pub gives : outs_of acts ≡ outs_given given
  pub lanes : now.lanes ≡ passed origin.lanes acts
  -- the events are the entries before the first end
  pub front : until_stop (events_of acts) ≡ taken
  pub going : now.stopped ≡ false → events_of acts ≡ taken
  -- the end was given because it was taken, or because no more entries are
  pub ended : now.stopped ≡ true → (events_of acts ≡ taken ++ Stop ∷ []) ⊎ (most_entries ≤ length now.taken)
