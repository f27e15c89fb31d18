-- What ports took and were given.
use Rattle.std.specs.Prelude.{ℕ, Bool, true, false, List, [], ◌∷◌, map, Option, Some, None}
use Rattle.mj_base.specs.declared.event.Event.{Event}
use Rattle.mj_base.specs.declared.event.Event.TheVariants as events
use Rattle.mj_base.specs.declared.event.Out.{Out}
use Rattle.mj_base.specs.declared.event.Out.TheVariants as outs
use Rattle.mj_machine.specs.EventStep.{Noted}

-- something for the lanes; of a piece also the disk's moment at which it was given
pub record Entry : Type 0 where
  pub out : Out
  pub moment : Option ℕ

abbrev pub entry_at : ℕ → Out → Entry
entry_at moment (outs.Piece lane octets) = record { out = outs.Piece lane octets; moment = Some moment }
entry_at moment (outs.End lane reason at) = record { out = outs.End lane reason at; moment = None }
entry_at moment (outs.Note note) = record { out = outs.Note note; moment = None }

abbrev pub outs_given : List Entry → List Out
outs_given given = map (λ entry. entry.out) given

-- the end isn't among the events that were taken
abbrev pub taken_as : Event → List Event
taken_as (events.Open lane) = events.Open lane ∷ []
taken_as (events.Bytes lane piece) = events.Bytes lane piece ∷ []
taken_as (events.Sent lane) = events.Sent lane ∷ []
taken_as (events.Close lane) = events.Close lane ∷ []
taken_as (events.Tick ms) = events.Tick ms ∷ []
taken_as events.Stop = []

abbrev pub is_stop : Event → Bool
is_stop (events.Open lane) = false
is_stop (events.Bytes lane piece) = false
is_stop (events.Sent lane) = false
is_stop (events.Close lane) = false
is_stop (events.Tick ms) = false
is_stop events.Stop = true

abbrev pub events_in : List Noted → List Event
events_in happened = map (λ e. e.event) happened
