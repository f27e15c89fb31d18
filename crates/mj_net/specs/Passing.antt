-- What passes at the ports over the lanes: the events that are taken and the outs that are given, in one order, and what
-- the outlets hold of them.
use Rattle.std.specs.Prelude.{◌≡◌, ℕ, ◌-◌, ◌^◌, Bool, true, false, if◌then◌else◌, nat_lt, List, [], ◌∷◌, ◌++◌, length, get_or, Option, None, Some, slice_get, slice_set, All}
use Rattle.mj_base.specs.declared.event.Event.{Event}
use Rattle.mj_base.specs.declared.event.Event.TheVariants as events
use Rattle.mj_base.specs.declared.event.Out.{Out}
use Rattle.mj_base.specs.declared.event.Out.TheVariants as outs
use Rattle.mj_lanes.specs.declared.outlet.Item.{Item}
use Rattle.mj_lanes.specs.declared.outlet.Item.TheVariants as items
use Rattle.mj_lanes.specs.Passes.{OutletState}

-- ---- one thing that passes

pub data Act : Type 0 where
  Took : (event : Event) → Act
  Gave : (out : Out) → Act

abbrev pub events_of : List Act → List Event
events_of [] = []
events_of (Took event ∷ acts) = event ∷ events_of acts
events_of (Gave out ∷ acts) = events_of acts

abbrev pub outs_of : List Act → List Out
outs_of [] = []
outs_of (Took event ∷ acts) = outs_of acts
outs_of (Gave out ∷ acts) = out ∷ outs_of acts

-- ---- the lanes

-- the outlets of the lanes 0, 1, 2 and so on, and whether each lane has a connection that wasn't ended
pub record Lanes : Type 0 where
  pub outlets : List OutletState
  pub opened : List Bool

-- the item stands at the end of the lane's outlet, where there is that lane
abbrev pub placed : List OutletState → ℕ → Item → Option OutletState → List OutletState
placed outlets lane item None = outlets
placed outlets lane item (Some o) = slice_set outlets lane (record o { put = o.put ++ item ∷ [] })

abbrev pub put_at : List OutletState → ℕ → Item → List OutletState
put_at outlets lane item = placed outlets lane item (slice_get outlets lane)

-- the lane's connection is ended: its outlet has an end mark
abbrev pub ended : Lanes → ℕ → Lanes
ended lanes lane = record { outlets = put_at lanes.outlets lane items.Mark; opened = slice_set lanes.opened lane false }

-- an end mark comes where the broker ends a connection, and at a close of one that it didn't end
abbrev pub passes : Lanes → Act → Lanes
passes lanes (Took (events.Open lane)) = record lanes { opened = slice_set lanes.opened lane true }
passes lanes (Took (events.Bytes lane piece)) = lanes
passes lanes (Took (events.Sent lane)) = lanes
passes lanes (Took (events.Close lane)) = if get_or lanes.opened lane false then ended lanes lane else lanes
passes lanes (Took (events.Tick ms)) = lanes
passes lanes (Took events.Stop) = lanes
passes lanes (Gave (outs.Piece lane piece)) = record lanes { outlets = put_at lanes.outlets lane (items.Piece piece) }
passes lanes (Gave (outs.End lane reason at)) = if nat_lt lane (length lanes.outlets) then ended lanes lane else lanes
passes lanes (Gave (outs.Note note)) = lanes

abbrev pub passed : Lanes → List Act → Lanes
passed lanes [] = lanes
passed lanes (act ∷ acts) = passed (passes lanes act) acts

-- ---- the ports

-- the entries taken of the inbox, the lanes, and whether the end was given
pub record PortsState : Type 0 where
  pub taken : List Event
  pub lanes : Lanes
  pub stopped : Bool

-- so many entries are taken at most
abbrev pub most_entries : ℕ
most_entries = 2 ^ 60 - 1

-- nothing has passed at these ports of so many lanes
pub record AreNewPorts (lanes : ℕ) (ports : PortsState) : Type 0 where
  pub untaken : ports.taken ≡ []
  pub unput : All (λ o. o.put ≡ []) ports.lanes.outlets
  pub closed : All (λ opened. opened ≡ false) ports.lanes.opened
  pub count : length ports.lanes.outlets ≡ lanes
  pub going : ports.stopped ≡ false
