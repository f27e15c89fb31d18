-- What contracts see of the passes.
use Rattle.std.specs.Prelude.{◌≡◌, ℕ, ◌+◌, zero, suc, List, [], ◌∷◌, ◌++◌, length, Some, slice_get, slice_set, All}
use Rattle.std.specs.List.{AllZip}
use Rattle.mj_base.specs.declared.event.Event.{Event}
use Rattle.mj_lanes.specs.declared.outlet.Item.{Item}
use Rattle.mj_lanes.specs.Ends.{Name}

-- a lane's reader: its inbox, its lane, and what it sent
pub record ReaderState : Type 0 where
  pub inbox : Name Event
  pub lane : ℕ
  pub sent : List Event

-- a lane's writer: what it sent, its lane's outlet, what it took there, and the pieces that it took last and together
pub record WriterState : Type 0 where
  pub inbox : Name Event
  pub lane : ℕ
  pub sent : List Event
  pub outlet : Name Item
  pub taken : List Item
  pub held : List (List ℕ)

-- the ticker: its inbox, and what it sent
pub record TickerState : Type 0 where
  pub inbox : Name Event
  pub sent : List Event

-- the hub's side of a lane's outlet, and what was put there
pub record OutletState : Type 0 where
  pub name : Name Item
  pub put : List Item

-- the hub: what it took, and the outlets of the lanes 0, 1, 2 and so on
pub record HubState : Type 0 where
  pub inbox : Name Event
  pub taken : List Event
  pub outlets : List OutletState

-- the item was put at the end of this lane's outlet, and nothing else changed
abbrev pub Puts : HubState → ℕ → Item → HubState → Type 0
Puts old lane item now = (o : OutletState) → slice_get old.outlets lane ≡ Some o → now ≡ record old { outlets = slice_set old.outlets lane (record o { put = o.put ++ item ∷ [] }) }

-- passes that have sent and taken nothing
abbrev pub new_reader : Name Event → ℕ → ReaderState
new_reader inbox lane = record { inbox = inbox; lane = lane; sent = [] }

abbrev pub new_writer : Name Event → ℕ → Name Item → WriterState
new_writer inbox lane outlet = record { inbox = inbox; lane = lane; sent = []; outlet = outlet; taken = []; held = [] }

abbrev pub new_outlet : Name Item → OutletState
new_outlet name = record { name = name; put = [] }

-- the readers of the lanes below n
abbrev pub new_readers : Name Event → ℕ → List ReaderState
new_readers inbox zero = []
new_readers inbox (suc n) = new_readers inbox n ++ new_reader inbox n ∷ []

-- the writers of these outlets, whose first one is the outlet of this lane
abbrev pub new_writers : Name Event → ℕ → List OutletState → List WriterState
new_writers inbox lane [] = []
new_writers inbox lane (o ∷ os) = new_writer inbox lane o.name ∷ new_writers inbox (lane + 1) os

-- empty outlets of so many lanes, with a new reader and a new writer of each
pub record AreNew (inbox : Name Event) (lanes : ℕ) (outlets : List OutletState) (readers : List ReaderState) (writers : List WriterState) : Type 0 where
  pub count : length outlets ≡ lanes
  pub empty : All (λ o. o.put ≡ []) outlets
  pub readers_are : readers ≡ new_readers inbox lanes
  pub writers_are : writers ≡ new_writers inbox 0 outlets

-- all these passes are of one inbox, and each writer, in order, is of one of the hub's outlets
pub record AreOfOne (hub : HubState) (readers : List ReaderState) (writers : List WriterState) (ticks : TickerState) : Type 0 where
  pub ticker : ticks.inbox ≡ hub.inbox
  pub readers_are : All (λ p. p.inbox ≡ hub.inbox) readers
  pub writers_are : All (λ w. w.inbox ≡ hub.inbox) writers
  pub outlets : AllZip (λ w o. w.outlet ≡ o.name) writers hub.outlets
