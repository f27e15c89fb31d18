-- A run of ship over a link: steps at what the link gives, one after the other, each act done.
use Rattle.std.specs.Prelude.{ℕ, ◌≡◌, ◌<◌, ◌⊎◌, ⊤, List, [], ◌∷◌, ◌++◌, slice_index_or, Option}
use Rattle.mj_base.specs.Linking.{Tells}
use Rattle.mj_base.specs.declared.link.LinkEntry.{LinkEntry}
use Rattle.mj_base.specs.declared.link.LinkEntry.TheVariants as entry
use Rattle.mj_base.specs.declared.link.LinkEvent.{LinkEvent}
use Rattle.mj_copy.specs.Messages.{Send, octets_of}
use Rattle.mj_copy.specs.ShipRules.{Shipping, ship_runs, ship_steps}
use Rattle.mj_copy.specs.declared.ship_act.ShipAct.{ShipAct}
use Rattle.mj_copy.specs.declared.ship_act.ShipAct.TheVariants as act
use Rattle.mj_copying.specs.Passing.{entry_of, wrote}

-- the message of the command with this offset
abbrev pub sent : List (List ℕ) → ℕ → List LinkEntry
sent payloads n = wrote (octets_of (Send n (slice_index_or payloads n [])))

-- what an act does to the link, where these are the payloads of the file
abbrev pub entries_of : List (List ℕ) → ShipAct → List LinkEntry
entries_of payloads (act.Write octets) = wrote octets
entries_of payloads (act.SendAt n) = sent payloads n
entries_of payloads act.Reopen = entry.Reopened ∷ []
entries_of payloads act.Done = []
entries_of payloads act.NoAnswer = []

abbrev pub entries : List (List ℕ) → List ShipAct → List LinkEntry
entries payloads [] = []
entries payloads (a ∷ acts) = entries_of payloads a ++ entries payloads acts

-- a read, and the acts of the step at it
abbrev pub round : List (List ℕ) → LinkEvent → Shipping → List LinkEntry
round payloads e s = entry_of e ∷ entries payloads (ship_steps e s).1

abbrev pub tale : List (List ℕ) → List LinkEvent → Shipping → List LinkEntry
tale payloads [] s = []
tale payloads (e ∷ events) s = round payloads e s ++ tale payloads events (ship_steps e s).0

-- the link gave these events, and the steps at them were done
pub record Ran (payloads : List (List ℕ)) (first : Shipping) (old now : Option (List LinkEntry)) (last : Shipping) : Type 0 where
  pub events : List LinkEvent
  pub last_is : last ≡ (ship_runs events first).0
  pub told : Tells old now (tale payloads events first)

-- the step at one event more, of whose acts the first ones were done
pub record IsCut (payloads : List (List ℕ)) (s : Shipping) (cut : List LinkEntry) : Type 0 where
  pub last : LinkEvent
  pub done : List ShipAct
  pub rest : List ShipAct
  pub whole : (ship_steps last s).1 ≡ done ++ rest
  pub cut_is : cut ≡ entry_of last ∷ entries payloads done

-- a run that broke off: behind whole steps, or inside one more
pub record BrokeOff (payloads : List (List ℕ)) (first : Shipping) (old now : Option (List LinkEntry)) : Type 0 where
  pub events : List LinkEvent
  pub cut : List LinkEntry
  pub part : (cut ≡ []) ⊎ IsCut payloads (ship_runs events first).0 cut
  pub told : Tells old now (tale payloads events first ++ cut)

-- each command that is to be sent is there
abbrev pub IsInside : ℕ → ShipAct → Type 0
IsInside total (act.Write octets) = ⊤
IsInside total (act.SendAt n) = n < total
IsInside total act.Reopen = ⊤
IsInside total act.Done = ⊤
IsInside total act.NoAnswer = ⊤

-- these acts were done
abbrev pub Performs : List (List ℕ) → Option (List LinkEntry) → Option (List LinkEntry) → List ShipAct → Type 0
Performs payloads old now acts = Tells old now (entries payloads acts)

-- the first of these acts were done
pub record Breaks (payloads : List (List ℕ)) (old now : Option (List LinkEntry)) (acts : List ShipAct) : Type 0 where
  pub done : List ShipAct
  pub rest : List ShipAct
  pub whole : acts ≡ done ++ rest
  pub told : Tells old now (entries payloads done)

-- one event was met, and the acts of the step at it were done
pub record Met (payloads : List (List ℕ)) (s : Shipping) (old now : Option (List LinkEntry)) (after : Shipping) : Type 0 where
  pub last : LinkEvent
  pub after_is : after ≡ (ship_steps last s).0
  pub told : Tells old now (round payloads last s)

-- nothing was read, or one event was met in part
pub record PartMet (payloads : List (List ℕ)) (s : Shipping) (old now : Option (List LinkEntry)) : Type 0 where
  pub cut : List LinkEntry
  pub part : (cut ≡ []) ⊎ IsCut payloads s cut
  pub told : Tells old now cut
