-- What the events so far make of a connection, in one record, and what one more event changes of it.
use Rattle.std.specs.Prelude.{ℕ, Bool, true, false, not, ◌&&◌, List, Some, None, is_none, if◌then◌else◌}
use Rattle.std.specs.Str.{bytes_eq}
use Rattle.mj_ledger.specs.Events.{Event, Opened, Asked, Ready, Replied, Given, Answered, Lapsed, Left, Wrong}
use Rattle.mj_ledger.specs.Workers.{held, is_gone, is_readied, is_some_of, service_of, waits}
use Rattle.mj_ledger.specs.declared.hand.Change.{Change}
use Rattle.mj_ledger.specs.declared.hand.Change.TheVariants as changes
use Rattle.mj_ledger.specs.declared.hand.Hand.{Hand}

abbrev pub hand : List ℕ → List Event → Hand
hand who events = record { gone = is_gone who events; readied = is_readied who events; service = service_of who events; held = held who events; waiting = waits who events }

-- a connection that said nothing
abbrev pub fresh : Hand
fresh = record { gone = false; readied = false; service = None; held = None; waiting = false }

abbrev pub when_ready : List ℕ → Hand → Hand
when_ready service h = if h.readied then h else record h { readied = true; service = Some service; waiting = not h.gone && is_none h.held }

abbrev pub when_replied : Bool → List ℕ → Hand → Hand
when_replied last to h = if last && is_some_of to h.held then record h { held = None; waiting = not h.gone } else h

abbrev pub when_given : List ℕ → Hand → Hand
when_given to h = record h { held = if h.gone then None else Some to; waiting = false }

abbrev pub when_lapsed : Hand → Hand
when_lapsed h = record h { readied = false; held = None; waiting = false }

abbrev pub when_left : Hand → Hand
when_left h = record h { gone = true; held = None; waiting = false }

abbrev pub hand_after : List ℕ → Event → Hand → Hand
hand_after who (Opened w) h = h
hand_after who (Asked w service body) h = h
hand_after who (Ready w service) h = if bytes_eq w who then when_ready service h else h
hand_after who (Replied w last to body) h = if bytes_eq w who then when_replied last to h else h
hand_after who (Given w to body) h = if bytes_eq w who then when_given to h else h
hand_after who (Answered w service last body) h = h
hand_after who (Lapsed w) h = if bytes_eq w who then when_lapsed h else h
hand_after who (Left w) h = if bytes_eq w who then when_left h else h
hand_after who Wrong h = h

-- a change, as the tables have it
abbrev pub hand_by : Change → Hand → Hand
hand_by (changes.Ready service) h = when_ready service h
hand_by (changes.Reply last to) h = when_replied last to h
hand_by (changes.Give to) h = when_given to h
hand_by changes.Lapse h = when_lapsed h
hand_by changes.Leave h = when_left h
