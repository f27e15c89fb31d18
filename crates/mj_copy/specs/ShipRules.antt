-- What ship does at what its link gives.
use Rattle.std.specs.Prelude.{ℕ, zero, suc, ◌+◌, ◌==◌, nat_lt, Bool, true, false, List, [], ◌∷◌, ◌++◌, length, if◌then◌else◌}
use Rattle.mj_base.specs.declared.link.LinkEvent.{LinkEvent}
use Rattle.mj_base.specs.declared.link.LinkEvent.TheVariants as event
use Rattle.mj_copy.specs.Messages.{Message, Base, Have, Send, End, Reading, Whole, Short, Wrong, octets_of, reading}
use Rattle.mj_copy.specs.declared.phase.Phase.{Phase}
use Rattle.mj_copy.specs.declared.phase.Phase.TheVariants.{Going, Finished, GivenUp}
use Rattle.mj_copy.specs.declared.ship_act.ShipAct.{ShipAct}
use Rattle.mj_copy.specs.declared.ship_act.ShipAct.TheVariants as act

abbrev pub is_going : Phase → Bool
is_going Going = true
is_going Finished = false
is_going GivenUp = false

-- `kept`: read on this link and not yet taken; `quiet`: quiet events since the last lawful message or new link; `used`:
-- tries; `have`: the count of the last lawful Have; `begun`: a step was done
pub record Shipping : Type 0 where
  pub base : ℕ
  pub total : ℕ
  pub tries : ℕ
  pub kept : List ℕ
  pub quiet : ℕ
  pub used : ℕ
  pub have : ℕ
  pub begun : Bool
  pub phase : Phase

abbrev pub new_ship : ℕ → ℕ → ℕ → Shipping
new_ship base total tries = record { base = base; total = total; tries = tries; kept = []; quiet = 0; used = 0; have = 0; begun = false; phase = Going }

-- what it becomes, and its acts
abbrev pub ShipTurn : Type 0
ShipTurn = Shipping × List ShipAct

-- the link has ended, or counts as ended: one try is used
abbrev pub ship_ends : Shipping → ShipTurn
ship_ends s =
    if nat_lt (s.used + 1) s.tries
    then (record s { kept = []; quiet = 0; used = s.used + 1 }, act.Reopen ∷ act.Write (octets_of (Base s.base)) ∷ [])
    else (record s { phase = GivenUp }, act.NoAnswer ∷ [])

abbrev pub ship_idles : Shipping → ShipTurn
ship_idles s = if nat_lt (s.quiet + 1) 75 then (record s { quiet = s.quiet + 1 }, []) else ship_ends s

-- a lawful Have
abbrev pub ship_has : ℕ → Shipping → Shipping
ship_has n s = record s { quiet = 0; used = 0; have = n }

abbrev pub ship_takes : Message → Shipping → ShipTurn
ship_takes (Have n) s =
    if nat_lt n s.total then (ship_has n s, act.SendAt n ∷ [])
    else (if n == s.total then (record (ship_has n s) { phase = Finished }, act.Write (octets_of End) ∷ act.Done ∷ [])
    else ship_ends s)
ship_takes (Base base) s = ship_ends s
ship_takes (Send at payload) s = ship_ends s
ship_takes End s = ship_ends s

abbrev pub ship_then : (Shipping → ShipTurn) → ShipTurn → ShipTurn
ship_then next turn = ((next turn.0).0, turn.1 ++ (next turn.0).1)

abbrev pub ship_read : (Shipping → ShipTurn) → Reading → Shipping → ShipTurn
ship_read next Short s = (s, [])
ship_read next Wrong s = ship_ends s
ship_read next (Whole message rest) s = ship_then next (ship_takes message (record s { kept = rest }))

-- all whole messages that it has, one after the other, at most so many
abbrev pub ship_all : ℕ → Shipping → ShipTurn
ship_all zero s = (s, [])
ship_all (suc most) s = if is_going s.phase then ship_read (ship_all most) (reading s.kept) s else (s, [])

-- each message has a byte at least
abbrev pub ship_gains : Shipping → ShipTurn
ship_gains s = ship_all (length s.kept) s

abbrev pub ship_meets : LinkEvent → Shipping → ShipTurn
ship_meets (event.Given octets) s = ship_gains (record s { kept = s.kept ++ octets })
ship_meets event.Idle s = ship_idles s
ship_meets event.End s = ship_ends s

-- the first step writes Base before it takes its event
abbrev pub ship_begins : LinkEvent → Shipping → ShipTurn
ship_begins e s =
    if s.begun then ship_meets e s
    else ((ship_meets e (record s { begun = true })).0, act.Write (octets_of (Base s.base)) ∷ (ship_meets e (record s { begun = true })).1)

abbrev pub ship_steps : LinkEvent → Shipping → ShipTurn
ship_steps e s = if is_going s.phase then ship_begins e s else (s, [])

-- steps at these events, one after the other
abbrev pub ship_runs : List LinkEvent → Shipping → ShipTurn
ship_runs [] s = (s, [])
ship_runs (e ∷ events) s = ((ship_runs events (ship_steps e s).0).0, (ship_steps e s).1 ++ (ship_runs events (ship_steps e s).0).1)
