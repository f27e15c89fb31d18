-- A run of the command `client`: its calls, in turn, and what they read, write and print.
use Rattle.std.specs.Prelude.{ℕ, ◌≡◌, ◌⊎◌, ◌-◌, ◌^◌, min, length, ⊤, true, false, List, [], ◌∷◌, ◌++◌, map, Option, is_some}
use Rattle.mj_base.specs.declared.link.LinkEntry.{LinkEntry}
use Rattle.mj_base.specs.declared.link.LinkEvent.{LinkEvent}
use Rattle.mj_peer.specs.ClientEndRules.{Asked, Call, Client, Met, after, turn_of}
use Rattle.mj_peer.specs.ClientStands.{Stands}
use Rattle.mj_peer.specs.declared.session.Session.{Session}
use Rattle.mj_peering.specs.Performing.{AreDone, ArePartly, Moves, Places, Round, entry_of}
use Rattle.mj_peering.specs.Requests.{IsOver, Uses}
use Rattle.mj_peering.specs.declared.stop.Stop.{Stop}
use Rattle.mj_peering.specs.declared.stop.Stop.TheVariants as stops

abbrev pub read_of : Call → List LinkEntry
read_of (Asked body) = []
read_of (Met e) = entry_of e ∷ []

-- a call, with what was read for it
abbrev pub round_of : Call → Client → Round
round_of call c = record { read = read_of call; acts = (turn_of call c).1 }

abbrev pub rounds : List Call → Client → List Round
rounds [] c = []
rounds (call ∷ calls) c = round_of call c ∷ rounds calls (turn_of call c).0

-- the next request is asked where none is open, else the link is read; and nothing once a request was given up
abbrev pub IsNext : Call → Client → Type 0
IsNext (Asked body) c = (c.talk.over ≡ false) × (is_some c.talk.request ≡ false)
IsNext (Met e) c = (c.talk.over ≡ false) × (is_some c.talk.request ≡ true)

abbrev pub AreInTurn : List Call → Client → Type 0
AreInTurn [] c = ⊤
AreInTurn (call ∷ calls) c = IsNext call c × AreInTurn calls (turn_of call c).0

-- the bodies that were asked
abbrev pub bodies_of : Call → List (List (List ℕ))
bodies_of (Asked body) = body ∷ []
bodies_of (Met e) = []

abbrev pub bodies : List Call → List (List (List ℕ))
bodies [] = []
bodies (call ∷ calls) = bodies_of call ++ bodies calls

-- a request's body is one frame
abbrev pub framed : List (List ℕ) → List (List (List ℕ))
framed texts = map (λ text. text ∷ []) texts

-- a call was made and its acts were done
abbrev pub Turned : Session → Session → Places → Places → Call → Type 0
Turned e now_e old now call = (c : Client) → Stands e c → Stands now_e (turn_of call c).0 × AreDone old now (round_of call c ∷ [])

-- a call was made, and a part of its acts was done
abbrev pub IsCut : Session → Places → Places → Call → Type 0
IsCut e old now call = (c : Client) → Stands e c → ArePartly old now [] (round_of call c)

-- what was done from the start: these calls, whole, for these requests of the input
pub record Played (first : Client) (old now : Places) (input left : Option (List (List ℕ))) (e : Session) (n : ℕ) : Type 0 where
  pub calls : List Call
  pub in_turn : AreInTurn calls first
  pub stands : Stands e (after calls first)
  pub texts : List (List ℕ)
  pub asked : bodies calls ≡ framed texts
  pub counted : n ≡ min (length texts) (2 ^ 64 - 1)
  pub used : Uses input left texts
  pub done : AreDone old now (rounds calls first)

-- what is done where a read of the link fails, or memory is wanted, or a write fails
abbrev pub BrokeOff : Stop → Session → Places → Places → Type 0
BrokeOff stops.NoMemory e old now = Moves old now [] [] ⊎ ((event : LinkEvent) × IsCut e old now (Met event))
BrokeOff stops.Read e old now = Moves old now [] []
BrokeOff stops.Write e old now = (event : LinkEvent) × IsCut e old now (Met event)

-- these calls were done, and nothing else
abbrev pub IsWhole : Client → Places → Places → List Call → List (List ℕ) → Type 0
IsWhole first old now calls texts = (bodies calls ≡ framed texts) × AreDone old now (rounds calls first)

-- these calls were done, and a part of one more
abbrev pub IsPart : Client → Places → Places → List Call → List (List ℕ) → Type 0
IsPart first old now calls texts =
    (call : Call) × IsNext call (after calls first) × (bodies calls ++ bodies_of call ≡ framed texts) × ArePartly old now (rounds calls first) (round_of call (after calls first))

abbrev pub IsCutBy : Stop → Client → Places → Places → List Call → List (List ℕ) → Type 0
IsCutBy stops.NoMemory first old now calls texts = IsWhole first old now calls texts ⊎ IsPart first old now calls texts
IsCutBy stops.Read first old now calls texts = IsWhole first old now calls texts
IsCutBy stops.Write first old now calls texts = IsPart first old now calls texts

-- where a run broke off: behind these calls, for these requests of the input
pub record Halted (stop : Stop) (first : Client) (old now : Places) (input : Option (List (List ℕ))) : Type 0 where
  pub calls : List Call
  pub in_turn : AreInTurn calls first
  pub texts : List (List ℕ)
  pub left : Option (List (List ℕ))
  pub used : Uses input left texts
  pub cut : IsCutBy stop first old now calls texts

-- a request was given up; or none is open, and none is left of the input
abbrev pub IsEnd : Session → Option (List (List ℕ)) → Type 0
IsEnd e left = (e.talk.over ≡ true) ⊎ ((e.talk.over ≡ false) × (is_some e.talk.request ≡ false) × IsOver left)
