-- A run of the command `worker`: its calls, in turn, and what they read, write and print.
use Rattle.std.specs.Prelude.{◌≡◌, ◌⊎◌, ⊤, List, [], ◌∷◌, ◌++◌, map, Option, None, Some}
use Rattle.mj_base.specs.declared.link.LinkEntry.{LinkEntry}
use Rattle.mj_base.specs.declared.link.LinkEvent.{LinkEvent}
use Rattle.mj_peer.specs.WorkerEndRules.{Call, Met, Started, Worker, acts_of, after, turn_of}
use Rattle.mj_peer.specs.WorkerStands.{Stands}
use Rattle.mj_peer.specs.declared.act.Act.{Act}
use Rattle.mj_peer.specs.declared.act.Act.TheVariants as act
use Rattle.mj_peer.specs.declared.post.Post.{Post}
use Rattle.mj_peering.specs.Performing.{AreDone, ArePartly, Moves, Places, Round, entry_of}
use Rattle.mj_peering.specs.declared.leaving.Leaving.{Leaving}
use Rattle.mj_peering.specs.declared.leaving.Leaving.TheVariants as leaves
use Rattle.mj_peering.specs.declared.stop.Stop.{Stop}
use Rattle.mj_peering.specs.declared.stop.Stop.TheVariants as stops

-- ---- how it ends

abbrev pub leaving_by : Act → Option Leaving
leaving_by (act.Write text) = None
leaving_by act.Reopen = None
leaving_by (act.Part body) = None
leaving_by (act.Done body) = None
leaving_by act.Served = None
leaving_by act.Finished = Some leaves.Finished
leaving_by act.NoAnswer = Some leaves.NoAnswer

abbrev pub first_of : Option Leaving → Option Leaving → Option Leaving
first_of None other = other
first_of (Some leaving) other = Some leaving

-- the first of these acts that is `Finished` or `NoAnswer`
abbrev pub leaving_in : List Act → Option Leaving
leaving_in [] = None
leaving_in (a ∷ acts) = first_of (leaving_by a) (leaving_in acts)

-- ---- calls

abbrev pub read_of : Call → List LinkEntry
read_of Started = []
read_of (Met e) = entry_of e ∷ []

-- a call, with what was read for it
abbrev pub round_of : Call → Worker → Round
round_of call w = record { read = read_of call; acts = (turn_of call w).1 }

abbrev pub rounds : List Call → Worker → List Round
rounds [] w = []
rounds (call ∷ calls) w = round_of call w ∷ rounds calls (turn_of call w).0

abbrev pub AreMet : List Call → Type 0
AreMet [] = ⊤
AreMet (Started ∷ calls) = ⊥
AreMet (Met e ∷ calls) = AreMet calls

-- the end is started once, and then meets what the link gives
abbrev pub AreInTurn : List Call → Type 0
AreInTurn [] = ⊤
AreInTurn (Started ∷ calls) = AreMet calls
AreInTurn (Met e ∷ calls) = ⊥

-- a call was made and its acts were done; the worker leaves by them, or doesn't
abbrev pub Turned : Option Leaving → Post → Post → Places → Places → Call → Type 0
Turned leaving e now_e old now call =
    (w : Worker) → Stands e w → Stands now_e (turn_of call w).0 × (leaving ≡ leaving_in (turn_of call w).1) × AreDone old now (round_of call w ∷ [])

-- a call was made, and a part of its acts was done
abbrev pub IsCut : Post → Places → Places → Call → Type 0
IsCut e old now call = (w : Worker) → Stands e w → ArePartly old now [] (round_of call w)

-- the end is started, and then met these
abbrev pub calls_of : List LinkEvent → List Call
calls_of events = Started ∷ map Met events

-- what was done from the start: these events were met, and the worker hasn't left
pub record Worked (first : Worker) (old now : Places) (e : Post) : Type 0 where
  pub events : List LinkEvent
  pub at_work : leaving_in (acts_of (calls_of events) first) ≡ None
  pub stands : Stands e (after (calls_of events) first)
  pub done : AreDone old now (rounds (calls_of events) first)

-- the run: these events were met, and one more, the first by which the worker leaves
pub record Left (leaving : Leaving) (first : Worker) (old now : Places) (e : Post) : Type 0 where
  pub events : List LinkEvent
  pub last : LinkEvent
  pub at_work : leaving_in (acts_of (calls_of events) first) ≡ None
  pub leaves : leaving_in (turn_of (Met last) (after (calls_of events) first)).1 ≡ Some leaving
  pub stands : Stands e (turn_of (Met last) (after (calls_of events) first)).0
  pub done : AreDone old now (rounds (calls_of events) first ++ round_of (Met last) (after (calls_of events) first) ∷ [])

-- what is done where a read of the link fails, or memory is wanted, or a write fails
abbrev pub BrokeOff : Stop → Post → Places → Places → Type 0
BrokeOff stops.NoMemory e old now = Moves old now [] [] ⊎ ((event : LinkEvent) × IsCut e old now (Met event))
BrokeOff stops.Read e old now = Moves old now [] []
BrokeOff stops.Write e old now = (event : LinkEvent) × IsCut e old now (Met event)

-- these calls were done, and a part of one more
abbrev pub IsPart : Worker → Places → Places → List Call → Type 0
IsPart first old now calls = (call : Call) × AreInTurn (calls ++ call ∷ []) × ArePartly old now (rounds calls first) (round_of call (after calls first))

abbrev pub IsCutBy : Stop → Worker → Places → Places → List Call → Type 0
IsCutBy stops.NoMemory first old now calls = AreDone old now (rounds calls first) ⊎ IsPart first old now calls
IsCutBy stops.Read first old now calls = AreDone old now (rounds calls first)
IsCutBy stops.Write first old now calls = IsPart first old now calls

-- where a run broke off: behind these calls, by which the worker hasn't left
pub record Halted (stop : Stop) (first : Worker) (old now : Places) : Type 0 where
  pub calls : List Call
  pub in_turn : AreInTurn calls
  pub at_work : leaving_in (acts_of calls first) ≡ None
  pub cut : IsCutBy stop first old now calls
