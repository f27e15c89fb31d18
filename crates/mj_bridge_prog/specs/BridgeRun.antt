-- A run of the command `bridge`: its calls, in turn, and what they read and write on the two links.
use Rattle.std.specs.Prelude.{◌≡◌, ◌⊎◌, ⊤, Bool, true, false, List, [], ◌∷◌, ◌++◌, Option, None, Some}
use Rattle.mj_base.specs.declared.link.LinkEntry.{LinkEntry}
use Rattle.mj_base.specs.declared.link.LinkEvent.{LinkEvent}
use Rattle.mj_bridge.specs.BridgeRules.{Bridge, Call, FarGave, NearGave, Started, after, all_acts, turn_of}
use Rattle.mj_bridge.specs.BridgeStands.{Stands}
use Rattle.mj_bridge.specs.declared.act.BridgeAct.{BridgeAct}
use Rattle.mj_bridge.specs.declared.act.BridgeAct.TheVariants as side
use Rattle.mj_bridge.specs.declared.deck.Deck.{Deck}
use Rattle.mj_bridge_prog.specs.Sides.{AreDone, ArePartly, Moves, Round, Sides}
use Rattle.mj_peering.specs.Performing.{entry_of}
use Rattle.mj_peering.specs.WorkerRun as Worker
use Rattle.mj_peering.specs.WorkerRun.{first_of}
use Rattle.mj_peering.specs.declared.leaving.Leaving.{Leaving}
use Rattle.mj_peering.specs.declared.stop.Stop.{Stop}
use Rattle.mj_peering.specs.declared.stop.Stop.TheVariants as stops

-- ---- how it ends

abbrev pub leaving_by : BridgeAct → Option Leaving
leaving_by (side.Near a) = Worker.leaving_by a
leaving_by (side.Far a) = Worker.leaving_by a

-- the first of these acts that is `Finished` or `NoAnswer`
abbrev pub leaving_in : List BridgeAct → Option Leaving
leaving_in [] = None
leaving_in (a ∷ acts) = first_of (leaving_by a) (leaving_in acts)

-- ---- calls

abbrev pub near_read_of : Call → List LinkEntry
near_read_of Started = []
near_read_of (NearGave e) = entry_of e ∷ []
near_read_of (FarGave e) = []

abbrev pub far_read_of : Call → List LinkEntry
far_read_of Started = []
far_read_of (NearGave e) = []
far_read_of (FarGave e) = entry_of e ∷ []

-- the acts of a call, and of calls
abbrev pub acts_by : Call → Bridge → List BridgeAct
acts_by call b = all_acts (turn_of call b).1

abbrev pub acts_of : List Call → Bridge → List BridgeAct
acts_of [] b = []
acts_of (call ∷ calls) b = acts_by call b ++ acts_of calls (turn_of call b).0

-- a call, with what was read for it
abbrev pub round_of : Call → Bridge → Round
round_of call b = record { near_read = near_read_of call; far_read = far_read_of call; acts = acts_by call b }

abbrev pub rounds : List Call → Bridge → List Round
rounds [] b = []
rounds (call ∷ calls) b = round_of call b ∷ rounds calls (turn_of call b).0

-- a near event and a far event in turn: where the near one is next (or isn't), these calls follow, and then it is again (or isn't)
abbrev pub AreTurns : Bool → List Call → Bool → Type 0
AreTurns next [] now = next ≡ now
AreTurns next (Started ∷ calls) now = ⊥
AreTurns true (NearGave e ∷ calls) now = AreTurns false calls now
AreTurns false (NearGave e ∷ calls) now = ⊥
AreTurns true (FarGave e ∷ calls) now = ⊥
AreTurns false (FarGave e ∷ calls) now = AreTurns true calls now

-- the bridge is started once, and then takes a near event and a far event in turn
abbrev pub AreInTurn : List Call → Type 0
AreInTurn [] = ⊤
AreInTurn (Started ∷ calls) = (now : Bool) × AreTurns true calls now
AreInTurn (NearGave e ∷ calls) = ⊥
AreInTurn (FarGave e ∷ calls) = ⊥

-- a call was made and its acts were done; the bridge leaves by them, or doesn't
abbrev pub Turned : Option Leaving → Deck → Deck → Sides → Sides → Call → Type 0
Turned leaving e now_e old now call =
    (b : Bridge) → Stands e b → Stands now_e (turn_of call b).0 × (leaving ≡ leaving_in (acts_by call b)) × AreDone old now (round_of call b ∷ [])

-- a call was made, and a part of its acts was done
abbrev pub IsCut : Deck → Sides → Sides → Call → Type 0
IsCut e old now call = (b : Bridge) → Stands e b → ArePartly old now [] (round_of call b)

-- what was done from the start: behind these calls the bridge hasn't left, and a near event is next, or a far one
pub record Worked (first : Bridge) (old now : Sides) (e : Deck) (next : Bool) : Type 0 where
  pub turns : List Call
  pub in_turn : AreTurns true turns next
  pub at_work : leaving_in (acts_of (Started ∷ turns) first) ≡ None
  pub stands : Stands e (after (Started ∷ turns) first)
  pub done : AreDone old now (rounds (Started ∷ turns) first)

-- the run: these calls, by which the bridge hasn't left, and one more, by which it leaves
pub record Left (leaving : Leaving) (first : Bridge) (old now : Sides) (e : Deck) : Type 0 where
  pub calls : List Call
  pub last : Call
  pub in_turn : AreInTurn (calls ++ last ∷ [])
  pub at_work : leaving_in (acts_of calls first) ≡ None
  pub leaves : leaving_in (acts_by last (after calls first)) ≡ Some leaving
  pub stands : Stands e (turn_of last (after calls first)).0
  pub done : AreDone old now (rounds calls first ++ round_of last (after calls first) ∷ [])

-- what is done where a read of a link fails, or memory is wanted, or a write fails
abbrev pub BrokeOff : Stop → (LinkEvent → Call) → Deck → Sides → Sides → Type 0
BrokeOff stops.NoMemory call e old now = Moves old now [] [] ⊎ ((event : LinkEvent) × IsCut e old now (call event))
BrokeOff stops.Read call e old now = Moves old now [] []
BrokeOff stops.Write call e old now = (event : LinkEvent) × IsCut e old now (call event)

-- these calls were done, and a part of one more
abbrev pub IsPart : Bridge → Sides → Sides → List Call → Type 0
IsPart first old now calls = (call : Call) × AreInTurn (calls ++ call ∷ []) × ArePartly old now (rounds calls first) (round_of call (after calls first))

abbrev pub IsCutBy : Stop → Bridge → Sides → Sides → List Call → Type 0
IsCutBy stops.NoMemory first old now calls = AreDone old now (rounds calls first) ⊎ IsPart first old now calls
IsCutBy stops.Read first old now calls = AreDone old now (rounds calls first)
IsCutBy stops.Write first old now calls = IsPart first old now calls

-- where a run broke off: behind these calls, by which the bridge hasn't left
pub record Halted (stop : Stop) (first : Bridge) (old now : Sides) : Type 0 where
  pub calls : List Call
  pub in_turn : AreInTurn calls
  pub at_work : leaving_in (acts_of calls first) ≡ None
  pub cut : IsCutBy stop first old now calls
