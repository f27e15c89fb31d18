-- The bridge's rules: a worker of the near broker that is a client of the far one. The near side is the worker of
-- `WorkerEndRules` that answers later, the far side the client of `ClientEndRules`.
use Rattle.std.specs.Prelude.{ℕ, suc, ◌==◌, Bool, true, false, List, [], ◌∷◌, ◌++◌, map, Option, None, Some, if◌then◌else◌}
use Rattle.mj_base.specs.declared.link.LinkEvent.{LinkEvent}
use Rattle.mj_base.specs.declared.link.LinkEvent.TheVariants as event
use Rattle.mj_base.specs.declared.version.Version.TheVariants.{One}
use Rattle.mj_bridge.specs.declared.act.BridgeAct.{BridgeAct}
use Rattle.mj_bridge.specs.declared.act.BridgeAct.TheVariants as side
use Rattle.mj_peer.specs.ClientEndRules as Client
use Rattle.mj_peer.specs.PeerTexts.{said_text}
use Rattle.mj_peer.specs.Sweeping as Sweeping
use Rattle.mj_peer.specs.Sweeping.{beyond}
use Rattle.mj_peer.specs.WorkerEndRules as Worker
use Rattle.mj_peer.specs.WorkerEndRules.{request_in}
use Rattle.mj_peer.specs.declared.act.Act.{Act}
use Rattle.mj_peer.specs.declared.act.Act.TheVariants as act
use Rattle.mj_peer.specs.declared.post.Handed.{Handed}
use Rattle.mj_wire.specs.declared.item.WireItem.{WireItem}
use Rattle.mj_worker_cmd.specs.declared.command.WorkerAct.TheVariants as said

-- A near REQUEST: the how manieth it is, and the how manieth near link it came on, both from 0.
pub record Asked : Type 0 where
  pub number : ℕ
  pub link : ℕ
  pub handed : Handed

-- the two ends, the near links and the near REQUESTs so far, the REQUEST that is open, and the one kept for afterwards
pub record Bridge : Type 0 where
  pub near : Worker.Worker
  pub far : Client.Client
  pub link : ℕ
  pub read : ℕ
  pub held : Option Asked
  pub next : Option Asked

-- What a call does: acts of the two sides, and between them what happens to REQUESTs. A REQUEST is read; it becomes the
-- open one, and its body is asked far; the far end answers it; the answer is written near.
pub data Doing : Type 0 where
  Near : (act : Act) → Doing
  Far : (act : Act) → Doing
  Reads : (asked : Asked) → Doing
  Opens : (asked : Asked) → Doing
  Gets : (asked : Asked) (body : List (List ℕ)) → Doing
  Answers : (asked : Asked) (body : List (List ℕ)) → Doing

-- the acts among them
abbrev pub acts_of : Doing → List BridgeAct
acts_of (Near a) = side.Near a ∷ []
acts_of (Far a) = side.Far a ∷ []
acts_of (Reads asked) = []
acts_of (Opens asked) = []
acts_of (Gets asked body) = []
acts_of (Answers asked body) = side.Near (act.Write (said_text One (said.Reply true asked.handed.address body))) ∷ side.Near act.Served ∷ []

abbrev pub all_acts : List Doing → List BridgeAct
all_acts [] = []
all_acts (d ∷ ds) = acts_of d ++ all_acts ds

-- the bridge after a turn, with the turn's doings
abbrev pub Turn : Type 0
Turn = Bridge × List Doing

abbrev pub stays : Bridge → Turn
stays b = (b, [])

abbrev pub doing : Doing → Turn → Turn
doing d t = (t.0, d ∷ t.1)

-- one turn, and then another
abbrev pub follows : (Bridge → Turn) → Turn → Turn
follows more t = ((more t.0).0, t.1 ++ (more t.0).1)

-- there are no acts any more
abbrev pub is_over : Bridge → Bool
is_over b = b.near.duty.over

-- and then another, unless all that is to come is dropped
abbrev pub unless : (Bridge → Turn) → Bool → Turn → Turn
unless more true t = t
unless more false t = follows more t

-- ---- the near side as a worker; where its link is opened anew the REQUEST that was kept is forgotten

abbrev pub moves : Act → Bridge → Bridge
moves (act.Write text) b = b
moves act.Reopen b = record b { link = suc b.link; next = None }
moves (act.Part body) b = b
moves (act.Done body) b = b
moves act.Served b = b
moves act.Finished b = b
moves act.NoAnswer b = b

abbrev pub move_all : List Act → Bridge → Bridge
move_all [] b = b
move_all (a ∷ rest) b = move_all rest (moves a b)

abbrev pub near_turn : Worker.Turn → Bridge → Turn
near_turn t b = (move_all t.1 (record b { near = t.0 }), map Near t.1)

-- ---- a near REQUEST

-- it becomes the open one, and its body is asked far
abbrev pub asks_far : Asked → Client.Turn → Bridge → Turn
asks_far asked t b = (record b { far = t.0; held = Some asked; next = None }, Opens asked ∷ map Far t.1)

abbrev pub opens : Asked → Bridge → Turn
opens asked b = asks_far asked (Client.asks asked.handed.body b.far) b

-- kept for afterwards where the open one came on an earlier near link, else dropped
abbrev pub keeps : Bool → Asked → Bridge → Turn
keeps true asked b = stays b
keeps false asked b = stays (record b { next = Some asked })

abbrev pub takes : Option Asked → Option Asked → Asked → Bridge → Turn
takes None next asked b = opens asked b
takes (Some held) None asked b = keeps (held.link == b.link) asked b
takes (Some held) (Some next) asked b = stays b

abbrev pub hearing : Bridge → Bridge
hearing b = record b { read = suc b.read; near = Worker.hearing b.near }

abbrev pub asking : Handed → Bridge → Asked
asking handed b = record { number = b.read; link = b.link; handed = handed }

abbrev pub requested : Handed → Bridge → Turn
requested handed b = doing (Reads (asking handed b)) (takes b.held b.next (asking handed b) (hearing b))

-- ---- the near stream's items: a REQUEST, or anything else, which is the worker's matter

abbrev pub meets_as : Option Handed → WireItem → Bridge → Turn
meets_as None x b = near_turn (Worker.meets x b.near) b
meets_as (Some handed) x b = requested handed b

abbrev pub meets : WireItem → Bridge → Turn
meets x b = meets_as (request_in b.near.duty.version x) x b

-- whether an item ends what came on the near link
abbrev pub ends_as : Option Handed → WireItem → Bridge → Bool
ends_as None x b = Sweeping.ends (Worker.meets x b.near)
ends_as (Some handed) x b = false

abbrev pub ends : WireItem → Bridge → Bool
ends x b = ends_as (request_in b.near.duty.version x) x b

abbrev pub meets_all : List WireItem → Bridge → Turn
meets_all [] b = stays b
meets_all (x ∷ xs) b = unless (meets_all xs) (ends x b) (meets x b)

-- a piece came
abbrev pub gives : List ℕ → Bridge → Turn
gives piece b = meets_all (beyond b.near.stream piece) (record b { near = Worker.takes piece b.near })

abbrev pub near_happens : LinkEvent → Bridge → Turn
near_happens (event.Given piece) b = gives piece b
near_happens event.Idle b = near_turn (Worker.rests b.near) b
near_happens event.End b = near_turn (Worker.quiets true b.near) b

abbrev pub near_steps : LinkEvent → Bridge → Turn
near_steps e b = if is_over b then stays b else near_happens e b

abbrev pub starts : Bridge → Turn
starts b = near_turn (Worker.starts b.near) b

-- ---- the far side's acts

abbrev pub serving : Bridge → Bridge
serving b = record b { near = record b.near { duty = Worker.served b.near.duty } }

-- the final reply is written near where the near link is still the REQUEST's; it may have been the last to serve
abbrev pub replies : Bool → Asked → List (List ℕ) → Bridge → Turn
replies false asked body b = stays b
replies true asked body b = doing (Answers asked body) (near_turn (Worker.finishing (serving b).near) (serving b))

-- a far answer closes the open REQUEST
abbrev pub closing : Bridge → Bridge
closing b = record b { held = None }

abbrev pub answered : Option Asked → List (List ℕ) → Bridge → Turn
answered None body b = stays b
answered (Some asked) body b = doing (Gets asked body) (replies (asked.link == b.link) asked body (closing b))

abbrev pub ending : Bridge → Bridge
ending b = record b { near = record b.near { duty = record b.near.duty { over = true } } }

-- the far end has given up: the bridge leaves the near broker
abbrev pub gives_up : Bridge → Turn
gives_up b = (ending b, Near (act.Write (said_text One said.Disconnect)) ∷ Far act.NoAnswer ∷ [])

-- partial replies are dropped
abbrev pub far_act : Act → Bridge → Turn
far_act (act.Write text) b = (b, Far (act.Write text) ∷ [])
far_act act.Reopen b = (b, Far act.Reopen ∷ [])
far_act (act.Part body) b = stays b
far_act (act.Done body) b = answered b.held body b
far_act act.Served b = stays b
far_act act.Finished b = stays b
far_act act.NoAnswer b = gives_up b

-- in their order, until there are no acts any more
abbrev pub far_acts : List Act → Bridge → Turn
far_acts [] b = stays b
far_acts (a ∷ rest) b = unless (far_acts rest) (is_over (far_act a b).0) (far_act a b)

-- the REQUEST that was kept is opened where none is open
abbrev pub opens_next : Option Asked → Option Asked → Bridge → Turn
opens_next None None b = stays b
opens_next None (Some asked) b = opens asked b
opens_next (Some held) next b = stays b

abbrev pub goes_on : Bridge → Turn
goes_on b = if is_over b then stays b else opens_next b.held b.next b

abbrev pub far_turn : Client.Turn → Bridge → Turn
far_turn t b = follows goes_on (far_acts t.1 (record b { far = t.0 }))

abbrev pub far_steps : LinkEvent → Bridge → Turn
far_steps e b = if is_over b then stays b else far_turn (Client.steps e b.far) b

-- ---- runs

-- what is done to a bridge: it is started, or one of its links gives something
pub data Call : Type 0 where
  Started : Call
  NearGave : (event : LinkEvent) → Call
  FarGave : (event : LinkEvent) → Call

abbrev pub turn_of : Call → Bridge → Turn
turn_of Started b = starts b
turn_of (NearGave e) b = near_steps e b
turn_of (FarGave e) b = far_steps e b

-- the bridge behind these calls
abbrev pub after : List Call → Bridge → Bridge
after [] b = b
after (call ∷ calls) b = after calls (turn_of call b).0

-- the doings of these calls
abbrev pub doings : List Call → Bridge → List Doing
doings [] b = []
doings (call ∷ calls) b = (turn_of call b).1 ++ doings calls (turn_of call b).0

-- a bridge that has done nothing
abbrev pub fresh : List ℕ → List ℕ → ℕ → ℕ → ℕ → Bridge
fresh service remote tries wait count = record {
  near = Worker.fresh One service tries 0 count;
  far = Client.fresh One remote tries wait;
  link = 0;
  read = 0;
  held = None;
  next = None;
}
