-- The rules of a worker's end: from what its link gave, what it does.
use Rattle.std.specs.Prelude.{ℕ, ◌+◌, ◌-◌, ◌^◌, ◌%◌, ◌==◌, min, nat_lt, nat_le, Bool, true, false, ◌&&◌, List, [], ◌∷◌, ◌++◌, replicate, Option, None, Some, if◌then◌else◌}
use Rattle.mj_base.specs.declared.link.LinkEvent.{LinkEvent}
use Rattle.mj_base.specs.declared.link.LinkEvent.TheVariants as event
use Rattle.mj_base.specs.declared.version.Version.{Version}
use Rattle.mj_base.specs.declared.version.Version.TheVariants.{One, Two}
use Rattle.mj_handshake.specs.declared.socket_type.SocketType.TheVariants.{Dealer}
use Rattle.mj_peer.specs.PeerTexts.{hello, order_in, said_text, same_version}
use Rattle.mj_peer.specs.Sweeping.{beyond, is_ready, sweep}
use Rattle.mj_peer.specs.declared.act.Act.{Act}
use Rattle.mj_peer.specs.declared.act.Act.TheVariants as act
use Rattle.mj_peer.specs.declared.duty.Duty.{Duty}
use Rattle.mj_peer.specs.declared.post.Handed.{Handed}
use Rattle.mj_peer.specs.declared.verdict.Verdict.{Verdict}
use Rattle.mj_peer.specs.declared.verdict.Verdict.TheVariants.{Stay, Again, Lost}
use Rattle.mj_wire.specs.declared.item.WireItem.{WireItem}
use Rattle.mj_wire.specs.declared.item.WireItem.TheVariants as item
use Rattle.mj_worker_cmd.specs.declared.command.Order.{Order}
use Rattle.mj_worker_cmd.specs.declared.command.OrderAct.{OrderAct}
use Rattle.mj_worker_cmd.specs.declared.command.OrderAct.TheVariants as order
use Rattle.mj_worker_cmd.specs.declared.command.WorkerAct.TheVariants as said

-- what it was told and has counted, the stream of the present link, and how often that link was `Idle` since the worker's
-- READY was written on it
pub record Worker : Type 0 where
  pub duty : Duty
  pub stream : List ℕ
  pub idles : ℕ

-- the worker after a call, with the call's acts
abbrev pub Turn : Type 0
Turn = Worker × List Act

-- ---- a link begins

abbrev pub greets : List Act
greets = act.Write (hello Dealer) ∷ []

abbrev pub reopens : Worker → Turn
reopens w = (record { duty = w.duty; stream = []; idles = 0 }, act.Reopen ∷ greets)

-- ---- quiet events: `Idle`, the link's end, a fault of its stream, DISCONNECT

-- a try has 75: behind the last one of the last try the worker gives up, behind the last one of another the link is opened
-- anew. An end opens it anew in the same try, too
abbrev pub verdict : Bool → Duty → Verdict
verdict ended d =
    if nat_lt d.quiet 74 then (if ended then Again else Stay)
    else if nat_lt d.tried (d.tries - 1) then Again
    else Lost

abbrev pub counted : Duty → Duty
counted d =
    if nat_lt d.quiet 74 then record d { quiet = d.quiet + 1 }
    else if nat_lt d.tried (d.tries - 1) then record d { tried = d.tried + 1; quiet = 0 }
    else record d { over = true }

abbrev pub follows : Verdict → Worker → Turn
follows Stay w = (w, [])
follows Again w = reopens w
follows Lost w = (w, act.NoAnswer ∷ [])

abbrev pub quiets : Bool → Worker → Turn
quiets ended w = follows (verdict ended w.duty) (record w { duty = counted w.duty })

-- each 25th `Idle` since the worker's READY writes HEARTBEAT
abbrev pub beat_acts : Version → ℕ → List Act
beat_acts version idles = if idles % 25 == 0 then act.Write (said_text version said.Heartbeat) ∷ [] else []

abbrev pub beats : Worker → Turn
beats w = (w, beat_acts w.duty.version w.idles)

abbrev pub idles_on : Bool → Worker → Turn
idles_on ready w = if ready then beats (record w { idles = w.idles + 1 }) else (w, [])

abbrev pub idling : Worker → Turn
idling w = idles_on (is_ready w.stream) w

abbrev pub follows_idle : Verdict → Worker → Turn
follows_idle Stay w = idling w
follows_idle Again w = reopens w
follows_idle Lost w = (w, act.NoAnswer ∷ [])

abbrev pub rests : Worker → Turn
rests w = follows_idle (verdict false w.duty) (record w { duty = counted w.duty })

-- ---- what the broker says

-- an order of the worker's version
abbrev pub heard : Duty → Duty
heard d = record d { tried = 0; quiet = 0 }

abbrev pub served : Duty → Duty
served d = record d { served = min (d.served + 1) (2 ^ 64 - 1) }

-- a count of 0 has no end
abbrev pub is_finished : Duty → Bool
is_finished d = nat_lt 0 d.count && nat_le d.count d.served

abbrev pub finishes : Bool → Worker → Turn
finishes finished w =
    if finished then (record w { duty = record w.duty { over = true } }, act.Write (said_text w.duty.version said.Disconnect) ∷ act.Finished ∷ []) else (w, [])

abbrev pub finishing : Worker → Turn
finishing w = finishes (is_finished w.duty) w

abbrev pub answer : Version → Bool → List ℕ → List (List ℕ) → Act
answer version last address body = act.Write (said_text version (said.Reply last address body))

-- only 0.2 has partial replies
abbrev pub partials : Version → ℕ → List ℕ → List (List ℕ) → List Act
partials One parts address body = []
partials Two parts address body = replicate parts (answer Two false address body)

-- the partial replies, the final one, and the mark that a REQUEST was served
abbrev pub answers : Duty → List ℕ → List (List ℕ) → List Act
answers d address body = partials d.version d.parts address body ++ (answer d.version true address body ∷ act.Served ∷ [])

-- a REQUEST is answered, at once or later
abbrev pub serves : List ℕ → List (List ℕ) → Worker → Turn
serves address body w =
    let v : Worker = record w { duty = served w.duty } in
    ((finishing v).0, answers w.duty address body ++ (finishing v).1)

-- it leaves, whatever was to come
abbrev pub leaving : Worker → Worker
leaving w = record w { duty = record w.duty { over = true } }

abbrev pub hearing : Worker → Worker
hearing w = record w { duty = heard w.duty }

abbrev pub obeys : OrderAct → Worker → Turn
obeys (order.Request address body) w = serves address body (hearing w)
obeys order.Heartbeat w = (hearing w, [])
obeys order.Disconnect w = quiets true w

abbrev pub hears : Option Order → Worker → Turn
hears None w = (w, [])
hears (Some o) w = if same_version o.version w.duty.version then obeys o.act w else (w, [])

-- the worker's READY
abbrev pub registers : Duty → List Act
registers d = act.Write (said_text d.version (said.Ready d.service)) ∷ []

abbrev pub meets : WireItem → Worker → Turn
meets item.Accepted w = (w, [])
meets (item.Ready kind) w = (w, registers w.duty)
meets (item.Message message) w = hears (order_in message) w
meets (item.Ended reason at) w = quiets true w

-- ---- calls

-- a piece came, whose items are still to be met
abbrev pub takes : List ℕ → Worker → Worker
takes piece w = record w { stream = w.stream ++ piece }

abbrev pub gives : List ℕ → Worker → Turn
gives piece w = sweep meets (beyond w.stream piece) (takes piece w)

abbrev pub happens : LinkEvent → Worker → Turn
happens (event.Given piece) w = gives piece w
happens event.Idle w = rests w
happens event.End w = quiets true w

-- what the link gave; after `Finished` or `NoAnswer` nothing is done any more
abbrev pub steps : LinkEvent → Worker → Turn
steps e w = if w.duty.over then (w, []) else happens e w

abbrev pub starts : Worker → Turn
starts w = if w.duty.over then (w, []) else (w, greets)

-- ---- REQUESTs

-- the REQUEST of this version that an order, or an item, is
abbrev pub handed_by : OrderAct → Option Handed
handed_by (order.Request address body) = Some (record { address = address; body = body })
handed_by order.Heartbeat = None
handed_by order.Disconnect = None

abbrev pub request_by : Version → Option Order → Option Handed
request_by version None = None
request_by version (Some o) = if same_version o.version version then handed_by o.act else None

abbrev pub request_in : Version → WireItem → Option Handed
request_in version item.Accepted = None
request_in version (item.Ready kind) = None
request_in version (item.Message message) = request_by version (order_in message)
request_in version (item.Ended reason at) = None

-- ---- runs

-- what is done to an end: it is started, or its link gives something
pub data Call : Type 0 where
  Started : Call
  Met : (event : LinkEvent) → Call

abbrev pub turn_of : Call → Worker → Turn
turn_of Started w = starts w
turn_of (Met e) w = steps e w

-- the worker behind these calls
abbrev pub after : List Call → Worker → Worker
after [] w = w
after (call ∷ calls) w = after calls (turn_of call w).0

-- the acts of these calls
abbrev pub acts_of : List Call → Worker → List Act
acts_of [] w = []
acts_of (call ∷ calls) w = (turn_of call w).1 ++ acts_of calls (turn_of call w).0

abbrev pub fresh_duty : Version → List ℕ → ℕ → ℕ → ℕ → Duty
fresh_duty version service tries parts count =
    record { version = version; service = service; tries = tries; parts = parts; count = count; tried = 0; quiet = 0; served = 0; over = false }

-- an end that has done nothing
abbrev pub fresh : Version → List ℕ → ℕ → ℕ → ℕ → Worker
fresh version service tries parts count = record { duty = fresh_duty version service tries parts count; stream = []; idles = 0 }
