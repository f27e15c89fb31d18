-- When a worker's end gives up: exactly at the last quiet event of the last try since it heard of the broker.
use Rattle.std.specs.Prelude.{ℕ, ◌≡◌, ◌≤◌, ◌+◌, ◌*◌, ◌==◌, Bool, true, false, ◌&&◌, ◌||◌, not, List, [], ◌∷◌, Option, None, Some, if◌then◌else◌}
use Rattle.std.specs.List.{list_any}
use Rattle.mj_base.specs.declared.link.LinkEvent.{LinkEvent}
use Rattle.mj_base.specs.declared.link.LinkEvent.TheVariants as event
use Rattle.mj_base.specs.declared.version.Version.{Version}
use Rattle.mj_peer.specs.PeerTexts.{order_in, same_version}
use Rattle.mj_peer.specs.Sweeping.{beyond}
use Rattle.mj_peer.specs.WorkerEndRules.{Call, Met, Started, Worker, fresh, turn_of}
use Rattle.mj_peer.specs.declared.act.Act.{Act}
use Rattle.mj_peer.specs.declared.act.Act.TheVariants as act
use Rattle.mj_peer_laws.specs.ClientTries.{given, is_no_answer, is_reopen}
use Rattle.mj_peer_laws.specs.Watching.{AreRight}
use Rattle.mj_wire.specs.declared.item.WireItem.{WireItem}
use Rattle.mj_wire.specs.declared.item.WireItem.TheVariants as item
use Rattle.mj_worker_cmd.specs.declared.command.Order.{Order}
use Rattle.mj_worker_cmd.specs.declared.command.OrderAct.{OrderAct}
use Rattle.mj_worker_cmd.specs.declared.command.OrderAct.TheVariants as order

-- a call, with its acts
pub record Sight : Type 0 where
  pub call : Call
  pub acts : List Act

abbrev pub sights : List Call → Worker → List Sight
sights [] w = []
sights (call ∷ calls) w = record { call = call; acts = (turn_of call w).1 } ∷ sights calls (turn_of call w).0

-- What was seen so far: the quiet events since the worker heard of the broker, or from the start; what the link gave
-- since it was opened; and whether the worker has left or given up.
pub record Scene : Type 0 where
  pub waited : ℕ
  pub stream : List ℕ
  pub over : Bool

abbrev pub nothing : Scene
nothing = record { waited = 0; stream = []; over = false }

-- ---- what comes

-- the broker was heard of, a quiet event, or neither
pub data Mark : Type 0 where
  Heard : Mark
  Quiet : Mark
  Neither : Mark

-- a command of the broker in the worker's version is heard; DISCONNECT is a quiet event
abbrev pub mark_by : OrderAct → Mark
mark_by (order.Request address body) = Heard
mark_by order.Heartbeat = Heard
mark_by order.Disconnect = Quiet

abbrev pub mark_of : Version → Option Order → Mark
mark_of version None = Neither
mark_of version (Some o) = if same_version o.version version then mark_by o.act else Neither

-- and so is a fault of the stream
abbrev pub mark : Version → WireItem → Mark
mark version item.Accepted = Neither
mark version (item.Ready kind) = Neither
mark version (item.Message message) = mark_of version (order_in message)
mark version (item.Ended reason at) = Quiet

-- what comes behind a quiet event is not looked at
abbrev pub before : Mark → List Mark → List Mark
before Heard marks = Heard ∷ marks
before Quiet marks = Quiet ∷ []
before Neither marks = marks

abbrev pub marks : Version → List WireItem → List Mark
marks version [] = []
marks version (x ∷ xs) = before (mark version x) (marks version xs)

-- of a piece the items that it adds; `Idle` and the link's end are quiet events
abbrev pub comes : Version → LinkEvent → List ℕ → List Mark
comes version (event.Given piece) stream = marks version (beyond stream piece)
comes version event.Idle stream = Quiet ∷ []
comes version event.End stream = Quiet ∷ []

abbrev pub met : Version → Call → List ℕ → List Mark
met version Started stream = []
met version (Met e) stream = comes version e stream

abbrev pub streamed : Call → List ℕ → List ℕ
streamed Started stream = stream
streamed (Met e) stream = given e stream

-- ---- counting

abbrev pub is_quiet : Mark → Bool
is_quiet Heard = false
is_quiet Quiet = true
is_quiet Neither = false

-- the quiet events since the broker was heard of, where there were so many before
abbrev pub counted : ℕ → List Mark → ℕ
counted n [] = n
counted n (Heard ∷ marks) = counted 0 marks
counted n (Quiet ∷ marks) = counted (n + 1) marks
counted n (Neither ∷ marks) = counted n marks

-- the worker leaves, behind as many answers as it was to give
abbrev pub is_finished : Act → Bool
is_finished (act.Write text) = false
is_finished act.Reopen = false
is_finished (act.Part body) = false
is_finished (act.Done body) = false
is_finished act.Served = false
is_finished act.Finished = true
is_finished act.NoAnswer = false

abbrev pub counts : Version → Sight → Scene → Scene
counts version x s = record {
  waited = counted s.waited (met version x.call s.stream);
  stream = if list_any is_reopen x.acts then [] else streamed x.call s.stream;
  over = list_any is_no_answer x.acts || list_any is_finished x.acts;
}

-- behind leaving or giving up nothing counts any more
abbrev pub sees : Version → Sight → Scene → Scene
sees version x s = if s.over then s else counts version x s

-- It gives up exactly where a quiet event comes before which it hasn't left, and that is number `tries * 75` since the
-- broker was heard of; from then on nothing is done.
abbrev pub gives_up : Version → ℕ → Sight → Scene → Bool
gives_up version most x s =
    not (list_any is_finished x.acts) && (list_any is_quiet (met version x.call s.stream) && (counted s.waited (met version x.call s.stream) == most))

abbrev pub IsCounted : Bool → Version → ℕ → Sight → Scene → Type 0
IsCounted true version most x s = x.acts ≡ []
IsCounted false version most x s = list_any is_no_answer x.acts ≡ gives_up version most x s

abbrev pub IsRight : Version → ℕ → Sight → Scene → Type 0
IsRight version most x s = IsCounted s.over version most x s

-- of every run
abbrev pub RunsAreRight : Type 0
RunsAreRight = (version : Version) (service : List ℕ) (tries parts count : ℕ) (calls : List Call) → 1 ≤ tries
    → AreRight (IsRight version (tries * 75)) (sees version) (sights calls (fresh version service tries parts count)) nothing
