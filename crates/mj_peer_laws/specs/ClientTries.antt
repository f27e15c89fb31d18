-- When a client's end gives a request up: exactly at the last quiet event of the last try.
use Rattle.std.specs.Prelude.{ℕ, ◌≡◌, ◌≤◌, ◌+◌, ◌*◌, ◌==◌, Bool, true, false, ◌&&◌, not, List, [], ◌∷◌, ◌++◌, if◌then◌else◌}
use Rattle.std.specs.List.{list_any}
use Rattle.mj_base.specs.declared.link.LinkEvent.{LinkEvent}
use Rattle.mj_base.specs.declared.link.LinkEvent.TheVariants as event
use Rattle.mj_base.specs.declared.version.Version.{Version}
use Rattle.mj_peer.specs.ClientEndRules.{Asked, Call, Client, Met, fresh, turn_of}
use Rattle.mj_peer.specs.Sweeping.{beyond}
use Rattle.mj_peer.specs.declared.act.Act.{Act}
use Rattle.mj_peer.specs.declared.act.Act.TheVariants as act
use Rattle.mj_peer_laws.specs.Watching.{AreRight}
use Rattle.mj_wire.specs.declared.item.WireItem.{WireItem}
use Rattle.mj_wire.specs.declared.item.WireItem.TheVariants as item

-- a call, with its acts
pub record Sight : Type 0 where
  pub call : Call
  pub acts : List Act

abbrev pub sights : List Call → Client → List Sight
sights [] c = []
sights (call ∷ calls) c = record { call = call; acts = (turn_of call c).1 } ∷ sights calls (turn_of call c).0

-- What was seen so far: whether a request is open, the quiet events since it was asked, what the link gave since it was
-- opened, and whether a request was given up.
pub record Scene : Type 0 where
  pub asking : Bool
  pub waited : ℕ
  pub stream : List ℕ
  pub over : Bool

abbrev pub nothing : Scene
nothing = record { asking = false; waited = 0; stream = []; over = false }

abbrev pub is_done : Act → Bool
is_done (act.Write text) = false
is_done act.Reopen = false
is_done (act.Part body) = false
is_done (act.Done body) = true
is_done act.Served = false
is_done act.Finished = false
is_done act.NoAnswer = false

abbrev pub is_no_answer : Act → Bool
is_no_answer (act.Write text) = false
is_no_answer act.Reopen = false
is_no_answer (act.Part body) = false
is_no_answer (act.Done body) = false
is_no_answer act.Served = false
is_no_answer act.Finished = false
is_no_answer act.NoAnswer = true

abbrev pub is_reopen : Act → Bool
is_reopen (act.Write text) = false
is_reopen act.Reopen = true
is_reopen (act.Part body) = false
is_reopen (act.Done body) = false
is_reopen act.Served = false
is_reopen act.Finished = false
is_reopen act.NoAnswer = false

abbrev pub is_fault : WireItem → Bool
is_fault item.Accepted = false
is_fault (item.Ready kind) = false
is_fault (item.Message message) = false
is_fault (item.Ended reason at) = true

-- a quiet event: `Idle`, the link's end, or a piece with which its stream breaks the rules
abbrev pub is_quiet : LinkEvent → List ℕ → Bool
is_quiet (event.Given piece) stream = list_any is_fault (beyond stream piece)
is_quiet event.Idle stream = true
is_quiet event.End stream = true

abbrev pub given : LinkEvent → List ℕ → List ℕ
given (event.Given piece) stream = stream ++ piece
given event.Idle stream = stream
given event.End stream = stream

-- the request is open still behind a call with these acts, but for giving up
abbrev pub waits : Scene → List Act → Bool
waits s acts = s.asking && not (list_any is_done acts)

-- whether the call is a quiet event of the open request
abbrev pub is_waited : Call → List Act → Scene → Bool
is_waited (Asked body) acts s = false
is_waited (Met e) acts s = waits s acts && is_quiet e s.stream

-- a request that is asked begins with none; after giving up nothing counts any more
abbrev pub counts : Call → List Act → Scene → Scene
counts (Asked body) acts s = record s { asking = true; waited = 0 }
counts (Met e) acts s = record {
  asking = waits s acts;
  waited = if is_waited (Met e) acts s then s.waited + 1 else s.waited;
  stream = if list_any is_reopen acts then [] else given e s.stream;
  over = list_any is_no_answer acts;
}

abbrev pub sees : Sight → Scene → Scene
sees x s = if s.over then s else counts x.call x.acts s

-- It is given up exactly at quiet event `tries * wait` since it was asked; from then on nothing is done.
abbrev pub IsCounted : Bool → ℕ → Sight → Scene → Type 0
IsCounted true most x s = x.acts ≡ []
IsCounted false most x s = list_any is_no_answer x.acts ≡ (is_waited x.call x.acts s && (s.waited + 1 == most))

abbrev pub IsRight : ℕ → Sight → Scene → Type 0
IsRight most x s = IsCounted s.over most x s

abbrev pub RunsAreRight : Type 0
RunsAreRight = (version : Version) (service : List ℕ) (tries wait : ℕ) (calls : List Call) → 1 ≤ tries → 1 ≤ wait
    → AreRight (IsRight (tries * wait)) sees (sights calls (fresh version service tries wait)) nothing
