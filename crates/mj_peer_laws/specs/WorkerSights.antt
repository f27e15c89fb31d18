-- What holds of every run of a worker's end, in the words of one who watches it.
use Rattle.std.specs.Prelude.{ℕ, ◌≡◌, ⊤, ◌⊎◌, Bool, true, false, List, [], ◌∷◌, ◌++◌, map, drop, replicate, option_to_list}
use Rattle.std.specs.List.{AllByRecursion}
use Rattle.mj_base.specs.declared.link.LinkEvent.{LinkEvent}
use Rattle.mj_base.specs.declared.link.LinkEvent.TheVariants as event
use Rattle.mj_base.specs.declared.version.Version.{Version}
use Rattle.mj_base.specs.declared.version.Version.TheVariants.{One, Two}
use Rattle.mj_handshake.specs.declared.socket_type.SocketType.TheVariants.{Dealer}
use Rattle.mj_peer.specs.PeerTexts.{hello, said_text}
use Rattle.mj_peer.specs.Sweeping.{beyond}
use Rattle.mj_peer.specs.WorkerEndRules.{Call, Met, Started, Worker, fresh, request_in, turn_of}
use Rattle.mj_peer.specs.declared.act.Act.{Act}
use Rattle.mj_peer.specs.declared.act.Act.TheVariants as act
use Rattle.mj_peer.specs.declared.post.Handed.{Handed}
use Rattle.mj_peer_laws.specs.Watching.{AreRight}
use Rattle.mj_wire.specs.declared.item.WireItem.{WireItem}
use Rattle.mj_worker_cmd.specs.declared.command.WorkerAct.TheVariants as said

-- The end is started, the link gives something, the end acts.
pub data Sight : Type 0 where
  Starts : Sight
  Comes : (event : LinkEvent) → Sight
  Does : (act : Act) → Sight

abbrev pub sight_of : Call → Sight
sight_of Started = Starts
sight_of (Met e) = Comes e

-- each call, and behind it its acts
abbrev pub sights : List Call → Worker → List Sight
sights [] w = []
sights (call ∷ calls) w = sight_of call ∷ (map Does (turn_of call w).1 ++ sights calls (turn_of call w).0)

-- What was seen so far: what the link gave since it was opened, the REQUESTs of it that aren't answered, what was written
-- since something came or was answered, and whether the end has left or given up.
pub record Scene : Type 0 where
  pub stream : List ℕ
  pub due : List Handed
  pub written : List (List ℕ)
  pub over : Bool

abbrev pub nothing : Scene
nothing = record { stream = []; due = []; written = []; over = false }

-- the REQUESTs among these items
abbrev pub requests : Version → List WireItem → List Handed
requests version [] = []
requests version (x ∷ xs) = option_to_list (request_in version x) ++ requests version xs

abbrev pub comes : Version → LinkEvent → Scene → Scene
comes version (event.Given piece) s = record s { stream = s.stream ++ piece; due = s.due ++ requests version (beyond s.stream piece); written = [] }
comes version event.Idle s = record s { written = [] }
comes version event.End s = record s { written = [] }

-- an opening gives up what came on the old link
abbrev pub acts : Act → Scene → Scene
acts (act.Write text) s = record s { written = s.written ++ text ∷ [] }
acts act.Reopen s = record s { stream = []; due = []; written = [] }
acts (act.Part body) s = s
acts (act.Done body) s = s
acts act.Served s = record s { due = drop 1 s.due; written = [] }
acts act.Finished s = record s { over = true }
acts act.NoAnswer s = record s { over = true }

abbrev pub sees : Version → Sight → Scene → Scene
sees version Starts s = record s { written = [] }
sees version (Comes e) s = comes version e s
sees version (Does a) s = acts a s

-- what a worker says of its own accord: how a link begins, READY, HEARTBEAT, DISCONNECT
abbrev pub IsOwn : Version → List ℕ → List ℕ → Type 0
IsOwn version service text =
    (text ≡ hello Dealer) ⊎ ((text ≡ said_text version (said.Ready service)) ⊎ ((text ≡ said_text version said.Heartbeat) ⊎ (text ≡ said_text version said.Disconnect)))

abbrev pub AreOwn : Version → List ℕ → List (List ℕ) → Type 0
AreOwn version service texts = AllByRecursion (IsOwn version service) texts

-- the replies to a REQUEST, with its address and body: partial ones, which only 0.2 has, and the final one
abbrev pub partial_texts : Version → ℕ → Handed → List (List ℕ)
partial_texts One parts r = []
partial_texts Two parts r = replicate parts (said_text Two (said.Reply false r.address r.body))

abbrev pub reply_texts : Version → ℕ → Handed → List (List ℕ)
reply_texts version parts r = partial_texts version parts r ++ said_text version (said.Reply true r.address r.body) ∷ []

-- the first REQUEST that is due was answered: its replies were just written, behind nothing but the worker's own words
pub record IsAnswer (version : Version) (service : List ℕ) (parts : ℕ) (s : Scene) : Type 0 where
  pub request : Handed
  pub later : List Handed
  pub due_is : s.due ≡ request ∷ later
  pub own : List (List ℕ)
  pub are_own : AreOwn version service own
  pub written_is : s.written ≡ own ++ reply_texts version parts request

-- Each REQUEST is answered in its turn. Where the link is opened anew or the end has left, nothing but the worker's own
-- words was written since the last answer.
abbrev pub IsRightAct : Version → List ℕ → ℕ → Act → Scene → Type 0
IsRightAct version service parts (act.Write text) s = ⊤
IsRightAct version service parts act.Reopen s = AreOwn version service s.written
IsRightAct version service parts (act.Part body) s = ⊥
IsRightAct version service parts (act.Done body) s = ⊥
IsRightAct version service parts act.Served s = IsAnswer version service parts s
IsRightAct version service parts act.Finished s = AreOwn version service s.written
IsRightAct version service parts act.NoAnswer s = AreOwn version service s.written

-- Before anything else comes all REQUESTs were answered, unless the end has left or given up; and nothing but the worker's
-- own words was written since the last answer.
pub record IsQuiet (version : Version) (service : List ℕ) (s : Scene) : Type 0 where
  pub answered : (s.over ≡ true) ⊎ (s.due ≡ [])
  pub are_own : AreOwn version service s.written

abbrev pub IsRight : Version → List ℕ → ℕ → Sight → Scene → Type 0
IsRight version service parts Starts s = IsQuiet version service s
IsRight version service parts (Comes e) s = IsQuiet version service s
IsRight version service parts (Does a) s = IsRightAct version service parts a s

-- of every run
abbrev pub RunsAreRight : Type 0
RunsAreRight = (version : Version) (service : List ℕ) (tries parts count : ℕ) (calls : List Call)
    → AreRight (IsRight version service parts) (sees version) (sights calls (fresh version service tries parts count)) nothing
