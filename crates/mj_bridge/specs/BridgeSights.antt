-- What holds of every run of a bridge, in the words of one who watches it.
use Rattle.std.specs.Prelude.{ℕ, suc, ◌≡◌, ◌≤◌, ◌==◌, ⊤, ◌⊎◌, Bool, true, false, List, [], ◌∷◌, Option, None, Some}
use Rattle.mj_base.specs.declared.version.Version.TheVariants.{One}
use Rattle.mj_bridge.specs.BridgeRules.{Answers, Asked, Bridge, Call, Doing, Far, Gets, Near, Opens, Reads, after, doings, fresh}
use Rattle.mj_handshake.specs.declared.socket_type.SocketType.TheVariants.{Dealer}
use Rattle.mj_peer.specs.PeerTexts.{hello, said_text}
use Rattle.mj_peer.specs.declared.act.Act.{Act}
use Rattle.mj_peer.specs.declared.act.Act.TheVariants as act
use Rattle.mj_peer_laws.specs.Watching.{AreRight, seen}
use Rattle.mj_worker_cmd.specs.declared.command.WorkerAct.TheVariants as said

-- What was seen so far: how often the near link was opened anew, the REQUESTs that were read, the one that is asked far,
-- the answer that the far end just gave for a REQUEST of the present near link, and from which number on none is answered.
pub record Scene : Type 0 where
  pub link : ℕ
  pub read : ℕ
  pub known : List Asked
  pub asking : Option Asked
  pub got : Option (Asked × List (List ℕ))
  pub answered : ℕ

abbrev pub nothing : Scene
nothing = record { link = 0; read = 0; known = []; asking = None; got = None; answered = 0 }

abbrev pub sees_act : Act → Scene → Scene
sees_act (act.Write text) s = s
sees_act act.Reopen s = record s { link = suc s.link }
sees_act (act.Part body) s = s
sees_act (act.Done body) s = s
sees_act act.Served s = s
sees_act act.Finished s = s
sees_act act.NoAnswer s = s

-- an answer is due where the near link is still that of the REQUEST
abbrev pub due : Bool → Asked → List (List ℕ) → Option (Asked × List (List ℕ))
due true asked body = Some (asked, body)
due false asked body = None

abbrev pub sees : Doing → Scene → Scene
sees (Near a) s = sees_act a s
sees (Far a) s = s
sees (Reads asked) s = record s { read = suc s.read; known = asked ∷ s.known }
sees (Opens asked) s = record s { asking = Some asked }
sees (Gets asked body) s = record s { asking = None; got = due (asked.link == s.link) asked body }
sees (Answers asked body) s = record s { got = None; answered = suc asked.number }

abbrev pub IsAmong : Asked → List Asked → Type 0
IsAmong asked [] = ⊥
IsAmong asked (one ∷ rest) = (asked ≡ one) ⊎ IsAmong asked rest

-- what a worker says of its own accord: how a link begins, READY, HEARTBEAT, DISCONNECT
abbrev pub IsOwn : List ℕ → List ℕ → Type 0
IsOwn service text =
    (text ≡ hello Dealer) ⊎ ((text ≡ said_text One (said.Ready service)) ⊎ ((text ≡ said_text One said.Heartbeat) ⊎ (text ≡ said_text One said.Disconnect)))

-- beside the answers nothing is written near but a worker's own words, and nothing is counted as served
abbrev pub IsNearAct : List ℕ → Act → Type 0
IsNearAct service (act.Write text) = IsOwn service text
IsNearAct service act.Reopen = ⊤
IsNearAct service (act.Part body) = ⊥
IsNearAct service (act.Done body) = ⊥
IsNearAct service act.Served = ⊥
IsNearAct service act.Finished = ⊤
IsNearAct service act.NoAnswer = ⊤

-- what the far end gives isn't handed out
abbrev pub IsFarAct : Act → Type 0
IsFarAct (act.Write text) = ⊤
IsFarAct act.Reopen = ⊤
IsFarAct (act.Part body) = ⊥
IsFarAct (act.Done body) = ⊥
IsFarAct act.Served = ⊥
IsFarAct act.Finished = ⊥
IsFarAct act.NoAnswer = ⊤

-- A REQUEST that is read has the next number and is of the present near link. Asked far is only a REQUEST of the present
-- near link that was read, and only where none is open. The far end's answer is for the open one, and closes it. Where an
-- answer is due nothing is done before it is written; what is written is the answer that the far end just gave for that
-- REQUEST, on the REQUEST's link, and of a later REQUEST than all that were answered.
abbrev pub IsRight : List ℕ → Doing → Scene → Type 0
IsRight service (Near a) s = (s.got ≡ None) × IsNearAct service a
IsRight service (Far a) s = (s.got ≡ None) × IsFarAct a
IsRight service (Reads asked) s = (s.got ≡ None) × (asked.number ≡ s.read) × (asked.link ≡ s.link)
IsRight service (Opens asked) s = (s.got ≡ None) × IsAmong asked s.known × (s.asking ≡ None) × (asked.link ≡ s.link)
IsRight service (Gets asked body) s = (s.got ≡ None) × (s.asking ≡ Some asked)
IsRight service (Answers asked body) s = (s.got ≡ Some (asked, body)) × (asked.link ≡ s.link) × (s.answered ≤ asked.number)

-- of every run; and behind a call no answer is due
abbrev pub RunsAreRight : Type 0
RunsAreRight = (service remote : List ℕ) (tries wait count : ℕ) (calls : List Call)
    → AreRight (IsRight service) sees (doings calls (fresh service remote tries wait count)) nothing
    × ((seen sees (doings calls (fresh service remote tries wait count)) nothing).got ≡ None)

-- where no REQUEST is open, the far side has no request open: it may be asked
abbrev pub IsFree : Bridge → Type 0
IsFree b = b.held ≡ None → b.far.talk.request ≡ None

abbrev pub FarSideIsFree : Type 0
FarSideIsFree = (service remote : List ℕ) (tries wait count : ℕ) (calls : List Call) → IsFree (after calls (fresh service remote tries wait count))
