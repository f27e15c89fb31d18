-- What holds of every run of a client's end, in the words of one who watches it.
use Rattle.std.specs.Prelude.{ℕ, ◌≡◌, ⊤, ◌⊎◌, Bool, true, false, List, [], ◌∷◌, ◌++◌, map, Option, None, Some}
use Rattle.mj_base.specs.declared.link.LinkEvent.{LinkEvent}
use Rattle.mj_base.specs.declared.link.LinkEvent.TheVariants as event
use Rattle.mj_base.specs.declared.version.Version.{Version}
use Rattle.mj_client_cmd.specs.declared.command.ClientReply.{ClientReply}
use Rattle.mj_peer.specs.ClientEndRules.{Asked, Call, Client, Met, fresh, turn_of}
use Rattle.mj_peer.specs.PeerTexts.{client_type, hello, reply_in, request_text}
use Rattle.mj_peer.specs.Sweeping.{beyond, is_ready}
use Rattle.mj_peer.specs.declared.act.Act.{Act}
use Rattle.mj_peer.specs.declared.act.Act.TheVariants as act
use Rattle.mj_peer_laws.specs.Watching.{AreRight}
use Rattle.mj_wire.specs.declared.item.WireItem.{WireItem}
use Rattle.mj_wire.specs.declared.item.WireItem.TheVariants as item

-- A request is asked, the link gives something, the end acts.
pub data Sight : Type 0 where
  Asks : (body : List (List ℕ)) → Sight
  Comes : (event : LinkEvent) → Sight
  Does : (act : Act) → Sight

abbrev pub sight_of : Call → Sight
sight_of (Asked body) = Asks body
sight_of (Met e) = Comes e

-- each call, and behind it its acts
abbrev pub sights : List Call → Client → List Sight
sights [] c = []
sights (call ∷ calls) c = sight_of call ∷ (map Does (turn_of call c).1 ++ sights calls (turn_of call c).0)

-- What was seen so far: the body of the open request, what the link gave since it was opened, and the items of that
-- which came last.
pub record Scene : Type 0 where
  pub asking : Option (List (List ℕ))
  pub stream : List ℕ
  pub last : List WireItem

abbrev pub nothing : Scene
nothing = record { asking = None; stream = []; last = [] }

abbrev pub comes : LinkEvent → Scene → Scene
comes (event.Given piece) s = record s { stream = s.stream ++ piece; last = beyond s.stream piece }
comes event.Idle s = record s { last = [] }
comes event.End s = record s { last = [] }

-- an opening begins a stream, a final reply and giving up close the request
abbrev pub acts : Act → Scene → Scene
acts (act.Write text) s = s
acts act.Reopen s = record s { stream = []; last = [] }
acts (act.Part body) s = s
acts (act.Done body) s = record s { asking = None }
acts act.Served s = s
acts act.Finished s = s
acts act.NoAnswer s = record s { asking = None }

abbrev pub sees : Sight → Scene → Scene
sees (Asks body) s = record s { asking = Some body; last = [] }
sees (Comes e) s = comes e s
sees (Does a) s = acts a s

-- the open request is written, on a link whose stream has the broker's READY
pub record IsRequest (version : Version) (service text : List ℕ) (s : Scene) : Type 0 where
  pub body : List (List ℕ)
  pub open_is : s.asking ≡ Some body
  pub text_is : text ≡ request_text version service body
  pub ready : is_ready s.stream ≡ true

-- this body came with a message of the link that was read last, a reply for this service in this version, while a
-- request was open
pub record IsReply (version : Version) (service : List ℕ) (final : Bool) (body : List (List ℕ)) (s : Scene) : Type 0 where
  pub asked : List (List ℕ)
  pub open_is : s.asking ≡ Some asked
  pub message : List (List ℕ)
  pub before : List WireItem
  pub after : List WireItem
  pub came : s.last ≡ before ++ item.Message message ∷ after
  pub reply : ClientReply
  pub reads : reply_in message ≡ Some reply
  pub version_is : reply.version ≡ version
  pub service_is : reply.service ≡ service
  pub final_is : reply.last ≡ final
  pub body_is : reply.body ≡ body

-- What is written is how a link begins, or the open request. What is handed out is such a reply; a final one closes the
-- request, so that a request gets one at most.
abbrev pub IsRightAct : Version → List ℕ → Act → Scene → Type 0
IsRightAct version service (act.Write text) s = (text ≡ hello (client_type version)) ⊎ IsRequest version service text s
IsRightAct version service act.Reopen s = ⊤
IsRightAct version service (act.Part body) s = IsReply version service false body s
IsRightAct version service (act.Done body) s = IsReply version service true body s
IsRightAct version service act.Served s = ⊥
IsRightAct version service act.Finished s = ⊥
IsRightAct version service act.NoAnswer s = ⊤

abbrev pub IsRight : Version → List ℕ → Sight → Scene → Type 0
IsRight version service (Asks body) s = ⊤
IsRight version service (Comes e) s = ⊤
IsRight version service (Does a) s = IsRightAct version service a s

-- of every run
abbrev pub RunsAreRight : Type 0
RunsAreRight = (version : Version) (service : List ℕ) (tries wait : ℕ) (calls : List Call)
    → AreRight (IsRight version service) sees (sights calls (fresh version service tries wait)) nothing
