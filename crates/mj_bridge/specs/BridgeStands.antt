-- When a bridge's machine stands for the bridge of the rules, and what its calls do then.
use Rattle.std.specs.Prelude.{ℕ, ◌≡◌, ◌≤◌, ◌==◌, ⊤, Bool, false, List, [], ◌∷◌, ◌++◌, map, Option, None, Some}
use Rattle.mj_base.specs.declared.version.Version.TheVariants.{One}
use Rattle.mj_bridge.specs.BridgeRules.{Asked, Bridge, Call, Turn, after, all_acts, move_all, near_turn, opens, turn_of}
use Rattle.mj_bridge.specs.BridgeSights.{IsFree}
use Rattle.mj_bridge.specs.declared.act.BridgeAct.{BridgeAct}
use Rattle.mj_bridge.specs.declared.act.BridgeAct.TheVariants as side
use Rattle.mj_bridge.specs.declared.deck.Deck.{Deck}
use Rattle.mj_peer.specs.ClientStands as Client
use Rattle.mj_peer.specs.Sweeping as Sweeping
use Rattle.mj_peer.specs.WorkerEndRules as Worker
use Rattle.mj_peer.specs.WorkerEndRules.{request_in}
use Rattle.mj_peer.specs.WorkerStands as Post
use Rattle.mj_peer.specs.declared.act.Act.{Act}
use Rattle.mj_peer.specs.declared.post.Handed.{Handed}
use Rattle.mj_wire.specs.declared.item.WireItem.{WireItem}

-- the deck has the address of the open REQUEST, and knows whether the near link is still the one that it came on
abbrev pub IsHeld : Option (List ℕ) → Bool → Option Asked → ℕ → Type 0
IsHeld None here None link = ⊤
IsHeld None here (Some asked) link = ⊥
IsHeld (Some address) here None link = ⊥
IsHeld (Some address) here (Some asked) link = (address ≡ asked.handed.address) × (here ≡ (asked.link == link)) × (asked.link ≤ link)

-- it has the REQUEST that is kept, which is of the present near link
abbrev pub IsKept : Option Handed → Option Asked → ℕ → Type 0
IsKept None None link = ⊤
IsKept None (Some asked) link = ⊥
IsKept (Some handed) None link = ⊥
IsKept (Some handed) (Some asked) link = (handed ≡ asked.handed) × (asked.link ≡ link)

-- the two ends stand for those of the rules, and the deck has what is to be answered
pub record Holds (e : Deck) (b : Bridge) : Type 0 where
  pub near : Post.Stands e.near b.near
  pub one : b.near.duty.version ≡ One
  pub far : Client.Stands e.far.session b.far
  pub held : IsHeld e.held e.here b.held b.link
  pub next : IsKept e.next b.next b.link

-- and where no REQUEST is open the far end may be asked
pub record Stands (e : Deck) (b : Bridge) : Type 0 where
  pub holds : Holds e b
  pub free : IsFree b

-- a turn was done: the deck stands for what the turn made, and the turn's acts were added
pub record Does (now : Deck) (before after : List BridgeAct) (turn : Turn) : Type 0 where
  pub stands : Stands now turn.0
  pub acts : after ≡ before ++ all_acts turn.1

-- whatever bridge the deck stood for, this turn of it was done
abbrev pub Follows : Deck → Deck → List BridgeAct → List BridgeAct → (Bridge → Turn) → Type 0
Follows old now before after turn = (b : Bridge) → Stands old b → Does now before after (turn b)

-- and it ended what came on the near link, or didn't
abbrev pub FollowsTo : Bool → Deck → Deck → List BridgeAct → List BridgeAct → (Bridge → Turn) → (Bridge → Bool) → Type 0
FollowsTo ended old now before after turn ends = (b : Bridge) → Stands old b → Does now before after (turn b) × (ended ≡ ends b)

-- an item that is no REQUEST was met
abbrev pub Meets : Bool → Deck → Deck → List BridgeAct → List BridgeAct → WireItem → Type 0
Meets ended old now before after x =
    (b : Bridge) → Stands old b → request_in b.near.duty.version x ≡ None
    → Does now before after (near_turn (Worker.meets x b.near) b) × (ended ≡ Sweeping.ends (Worker.meets x b.near))

-- a REQUEST of the present near link was asked far where none was open
abbrev pub Opens : Deck → Deck → List BridgeAct → List BridgeAct → Handed → Type 0
Opens old now before after handed =
    (b : Bridge) (asked : Asked) → Stands old b → b.held ≡ None → asked.handed ≡ handed → asked.link ≡ b.link → Does now before after (opens asked b)

-- these acts of the near side were handed out
pub record HandsOut (old now : Deck) (before after : List BridgeAct) (handed : List Act) : Type 0 where
  pub holds : (b : Bridge) → Holds old b → Holds now (move_all handed b)
  pub acts : after ≡ before ++ map side.Near handed
  pub near : now.near ≡ old.near
  pub far : now.far ≡ old.far

-- a part of a far turn was done, behind which the far end may still have a request open
pub record Passes (now : Deck) (before after : List BridgeAct) (turn : Turn) : Type 0 where
  pub holds : Holds now turn.0
  pub acts : after ≡ before ++ all_acts turn.1

abbrev pub PassesOn : Deck → Deck → List BridgeAct → List BridgeAct → (Bridge → Turn) → Type 0
PassesOn old now before after turn = (b : Bridge) → Holds old b → Passes now before after (turn b)

-- no end has run out of memory
abbrev pub IsLive : Deck → Type 0
IsLive e = (e.near.wire.spent ≡ false) × (e.far.spent ≡ false)

-- behind whatever calls the deck stood, it stands behind this call now, and gave this call's acts
abbrev pub GoesOn : Deck → Deck → List BridgeAct → Call → Type 0
GoesOn old now acts call =
    (first : Bridge) (calls : List Call) → Stands old (after calls first)
    → Stands now (after (calls ++ call ∷ []) first) × (acts ≡ all_acts (turn_of call (after calls first)).1)
