-- When a client's end stands for the client of the rules, and what its calls do then.
use Rattle.std.specs.Prelude.{◌≡◌, Bool, List, [], ◌∷◌, ◌++◌}
use Rattle.mj_base.specs.StandardLimits.{peer_limits}
use Rattle.mj_wire.specs.WireState.{StandsFor}
use Rattle.mj_peer.specs.ClientEndRules.{Call, Client, Turn, after, turn_of}
use Rattle.mj_peer.specs.Sweeping.{ends, is_ready}
use Rattle.mj_peer.specs.declared.act.Act.{Act}
use Rattle.mj_peer.specs.declared.session.Session.{Session}

-- the session's reader was fed the stream of the present link
pub record Stands (e : Session) (c : Client) : Type 0 where
  pub talk : e.talk ≡ c.talk
  pub wire : StandsFor peer_limits e.wire c.stream
  pub ready : e.ready ≡ is_ready c.stream

-- a turn was done: the session stands for what the turn made, and the turn's acts were added
pub record Does (now : Session) (before after : List Act) (turn : Turn) : Type 0 where
  pub stands : Stands now turn.0
  pub acts : after ≡ before ++ turn.1

-- whatever client the session stood for, this turn of it was done
abbrev pub Follows : Session → Session → List Act → List Act → (Client → Turn) → Type 0
Follows old now before after turn = (c : Client) → Stands old c → Does now before after (turn c)

-- and it ended what came on the link, or didn't
abbrev pub FollowsTo : Bool → Session → Session → List Act → List Act → (Client → Turn) → Type 0
FollowsTo ended old now before after turn = (c : Client) → Stands old c → Does now before after (turn c) × (ended ≡ ends (turn c))

-- behind whatever calls the session stood, it stands behind this call now, and gave this call's acts
abbrev pub GoesOn : Session → Session → List Act → Call → Type 0
GoesOn old now acts call =
    (first : Client) (calls : List Call) → Stands old (after calls first)
    → Stands now (after (calls ++ call ∷ []) first) × (acts ≡ (turn_of call (after calls first)).1)
