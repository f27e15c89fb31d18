-- When a worker's end stands for the worker of the rules, and what its calls do then.
use Rattle.std.specs.Prelude.{◌≡◌, ◌%◌, Bool, List, [], ◌∷◌, ◌++◌}
use Rattle.mj_base.specs.StandardLimits.{peer_limits}
use Rattle.mj_wire.specs.WireState.{StandsFor}
use Rattle.mj_peer.specs.Sweeping.{ends, is_ready}
use Rattle.mj_peer.specs.WorkerEndRules.{Call, Turn, Worker, after, turn_of}
use Rattle.mj_peer.specs.declared.act.Act.{Act}
use Rattle.mj_peer.specs.declared.post.Post.{Post}

-- the post's reader was fed the stream of the present link; of the idle events it keeps what is left of them at 25
pub record Stands (e : Post) (w : Worker) : Type 0 where
  pub duty : e.duty ≡ w.duty
  pub wire : StandsFor peer_limits e.wire w.stream
  pub ready : e.ready ≡ is_ready w.stream
  pub beat : e.beat ≡ w.idles % 25

-- a turn was done: the post stands for what the turn made, and the turn's acts were added
pub record Does (now : Post) (before after : List Act) (turn : Turn) : Type 0 where
  pub stands : Stands now turn.0
  pub acts : after ≡ before ++ turn.1

-- whatever worker the post stood for, this turn of it was done
abbrev pub Follows : Post → Post → List Act → List Act → (Worker → Turn) → Type 0
Follows old now before after turn = (w : Worker) → Stands old w → Does now before after (turn w)

-- and it ended what came on the link, or didn't
abbrev pub FollowsTo : Bool → Post → Post → List Act → List Act → (Worker → Turn) → Type 0
FollowsTo ended old now before after turn = (w : Worker) → Stands old w → Does now before after (turn w) × (ended ≡ ends (turn w))

-- behind whatever calls the post stood, it stands behind this call now, and gave this call's acts
abbrev pub GoesOn : Post → Post → List Act → Call → Type 0
GoesOn old now acts call =
    (first : Worker) (calls : List Call) → Stands old (after calls first)
    → Stands now (after (calls ++ call ∷ []) first) × (acts ≡ (turn_of call (after calls first)).1)
