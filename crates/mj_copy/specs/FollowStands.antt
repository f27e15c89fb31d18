-- What the code of follow stands for.
use Rattle.std.specs.Prelude.{ℕ, ◌≡◌, ◌⊎◌, Bool, List, [], ◌∷◌, ◌++◌, drop, suc, if◌then◌else◌}
use Rattle.mj_base.specs.declared.link.LinkEvent.{LinkEvent}
use Rattle.mj_base.specs.declared.link.LinkEvent.TheVariants as event
use Rattle.mj_copy.specs.FollowRules.{Following, FollowTurn, follow_all, follow_gains, follow_takes, follow_then}
use Rattle.mj_copy.specs.Messages.{Message}
use Rattle.mj_copy.specs.declared.awaits.Awaits.{Awaits}
use Rattle.mj_copy.specs.declared.awaits.Awaits.TheVariants as waits
use Rattle.mj_copy.specs.declared.follow.Follow.{Follow}
use Rattle.mj_copy.specs.declared.follow_act.FollowAct.{FollowAct}
use Rattle.mj_copy.specs.declared.follow_act.FollowAct.TheVariants as act

abbrev pub following_of : Follow → Following
following_of e = record {
  tries = e.tries;
  kept = e.kept.items;
  quiet = e.quiet;
  used = e.used;
  based = e.based;
  opened = e.opened;
  base = e.base;
  count = e.count;
  awaits = e.awaits;
  phase = e.phase;
}

abbrev pub IsFile : Awaits → Type 0
IsFile waits.Link = ⊥
IsFile (waits.File base) = Unit {0}
IsFile (waits.Append payload) = ⊥

abbrev pub IsAppend : Awaits → Type 0
IsAppend waits.Link = ⊥
IsAppend (waits.File base) = ⊥
IsAppend (waits.Append payload) = Unit {0}

-- the link is read where nothing is under way; an append that isn't made ends the link
abbrev pub MayStep : Awaits → LinkEvent → Type 0
MayStep awaits e = (awaits ≡ waits.Link) ⊎ (IsAppend awaits × (e ≡ event.End))

-- the state, and the acts behind those before, are the rules'
abbrev pub Follows : Follow → Follow → List FollowAct → List FollowAct → (Following → FollowTurn) → Type 0
Follows old now before after turn =
    (following_of now ≡ (turn (following_of old)).0) × (after ≡ before ++ (turn (following_of old)).1)

-- a message is taken whose body is the first bytes that are kept
abbrev pub takes_front : Message → ℕ → Following → FollowTurn
takes_front message size f = follow_takes message (record f { kept = drop size f.kept })

abbrev pub takes_payload : List ℕ → ℕ → Following → FollowTurn
takes_payload payload size f = (record f { kept = drop size f.kept; awaits = waits.Append payload }, act.Append payload ∷ [])

abbrev pub IsTurn : Follow → List FollowAct → FollowTurn → Type 0
IsTurn now acts turn = (following_of now ≡ turn.0) × (acts ≡ turn.1)

-- one message was looked for: what `follow_all` comes to from here, whether it goes on or stops
pub record TakesOne (old now : Follow) (before after : List FollowAct) (more : Bool) : Type 0 where
  pub added : List FollowAct
  pub acts : after ≡ before ++ added
  pub rest : (most : ℕ) → follow_all (suc most) (following_of old) ≡ (if more then follow_then (follow_all most) (following_of now, added) else (following_of now, added))

abbrev pub behind : List FollowAct → FollowTurn → FollowTurn
behind so_far turn = (turn.0, so_far ++ turn.1)

-- messages were taken, and at most so many are left to be looked for
pub record Swept (start now : Follow) (before after : List FollowAct) (left : ℕ) : Type 0 where
  pub so_far : List FollowAct
  pub acts : after ≡ before ++ so_far
  pub rest : follow_gains (following_of start) ≡ behind so_far (follow_all left (following_of now))
