-- However what a link gives is cut into pieces, an end does the same.
use Rattle.std.specs.Prelude.{ℕ, ◌≡◌, Bool, true, false, List, [], ◌∷◌, ◌++◌, if◌then◌else◌}
use Rattle.std.specs.List.{concat, list_any}
use Rattle.mj_base.specs.declared.link.LinkEvent.{LinkEvent}
use Rattle.mj_base.specs.declared.link.LinkEvent.TheVariants as event
use Rattle.mj_copy.specs.FollowRules.{Appended, Following, Met, Opened, Told, awaits_link, follow_steps, follow_turn}
use Rattle.mj_copy.specs.ShipRules.{Shipping, ShipTurn, ship_runs, ship_steps}
use Rattle.mj_copy.specs.declared.follow_act.FollowAct.{FollowAct}
use Rattle.mj_copy.specs.declared.follow_act.FollowAct.TheVariants as follows
use Rattle.mj_copy.specs.declared.ship_act.ShipAct.{ShipAct}
use Rattle.mj_copy.specs.declared.ship_act.ShipAct.TheVariants as ships

-- ---- pieces

-- one turn, and then another
abbrev pub then_turn : {S T A : Type 0} → (S → T × List A) → S × List A → T × List A
then_turn next turn = ((next turn.0).0, turn.1 ++ (next turn.0).1)

-- one turn, and then another, unless the first leaves the link
abbrev pub unless_left : {S A : Type 0} → Bool → (S → S × List A) → S × List A → S × List A
unless_left true next turn = turn
unless_left false next turn = then_turn next turn

-- The pieces of what one link gives, one behind the other, up to one at which the link is left: what the old link has
-- left is never read.
abbrev pub gets : {S A : Type 0} → (A → Bool) → (List ℕ → S → S × List A) → List (List ℕ) → S → S × List A
gets leaves turn [] s = (s, [])
gets leaves turn (piece ∷ pieces) s = unless_left (list_any leaves (turn piece s).1) (gets leaves turn pieces) (turn piece s)

-- ---- ship

abbrev pub ship_leaves : ShipAct → Bool
ship_leaves (ships.Write octets) = false
ship_leaves (ships.SendAt n) = false
ship_leaves ships.Reopen = true
ship_leaves ships.Done = false
ship_leaves ships.NoAnswer = false

abbrev pub ship_gets : List (List ℕ) → Shipping → ShipTurn
ship_gets pieces s = gets ship_leaves (λ piece. ship_steps (event.Given piece)) pieces s

-- these pieces, and then whatever comes
abbrev pub ship_acts_of : List (List ℕ) → List LinkEvent → Shipping → List ShipAct
ship_acts_of pieces behind s = (then_turn (ship_runs behind) (ship_gets pieces s)).1

-- whatever came before, and whatever comes behind
abbrev pub ShipIgnoresCuts : Type 0
ShipIgnoresCuts =
    (s : Shipping) (first other : List ℕ) (pieces others : List (List ℕ)) (behind : List LinkEvent) → concat (first ∷ pieces) ≡ concat (other ∷ others)
    → ship_acts_of (first ∷ pieces) behind s ≡ ship_acts_of (other ∷ others) behind s

-- ---- follow

-- what the file answers: it is open and has so many commands; the payload is appended, or refused
pub data FileAnswer : Type 0 where
  Has : (count : ℕ) → FileAnswer
  Takes : FileAnswer
  Refuses : FileAnswer

abbrev pub told_of : FileAnswer → Told
told_of (Has count) = Opened count
told_of Takes = Appended
told_of Refuses = Met event.End

-- an end, and what its file is still to answer, to one act after the other
pub record Copying : Type 0 where
  pub following : Following
  pub answers : List FileAnswer

abbrev pub CopyTurn : Type 0
CopyTurn = Copying × List FollowAct

-- While the end waits for its file, it is told what that answers. Where the file answers no more, it waits on.
abbrev pub answered : List FileAnswer → Following → CopyTurn
answered [] f = (record { following = f; answers = [] }, [])
answered (answer ∷ answers) f =
    if awaits_link f.awaits then (record { following = f; answers = answer ∷ answers }, []) else then_turn (answered answers) (follow_turn (told_of answer) f)

-- the link is read where the end doesn't wait for its file
abbrev pub copy_steps : LinkEvent → Copying → CopyTurn
copy_steps e c = if awaits_link c.following.awaits then then_turn (answered c.answers) (follow_steps e c.following) else (c, [])

abbrev pub copy_runs : List LinkEvent → Copying → CopyTurn
copy_runs [] c = (c, [])
copy_runs (e ∷ events) c = then_turn (copy_runs events) (copy_steps e c)

abbrev pub follow_leaves : FollowAct → Bool
follow_leaves (follows.Write octets) = false
follow_leaves (follows.Open base) = false
follow_leaves (follows.Append payload) = false
follow_leaves follows.Reopen = true
follow_leaves follows.Done = false
follow_leaves follows.NoAnswer = false

abbrev pub copy_gets : List (List ℕ) → Copying → CopyTurn
copy_gets pieces c = gets follow_leaves (λ piece. copy_steps (event.Given piece)) pieces c

-- these pieces, and then whatever comes
abbrev pub copy_acts_of : List (List ℕ) → List LinkEvent → Copying → List FollowAct
copy_acts_of pieces behind c = (then_turn (copy_runs behind) (copy_gets pieces c)).1

-- whatever came before, whatever the file answers, and whatever comes behind
abbrev pub FollowIgnoresCuts : Type 0
FollowIgnoresCuts =
    (f : Following) (answers : List FileAnswer) (first other : List ℕ) (pieces others : List (List ℕ)) (behind : List LinkEvent) → concat (first ∷ pieces) ≡ concat (other ∷ others)
    → copy_acts_of (first ∷ pieces) behind (record { following = f; answers = answers }) ≡ copy_acts_of (other ∷ others) behind (record { following = f; answers = answers })
