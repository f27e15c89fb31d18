-- A sweep in the making, and a piece that a reader took.
use Rattle.std.proofs.Common.{◌≡◌, ℕ, Bool, true, false, List, [], ◌++◌, length, drop, refl, sym, ap, ◌∙◌, append_assoc, append-nil}
use Rattle.std.proofs.lemmas.Bool.{false≢true}
use Rattle.std.proofs.Math.Seq.{drop-append_seam}
use Rattle.mj_base.specs.declared.limits.Limits.{Limits}
use Rattle.mj_wire.specs.StreamItems.{gained, items_from, items_within, stream_items}
use Rattle.mj_wire.specs.WireState.{State, StandsFor}
use Rattle.mj_wire.specs.declared.item.WireItem.{WireItem}
use Rattle.mj_peer.specs.Sweeping.{behind, is_ready}
use Rattle.mj_peer.specs.declared.act.Act.{Act}

-- what was done so far and what is left are the whole
pub record Goes {S : Type 0} (whole left : S × List Act) (before now : List Act) : Type 0 where
  pub state : left.0 ≡ whole.0
  pub acts : now ++ left.1 ≡ before ++ whole.1

pub goes-on : {S : Type 0} (more : S → S × List Act) (ended : Bool) (turn whole : S × List Act) (before now next : List Act)
    → ended ≡ false → next ≡ now ++ turn.1 → Goes whole (behind more ended turn) before now → Goes whole (more turn.0) before next
goes-on more true turn whole before now next e a g = absurd (false≢true (sym e))
goes-on more false turn whole before now next e a g =
    record { state = g.state; acts = ap (λ (l : List Act). l ++ (more turn.0).1) a ∙ append_assoc now turn.1 (more turn.0).1 ∙ g.acts }

pub goes-stops : {S : Type 0} (more : S → S × List Act) (ended : Bool) (turn whole : S × List Act) (before now next : List Act)
    → ended ≡ true → next ≡ now ++ turn.1 → Goes whole (behind more ended turn) before now → (turn.0 ≡ whole.0) × (next ≡ before ++ whole.1)
goes-stops more true turn whole before now next e a g = (g.state, a ∙ g.acts)
goes-stops more false turn whole before now next e a g = absurd (false≢true e)

pub goes-done : {S : Type 0} (s : S) (whole : S × List Act) (before now : List Act) → Goes whole (s, []) before now → (s ≡ whole.0) × (now ≡ before ++ whole.1)
goes-done s whole before now g = (g.state, sym (append-nil now) ∙ g.acts)

-- ---- the items of a link

due : (limits : Limits) (w : State) (stream piece : List ℕ) → StandsFor limits w stream
    → stream_items limits (stream ++ piece) ≡ stream_items limits stream ++ items_from limits w.place (w.rest ++ piece)
unfolding stream_items
due limits w stream piece s = s.goes_on piece

pub items-grow : (limits : Limits) (w : State) (stream piece : List ℕ) → StandsFor limits w stream
    → stream_items limits (stream ++ piece) ≡ stream_items limits stream ++ gained limits stream piece
items-grow limits w stream piece s =
    let whole = due limits w stream piece s in
    let more = items_from limits w.place (w.rest ++ piece) in
    whole ∙ ap (λ (l : List WireItem). stream_items limits stream ++ l)
    (sym (ap (λ (l : List WireItem). drop (length (stream_items limits stream)) l) whole ∙ drop-append_seam (stream_items limits stream) more))

pub nothing-ready : is_ready [] ≡ false
unfolding stream_items items_from items_within
nothing-ready = refl
