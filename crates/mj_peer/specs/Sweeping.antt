-- Turns of an end: what it becomes, with what it does.
use Rattle.std.specs.Prelude.{ℕ, Bool, true, false, List, [], ◌∷◌, ◌++◌, drop, length}
use Rattle.std.specs.List.{list_any}
use Rattle.mj_base.specs.StandardLimits.{peer_limits}
use Rattle.mj_peer.specs.declared.act.Act.{Act}
use Rattle.mj_peer.specs.declared.act.Act.TheVariants as act
use Rattle.mj_wire.specs.StreamItems.{stream_items}
use Rattle.mj_wire.specs.declared.item.WireItem.{WireItem}
use Rattle.mj_wire.specs.declared.item.WireItem.TheVariants as item

-- behind these acts nothing that came on the old link is looked at: it was opened anew, or the end has no more to do
abbrev pub is_end : Act → Bool
is_end (act.Write text) = false
is_end act.Reopen = true
is_end (act.Part body) = false
is_end (act.Done body) = false
is_end act.Served = false
is_end act.Finished = true
is_end act.NoAnswer = true

-- the turn has such an act
abbrev pub ends : {S : Type 0} → S × List Act → Bool
ends turn = list_any is_end turn.1

-- one turn, and then another, unless the first ends what came on the link
abbrev pub behind : {S : Type 0} → (S → S × List Act) → Bool → S × List Act → S × List Act
behind more true turn = turn
behind more false turn = ((more turn.0).0, turn.1 ++ (more turn.0).1)

-- a turn for each of these, in order, up to one that ends what came on the link
abbrev pub sweep : {S X : Type 0} → (X → S → S × List Act) → List X → S → S × List Act
sweep turn [] s = (s, [])
sweep turn (x ∷ xs) s = behind (sweep turn xs) (ends (turn x s)) (turn x s)

-- the items of a link's stream, read with the limits of a peer
abbrev pub items : List ℕ → List WireItem
items stream = stream_items peer_limits stream

-- those that a further piece adds
abbrev pub beyond : List ℕ → List ℕ → List WireItem
beyond stream piece = drop (length (items stream)) (items (stream ++ piece))

abbrev pub is_ready_item : WireItem → Bool
is_ready_item item.Accepted = false
is_ready_item (item.Ready kind) = true
is_ready_item (item.Message message) = false
is_ready_item (item.Ended reason at) = false

-- the broker's READY was read on this link
abbrev pub is_ready : List ℕ → Bool
is_ready stream = list_any is_ready_item (items stream)
