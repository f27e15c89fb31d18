-- Requests numbered anew: their labels change, and nothing else of them.
use Rattle.std.specs.Prelude.{◌≡◌, ℕ, suc, ◌==◌, true, if◌then◌else◌, List, [], ◌∷◌, map, None}
use Rattle.mj_counted.specs.declared.index.Index.{Index}
use Rattle.mj_counted.specs.declared.rows.Rows.{Rows}
use Rattle.mj_chain.specs.declared.desk.Desk.{Desk}
use Rattle.mj_chain.specs.declared.node.Node.{Node}
use Rattle.mj_chain.specs.Nodes.{RowsAre}
use Rattle.mj_chain.specs.Seats.{Seat, are_distinct, seat_key}
use Rattle.mj_hall.specs.declared.kept.Queued.{Queued}
use Rattle.mj_hall.specs.declared.kept.Worker.{Worker}
use Rattle.mj_hall.specs.Asking.{queued_classes}
use Rattle.mj_hall.specs.Desks.{Desks}
use Rattle.mj_hall.specs.Ready.{ReadyBut}

abbrev pub with_label : ℕ → Queued → Queued
with_label label q = record { request = q.request; label = label; desk = q.desk }

abbrev pub node_with : ℕ → Node Queued → Node Queued
node_with label n = record { value = with_label label n.value; all = n.all; service = n.service; origin = n.origin }

abbrev pub seat_with : ℕ → Seat Queued → Seat Queued
seat_with label s = record { key = s.key; value = with_label label s.value }

-- the request of this key has this label
abbrev pub relabelled : ℕ → ℕ → List (Seat Queued) → List (Seat Queued)
relabelled k label es = map (λ s. seat_with (if s.key == k then label else s.value.label) s) es

-- the labels are `first` and the numbers behind it, in the order of the list
abbrev pub numbered : ℕ → List (Seat Queued) → List (Seat Queued)
numbered first [] = []
numbered first (s ∷ ss) = seat_with first s ∷ numbered (suc first) ss

-- the rows hold this list of requests, and the order has the pairs of all desks
pub record Marked (requests : Rows (Node Queued)) (pairs : List (ℕ × ℕ)) (places : Rows Desk) (names : Index) (es : List (Seat Queued)) (ws : List (Seat Worker)) : Type 0 where
  pub distinct : are_distinct seat_key es ≡ true
  pub rows : RowsAre queued_classes requests es
  pub desks : Desks places names es ws
  pub ready : ReadyBut None pairs es ws
