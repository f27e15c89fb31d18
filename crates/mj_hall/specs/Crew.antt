-- The workers of a hall with all that is kept of them, beside requests that stay; and the requests, beside workers that stay.
use Rattle.std.specs.Prelude.{◌≡◌, ℕ, ◌==◌, true, false, not, List, None}
use Rattle.std.specs.List.{filter}
use Rattle.mj_counted.specs.declared.index.Index.{Index}
use Rattle.mj_counted.specs.declared.rows.Rows.{Rows}
use Rattle.mj_chain.specs.declared.desk.Desk.{Desk}
use Rattle.mj_chain.specs.declared.node.Node.{Node}
use Rattle.mj_chain.specs.Nodes.{RowsAre}
use Rattle.mj_chain.specs.Seats.{Seat, are_distinct, seat_key}
use Rattle.mj_queue.specs.Settling.{queued, queued_weight}
use Rattle.mj_hall.specs.declared.kept.Queued.{Queued}
use Rattle.mj_hall.specs.declared.kept.Worker.{Worker}
use Rattle.mj_hall.specs.Asking.{Asking, queued_classes}
use Rattle.mj_hall.specs.Desks.{Desks}
use Rattle.mj_hall.specs.Ends.{EndsAre}
use Rattle.mj_hall.specs.Floor.{requests_of}
use Rattle.mj_hall.specs.Ready.{ReadyBut}
use Rattle.mj_hall.specs.Serving.{Serving, workers_of}

pub record Crew (requests : Rows (Node Queued)) (workers : Rows (Node Worker)) (conns : List (ℕ × ℕ)) (places : Rows Desk) (names : Index) (pairs : List (ℕ × ℕ)) (waiting_first waiting_last waiting_count busy_first busy_last busy_count : ℕ) (es : List (Seat Queued)) (ws : List (Seat Worker)) : Type 0 where
  pub distinct : are_distinct seat_key es ≡ true
  pub rows : RowsAre queued_classes requests es
  pub serving : Serving workers conns ws
  pub desks : Desks places names es ws
  pub ready : ReadyBut None pairs es ws
  pub waiting : EndsAre waiting_first waiting_last waiting_count (workers_of false ws)
  pub busy : EndsAre busy_first busy_last busy_count (workers_of true ws)

pub record Queue (requests : Rows (Node Queued)) (clients tickets : List (ℕ × ℕ)) (places : Rows Desk) (names : Index) (pairs : List (ℕ × ℕ)) (first last count number heavy : ℕ) (es : List (Seat Queued)) (ws : List (Seat Worker)) : Type 0 where
  pub asking : Asking requests clients tickets es
  pub workers : are_distinct seat_key ws ≡ true
  pub desks : Desks places names es ws
  pub ready : ReadyBut None pairs es ws
  pub ends : EndsAre first last count es
  pub counted : number ≡ queued (requests_of es)
  pub weighs : heavy ≡ queued_weight (requests_of es)

-- the workers but for that of connection n
abbrev pub without_conn : ℕ → List (Seat Worker) → List (Seat Worker)
without_conn n ws = filter (λ s. not (s.value.waiter.worker == n)) ws
