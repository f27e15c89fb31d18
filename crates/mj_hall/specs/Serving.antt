-- The workers of a hall: rows that hold a list, and the order that finds a worker by its connection.
use Rattle.std.specs.Prelude.{◌≡◌, ℕ, ◌==◌, Bool, true, false, not, ◌&&◌, List, length, Option, None, Some}
use Rattle.std.specs.List.{filter}
use Rattle.mj_counted.specs.declared.rows.Rows.{Rows}
use Rattle.mj_counted.specs.Rows.{entries}
use Rattle.mj_counted.specs.Pairs.{has_pair}
use Rattle.mj_chain.specs.declared.node.Node.{Node}
use Rattle.mj_chain.specs.Nodes.{Classes, RowsAre}
use Rattle.mj_chain.specs.Seats.{Seat, are_distinct, found, seat_key}
use Rattle.mj_hall.specs.declared.kept.Worker.{Worker}

abbrev pub same_bool : Bool → Bool → Bool
same_bool true b = b
same_bool false b = not b

abbrev pub worker_classes : Classes Worker
worker_classes = record { all = λ a b. same_bool a.busy b.busy; service = λ a b. same_bool a.busy b.busy && (b.desk == a.desk); origin = λ a b. b.waiter.worker == a.waiter.worker }

-- the busy workers or those that wait, and those of them at one desk
abbrev pub workers_of : Bool → List (Seat Worker) → List (Seat Worker)
workers_of busy ws = filter (λ s. same_bool busy s.value.busy) ws

abbrev pub workers_at : Bool → ℕ → List (Seat Worker) → List (Seat Worker)
workers_at busy desk ws = filter (λ s. same_bool busy s.value.busy && (s.value.desk == desk)) ws

-- this is a worker of connection n
abbrev pub is_of_conn : ℕ → Option Worker → Bool
is_of_conn n None = false
is_of_conn n (Some w) = w.waiter.worker == n

-- no worker has connection n
abbrev pub NoneOf : ℕ → List (Seat Worker) → Type 0
NoneOf n ws = (k : ℕ) → is_of_conn n (found k ws) ≡ false

pub record Serving (workers : Rows (Node Worker)) (conns : List (ℕ × ℕ)) (ws : List (Seat Worker)) : Type 0 where
  pub distinct : are_distinct seat_key ws ≡ true
  pub rows : RowsAre worker_classes workers ws
  pub count : entries workers ≡ length ws
  pub by_conn : (p : ℕ × ℕ) → has_pair p conns ≡ is_of_conn p.0 (found p.1 ws)
  pub single : (n j k : ℕ) → is_of_conn n (found j ws) ≡ true → is_of_conn n (found k ws) ≡ true → j ≡ k
