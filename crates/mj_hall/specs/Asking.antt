-- The requests of a hall: rows that hold a list, and the orders that tell the last request of a client or of a ticket.
use Rattle.std.specs.Prelude.{◌≡◌, ℕ, ◌==◌, Bool, true, false, List, length, None}
use Rattle.std.specs.List.{filter}
use Rattle.mj_counted.specs.declared.rows.Rows.{Rows}
use Rattle.mj_counted.specs.Rows.{entries}
use Rattle.mj_counted.specs.Pairs.{has_pair}
use Rattle.mj_chain.specs.declared.node.Node.{Node}
use Rattle.mj_chain.specs.Nodes.{Classes, RowsAre}
use Rattle.mj_chain.specs.Seats.{Seat, are_distinct, is_key, last_from, seat_key}
use Rattle.mj_queue.specs.declared.request.Origin.{Origin}
use Rattle.mj_queue.specs.declared.request.Origin.TheVariants.{Client, Ticket}
use Rattle.mj_hall.specs.declared.kept.Queued.{Queued}

abbrev pub same_origin : Origin → Origin → Bool
same_origin (Client n) (Client m) = m == n
same_origin (Client n) (Ticket m) = false
same_origin (Ticket n) (Client m) = false
same_origin (Ticket n) (Ticket m) = m == n

-- the row j is found by this origin
abbrev pub has_origin : List (ℕ × ℕ) → List (ℕ × ℕ) → ℕ → Origin → Bool
has_origin clients tickets j (Client n) = has_pair (n, j) clients
has_origin clients tickets j (Ticket n) = has_pair (n, j) tickets

abbrev pub queued_classes : Classes Queued
queued_classes = record { all = λ a b. true; service = λ a b. b.desk == a.desk; origin = λ a b. same_origin a.request.origin b.request.origin }

-- the requests of one who asks, and of one service
abbrev pub of_origin : Origin → List (Seat Queued) → List (Seat Queued)
of_origin origin es = filter (λ s. same_origin origin s.value.request.origin) es

abbrev pub of_desk : ℕ → List (Seat Queued) → List (Seat Queued)
of_desk desk es = filter (λ s. s.value.desk == desk) es

-- the order has the last request of each number
abbrev pub HasLast : (ℕ → Origin) → List (ℕ × ℕ) → List (Seat Queued) → Type 0
HasLast make pairs es = (p : ℕ × ℕ) → has_pair p pairs ≡ is_key p.1 (last_from seat_key None (of_origin (make p.0) es))

pub record Asking (requests : Rows (Node Queued)) (clients tickets : List (ℕ × ℕ)) (es : List (Seat Queued)) : Type 0 where
  pub distinct : are_distinct seat_key es ≡ true
  pub rows : RowsAre queued_classes requests es
  pub count : entries requests ≡ length es
  pub by_client : HasLast (λ n. Client n) clients es
  pub by_ticket : HasLast (λ n. Ticket n) tickets es
