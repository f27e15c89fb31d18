-- Which desks have a pair: a worker that waits there and a request. Each stands in an order by the label of its first request.
use Rattle.std.specs.Prelude.{◌≡◌, ℕ, false, not, ◌&&◌, List, [], ◌∷◌, Option, None, Some}
use Rattle.mj_counted.specs.Pairs.{has_pair, is_pair}
use Rattle.mj_chain.specs.Seats.{Seat, is_key}
use Rattle.mj_hall.specs.declared.kept.Queued.{Queued}
use Rattle.mj_hall.specs.declared.kept.Worker.{Worker}
use Rattle.mj_hall.specs.Asking.{of_desk}
use Rattle.mj_hall.specs.Serving.{workers_at}

-- the label of the first request, where neither list is empty
abbrev pub first_pair : ℕ → List (Seat Worker) → List (Seat Queued) → Option (ℕ × ℕ)
first_pair d [] es = None
first_pair d (w ∷ ws) [] = None
first_pair d (w ∷ ws) (e ∷ es) = Some (e.value.label, d)

abbrev pub pair_in : List (Seat Queued) → List (Seat Worker) → ℕ → Option (ℕ × ℕ)
pair_in es ws d = first_pair d (workers_at false d ws) (of_desk d es)

-- the order has the pair of each desk but the hidden one
abbrev pub ReadyBut : Option ℕ → List (ℕ × ℕ) → List (Seat Queued) → List (Seat Worker) → Type 0
ReadyBut hidden pairs es ws = (p : ℕ × ℕ) → has_pair p pairs ≡ (not (is_key p.1 hidden) && is_pair p (pair_in es ws p.1))
