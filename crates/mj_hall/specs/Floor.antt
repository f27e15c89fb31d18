-- What a hall stands for: the flat lists of its rows, in the order in which they came.
use Rattle.std.specs.Prelude.{ℕ, nat_lt, Bool, true, ◌&&◌, List, [], ◌∷◌, map}
use Rattle.std.specs.List.{list_all}
use Rattle.mj_chain.specs.Seats.{Seat}
use Rattle.mj_queue.specs.declared.request.Request.{Request}
use Rattle.mj_queue.specs.declared.worker.Waiter.{Waiter}
use Rattle.mj_hall.specs.declared.kept.Queued.{Queued}
use Rattle.mj_hall.specs.declared.kept.Worker.{Worker}

abbrev pub requests_of : List (Seat Queued) → List Request
requests_of es = map (λ s. s.value.request) es

abbrev pub waiters_of : List (Seat Worker) → List Waiter
waiters_of ws = map (λ s. s.value.waiter) ws

-- each label is below all behind it
abbrev pub labels_rise : List (Seat Queued) → Bool
labels_rise [] = true
labels_rise (s ∷ ss) = list_all (λ t. nat_lt s.value.label t.value.label) ss && labels_rise ss

-- no label has reached the next one
abbrev pub labels_below : ℕ → List (Seat Queued) → Bool
labels_below next es = list_all (λ s. nat_lt s.value.label next) es
