-- What callers see of a hall: the flat lists, and how many labels are left.
use Rattle.std.specs.Prelude.{ℕ, ◌-◌, ◌^◌, ◌==◌, Bool, List, length, if◌then◌else◌}
use Rattle.std.specs.Str.{bytes_eq}
use Rattle.mj_queue.specs.declared.request.Request.{Request}
use Rattle.mj_queue.specs.HallState.{HallState}

pub record HallValue : Type 0 where
  pub state : HallState
  pub labels : ℕ

-- the labels that a request may take: where none is left, those that are once all requests are numbered from 0
abbrev pub labels_to_give : HallValue → ℕ
labels_to_give hall = if hall.labels == 0 then 2 ^ 64 - 1 - length hall.state.requests else hall.labels

-- the request is for this service
abbrev pub asks_for : List ℕ → Request → Bool
asks_for service request = bytes_eq request.service service
