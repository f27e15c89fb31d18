-- The rows, orders and numbers of a hall hold these two lists.
use Rattle.std.specs.Prelude.{◌≡◌, ◌+◌, ◌-◌, ◌^◌, ◌<◌, true, false, List, map, None}
use Rattle.mj_chain.specs.Seats.{Seat}
use Rattle.mj_queue.specs.Settling.{queued, queued_weight}
use Rattle.mj_hall.specs.declared.hall.Hall.TheInside.{Inside}
use Rattle.mj_hall.specs.declared.kept.Queued.{Queued}
use Rattle.mj_hall.specs.declared.kept.Worker.{Worker}
use Rattle.mj_hall.specs.Asking.{Asking}
use Rattle.mj_hall.specs.Desks.{Desks, PeopledBut}
use Rattle.mj_hall.specs.Ends.{EndsAre, ends_from}
use Rattle.mj_hall.specs.Floor.{labels_below, labels_rise, requests_of}
use Rattle.mj_hall.specs.HallValue.{HallValue}
use Rattle.mj_hall.specs.Ready.{ReadyBut}
use Rattle.mj_hall.specs.Serving.{Serving, workers_of}
use Rattle.mj_hall.specs.Walk.{walk}

pub record Stands (h : Inside) (es : List (Seat Queued)) (ws : List (Seat Worker)) : Type 0 where
  pub asking : Asking h.requests h.clients.pairs h.tickets.pairs es
  pub serving : Serving h.workers h.conns.pairs ws
  pub desks : Desks h.desks h.names es ws
  pub peopled : PeopledBut None h.names es ws
  pub ready : ReadyBut None h.pairs.pairs es ws
  pub asked : EndsAre h.request_first h.request_last h.request_count es
  pub waiting : EndsAre h.waiting_first h.waiting_last h.waiting_count (workers_of false ws)
  pub busy : EndsAre h.busy_first h.busy_last h.busy_count (workers_of true ws)
  pub rise : labels_rise es ≡ true
  pub below : labels_below h.next es ≡ true
  pub number : h.queued ≡ queued (requests_of es)
  pub weight : h.weight ≡ queued_weight (requests_of es)
  pub fits : h.waiting_count + h.busy_count < 2 ^ 64

abbrev pub IsHall : Inside → Type 0
IsHall h = (es : List (Seat Queued)) × (ws : List (Seat Worker)) × Stands h es ws

abbrev pub seen : Inside → HallValue
seen h = record {
  state = record {
    limits = h.limits;
    waiting = map (λ w. w.waiter) (walk h.waiting_count h.workers (ends_from h.waiting_first h.waiting_last h.waiting_count).first);
    busy = map (λ w. w.waiter) (walk h.busy_count h.workers (ends_from h.busy_first h.busy_last h.busy_count).first);
    requests = map (λ q. q.request) (walk h.request_count h.requests (ends_from h.request_first h.request_last h.request_count).first);
  };
  labels = 2 ^ 64 - 1 - h.next;
}
