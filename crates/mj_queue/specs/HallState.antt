-- What the hall keeps (the ZeroMQ guide, chapter 4, the broker's queues).
use Rattle.std.specs.Prelude.{List}
use Rattle.mj_base.specs.declared.limits.Limits.{Limits}
use Rattle.mj_queue.specs.declared.request.Request.{Request}
use Rattle.mj_queue.specs.declared.worker.Waiter.{Waiter}

-- the waiting workers, longest waiting first; the busy ones; and the requests, oldest first
pub record HallState : Type 0 where
  pub limits : Limits
  pub waiting : List Waiter
  pub busy : List Waiter
  pub requests : List Request
