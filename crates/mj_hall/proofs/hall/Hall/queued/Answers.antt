use Rattle.std.proofs.Common.{◌∙◌, ap}
use Rattle.mj_queue.specs.Settling.{queued}
use Rattle.mj_hall.specs.HallValue.{HallValue}
use Rattle.mj_hall.proofs.HallLemmas.{value_is}
use Rattle.mj_hall.proofs.hall.Hall.queued.Goals as goal

pub returns : goal.returns
returns c =
    c.self.invariant.2.number
    ∙ ap (λ (v : HallValue). queued v.state.requests) (value_is c.self.inside c.self.invariant.0 c.self.invariant.1 c.args.self.now c.self.invariant.2 c.self.view_is)
