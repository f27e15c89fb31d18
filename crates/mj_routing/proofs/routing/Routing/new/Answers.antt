use Rattle.std.proofs.Common.{ap}
use Rattle.mj_queue.specs.HallState.{HallState}
use Rattle.mj_routing.specs.Holding.{held_in}
use Rattle.mj_routing.proofs.KeptLemmas.{kept-none}
use Rattle.mj_routing.proofs.HoldingLemmas.{held-none}
use Rattle.mj_routing.proofs.routing.Routing.new.Goals as goal

pub invariant_of-result : goal.invariant_of-result
invariant_of-result c =
    kept-none c.args.limits.now c.new.result c.new-2.result (held_in c.new-3.result) c.new-4.result.leases
    (ap (λ (h : HallState). h.limits) c.new-2.ensures) (ap (λ (h : HallState). h.waiting) c.new-2.ensures) (ap (λ (h : HallState). h.busy) c.new-2.ensures) c.new.ensures (held-none c.new-3.result c.new-3.ensures.empty) c.new-4.ensures
