use Rattle.std.proofs.Common.{◌≡◌, ◌≤◌, ◌+◌, ◌-◌, length}
use Rattle.mj_due.specs.Leases.{due_pairs}
use Rattle.mj_due.proofs.orders.count_due.Given as goal

abbrev pub invariant-loop-at : goal.invariant-loop-at
invariant-loop-at g l = (l.at ≤ length (due_pairs l.now l.order.pairs)) × (l.steps ≡ l.fn.steps + l.at)

abbrev pub decreases-loop-at : goal.decreases-loop-at
decreases-loop-at g l = length (due_pairs l.now l.order.pairs) - l.at
