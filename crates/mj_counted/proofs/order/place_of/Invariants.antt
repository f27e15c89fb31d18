use Rattle.std.proofs.Common.{◌≤◌, ◌-◌, length}
use Rattle.mj_counted.specs.Pairs.{below}
use Rattle.mj_counted.proofs.order.place_of.Given as goal

abbrev pub invariant-loop-low : goal.invariant-loop-low
invariant-loop-low l = (l.low ≤ below l.pair l.pairs) × (below l.pair l.pairs ≤ l.high) × (l.high ≤ length l.pairs)

abbrev pub decreases-loop-low : goal.decreases-loop-low
decreases-loop-low l = l.high - l.low
