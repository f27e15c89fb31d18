use Rattle.std.proofs.Common.{◌≡◌}
use Rattle.mj_lanes.proofs.ends.TakeEnd.look.Given as goal

abbrev pub invariant-loop-look : goal.invariant-loop-look
invariant-loop-look g l = l.self ≡ l.fn.self
