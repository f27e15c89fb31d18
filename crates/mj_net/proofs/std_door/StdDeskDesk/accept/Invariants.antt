use Rattle.std.proofs.Common.{◌≤◌}
use Rattle.mj_net.proofs.std_door.StdDeskDesk.accept.Given as goal

abbrev pub invariant-loop-turn : goal.invariant-loop-turn
invariant-loop-turn g l = l.fn.self.faults ≤ l.self.faults
