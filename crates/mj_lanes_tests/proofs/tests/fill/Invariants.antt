use Rattle.std.proofs.Common.{◌<◌, length}
use Rattle.mj_lanes_tests.proofs.tests.fill.Given as goal

abbrev pub invariant-loop-turn : goal.invariant-loop-turn
invariant-loop-turn g l = 0 < length l.hub.outlets
