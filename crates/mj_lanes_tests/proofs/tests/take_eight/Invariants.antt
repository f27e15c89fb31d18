use Rattle.std.proofs.Common.{◌≡◌}
use Rattle.mj_lanes_tests.proofs.tests.take_eight.Given as goal

abbrev pub invariant-loop-turn : goal.invariant-loop-turn
invariant-loop-turn g l = (l.hub.inbox ≡ l.fn.hub.inbox) × (l.hub.outlets ≡ l.fn.hub.outlets)
