use Rattle.std.proofs.Common.{◌≡◌, ◌++◌, map}
use Rattle.mj_bridge.specs.declared.act.BridgeAct.TheVariants as side
use Rattle.mj_bridge.proofs.deck.hand_far.Given as goal

abbrev pub invariant-loop-act : goal.invariant-loop-act
invariant-loop-act l = l.out ≡ l.fn.out ++ map side.Far l.yielded
