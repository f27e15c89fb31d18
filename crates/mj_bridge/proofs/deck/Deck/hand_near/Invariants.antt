use Rattle.mj_bridge.specs.BridgeStands.{HandsOut}
use Rattle.mj_bridge.proofs.deck.Deck.hand_near.Given as goal

abbrev pub invariant-loop-act : goal.invariant-loop-act
invariant-loop-act l = HandsOut l.fn.self l.self l.fn.out l.out l.yielded
