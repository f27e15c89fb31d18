use Rattle.mj_bridge.specs.BridgeRules.{Bridge}
use Rattle.mj_bridge.specs.BridgeStands.{Holds, IsLive}
use Rattle.mj_bridge.proofs.DeckLemmas.{Passing}
use Rattle.mj_bridge.proofs.deck.Deck.pass_all.Given as goal

abbrev pub invariant-loop-act : goal.invariant-loop-act
invariant-loop-act l = IsLive l.self × ((b : Bridge) → Holds l.fn.self b → Passing l.fn.self l.self l.fn.out l.out l.yielded b)
