use Rattle.std.proofs.Common.{drop}
use Rattle.mj_bridge.specs.BridgeRules.{Bridge, meets_all}
use Rattle.mj_bridge.specs.BridgeStands.{IsLive, Stands}
use Rattle.mj_bridge.proofs.DeckLemmas.{SoFar}
use Rattle.mj_bridge.proofs.deck.Deck.meet_all.Given as goal

abbrev pub invariant-loop-item : goal.invariant-loop-item
invariant-loop-item l = IsLive l.self × ((b : Bridge) → Stands l.fn.self b → SoFar (meets_all l.items b) (drop l.item-index l.items) l.self l.fn.out l.out)
