use Rattle.std.proofs.lemmas.Result.{on_ok_weaker}
use Rattle.mj_bridge.proofs.DeckLemmas.{greeted, still-live}
use Rattle.mj_bridge.proofs.deck.Deck.greet.Goals as goal

pub returns-clause-turn : goal.returns-clause-turn
returns-clause-turn c =
    on_ok_weaker c.hand_near.result
    (λ h. greeted c.args.self.now c.hand_near.new.self c.new-acts.result c.greet.new.acts c.args.out.now c.hand_near.new.out c.new-acts.ensures c.in_ok-greet.ensures h) c.hand_near.ensures

pub returns-clause-live : goal.returns-clause-live
returns-clause-live c =
    on_ok_weaker c.hand_near.result (λ h. still-live c.args.self.now c.hand_near.new.self c.args.out.now c.hand_near.new.out c.greet.new.acts h c.requires.0 c.requires.1) c.hand_near.ensures
