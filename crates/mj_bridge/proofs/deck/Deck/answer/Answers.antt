use Rattle.std.proofs.lemmas.Result.{on_ok_weaker}
use Rattle.mj_bridge.proofs.DeckLemmas.{served, still-live}
use Rattle.mj_bridge.proofs.deck.Deck.answer.Goals as goal

pub returns-clause-turn : goal.returns-clause-turn
returns-clause-turn c =
    on_ok_weaker c.hand_near.result
    (λ h. served c.args.self.now c.hand_near.new.self c.answer.new.self c.new-acts.result c.answer.new.acts c.args.out.now c.hand_near.new.out c.in_ok-answer.field-0 c.args.address.now c.args.body.now c.new-acts.ensures c.in_ok-answer.ensures.turn h)
    c.hand_near.ensures

pub returns-clause-live : goal.returns-clause-live
returns-clause-live c =
    on_ok_weaker c.hand_near.result
    (λ h. still-live (record c.args.self.now { near = c.answer.new.self }) c.hand_near.new.self c.args.out.now c.hand_near.new.out c.answer.new.acts h c.in_ok-answer.ensures.live c.requires.1)
    c.hand_near.ensures
