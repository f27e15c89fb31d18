use Rattle.std.proofs.lemmas.Result.{on_ok_weaker}
use Rattle.mj_bridge.proofs.DeckLemmas.{ended, still-live}
use Rattle.mj_bridge.proofs.deck.Deck.end.Goals as goal

pub returns-clause-turn : goal.returns-clause-turn
returns-clause-turn c =
    on_ok_weaker c.hand_near.result
    (λ h. ended c.args.self.now c.hand_near.new.self c.quiet.new.self c.new-acts.result c.quiet.new.acts c.args.out.now c.hand_near.new.out c.in_ok-quiet.field-0 c.new-acts.ensures c.in_ok-quiet.ensures.turn h)
    c.hand_near.ensures

pub returns-clause-live : goal.returns-clause-live
returns-clause-live c =
    on_ok_weaker c.hand_near.result
    (λ h. still-live (record c.args.self.now { near = c.quiet.new.self }) c.hand_near.new.self c.args.out.now c.hand_near.new.out c.quiet.new.acts h c.in_ok-quiet.ensures.live c.requires.1)
    c.hand_near.ensures
