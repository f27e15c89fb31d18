use Rattle.mj_bridge.proofs.DeckLemmas.{met-other, still-live}
use Rattle.mj_bridge.proofs.deck.Deck.meet_other.Goals as goal

pub returns-clause-turn : goal.returns-clause-turn
returns-clause-turn c =
    met-other c.args.self.now c.hand_near.new.self c.meet.new.self c.new-acts.result c.meet.new.acts c.args.out.now c.hand_near.new.out c.in_ok-ended.ended c.args.item.now c.new-acts.ensures
    c.in_ok-ended.ensures.turn c.in_ok-hand_near.ensures

pub returns-clause-live : goal.returns-clause-live
returns-clause-live c =
    still-live (record c.args.self.now { near = c.meet.new.self }) c.hand_near.new.self c.args.out.now c.hand_near.new.out c.meet.new.acts c.in_ok-hand_near.ensures c.in_ok-ended.ensures.live c.requires.1
