use Rattle.mj_bridge.proofs.DeckLemmas.{hands-more}
use Rattle.mj_bridge.proofs.deck.Deck.hand_near.Goals as goal

pub loop-act-preserved : goal.loop-act-preserved
loop-act-preserved c =
    hands-more c.args.self.now c.loop-act.self c.follow.new.self c.args.out.now c.loop-act.out c.push.new.self c.loop-act.yielded c.in-Some.act c.loop-act.invariant c.follow.ensures.holds c.follow.ensures.ends
    c.in_ok-push.ensures.ok
