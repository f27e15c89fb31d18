use Rattle.std.proofs.lemmas.Result.{on_ok_weaker}
use Rattle.mj_bridge.proofs.DeckLemmas.{far-turned}
use Rattle.mj_bridge.proofs.deck.Deck.far_happen.Goals as goal

pub returns-clause-turn : goal.returns-clause-turn
returns-clause-turn c =
    on_ok_weaker c.go_on.result
    (λ h. far-turned c.args.self.now c.pass_all.new.self c.go_on.new.self c.step.new.self c.args.event c.in_ok-acts.acts c.args.out.now c.pass_all.new.out c.go_on.new.out c.in_ok-acts.ensures.turn c.in_ok-pass_all.ensures.turn h)
    c.go_on.ensures.turn
