use Rattle.std.proofs.Common.{refl, sym, ◌∙◌}
use Rattle.std.proofs.lemmas.Result.{on_ok_weaker}
use Rattle.mj_bridge.proofs.DeckLemmas.{answered-by}
use Rattle.mj_bridge.proofs.deck.Deck.reply.Goals as goal

pub returns-clause-turn : goal.returns-clause-turn
returns-clause-turn c =
    on_ok_weaker c.answer.result
    (λ f. answered-by c.args.self.now c.answer.new.self c.args.out.now c.answer.new.out c.args.body.now c.in-Some.address c.in-Some.address c.take.new.self (sym c.take.ensures.value ∙ c.in-Some.is) c.if-not-self.false
    c.take.ensures.after refl f)
    c.answer.ensures.turn
