use Rattle.std.proofs.lemmas.Result.{on_ok_weaker}
use Rattle.mj_bridge.proofs.DeckLemmas.{is-none, requested-opens}
use Rattle.mj_bridge.proofs.deck.Deck.take_request.Goals as goal

pub returns-then-is_none-clause-turn : goal.returns-then-is_none-clause-turn
returns-then-is_none-clause-turn c =
    let e = c.args.self.now in
    on_ok_weaker c.open.result
    (λ f. requested-opens e c.open.new.self c.hear.new.self c.args.out.now c.open.new.out c.args.handed (is-none e.held c.if-is_none.ensures) c.hear.ensures.stands f) c.open.ensures.turn
