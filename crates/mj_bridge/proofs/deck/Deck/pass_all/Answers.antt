use Rattle.std.proofs.Common.{sym, ◌∙◌}
use Rattle.mj_bridge.proofs.DeckLemmas.{all-taken, next-taken, passing-is_done, passing-stops}
use Rattle.mj_bridge.proofs.deck.Deck.pass_all.Goals as goal

pub returns-then-is_over-clause-turn : goal.returns-then-is_over-clause-turn
returns-then-is_over-clause-turn c = λ b s.
    let loop = c.loop-act in
    passing-stops c.args.self.now loop.self c.pass.new.self c.args.out.now loop.out c.pass.new.out loop.yielded c.in-Some.act c.next.new.self.rest.items c.args.acts b
    (sym c.into_vec-act-items.ensures ∙ next-taken c.into_vec-act-items.result.items c.into_iter-act-iterator.result loop.yielded loop.act-iterator c.in-Some.act c.next.new.self.rest.items
    c.into_iter-act-iterator.ensures.into_iter_gives.0 loop.yielded_by c.in-Some.ensures.steps.0)
    (loop.invariant.1 b s) c.in_ok-pass.ensures.turn (sym c.is_over.ensures ∙ c.if-is_over.true)

pub returns-clause-turn : goal.returns-clause-turn
returns-clause-turn c = λ b s.
    let loop = c.loop-act in
    passing-is_done c.args.self.now loop.self c.args.out.now loop.out loop.yielded c.args.acts b
    (sym c.into_vec-act-items.ensures ∙ all-taken c.into_vec-act-items.result.items c.into_iter-act-iterator.result loop.yielded loop.act-iterator c.into_iter-act-iterator.ensures.into_iter_gives.0 loop.yielded_by
    c.in-None.ensures.steps.0)
    (loop.invariant.1 b s)
