use Rattle.std.proofs.Common.{sym, subst, ◌∙◌, Option}
use Rattle.std.proofs.lemmas.Result.{on_ok_weaker}
use Rattle.mj_bridge.specs.BridgeStands.{Opens}
use Rattle.mj_bridge.proofs.DeckLemmas.{goes-next}
use Rattle.mj_bridge.proofs.deck.Deck.go_on.Goals as goal
use Rattle.mj_peer.specs.declared.post.Handed.{Handed}

pub returns-in-Some-clause-turn : goal.returns-in-Some-clause-turn
returns-in-Some-clause-turn c =
    let e = c.args.self.now in
    on_ok_weaker c.open.result
    (λ f. goes-next e c.open.new.self c.args.out.now c.open.new.out c.in-Some.handed (sym c.is_over.ensures ∙ c.if-is_over.false) (sym c.is_some.ensures ∙ c.if-is_some.false) (sym c.take.ensures.value ∙ c.in-Some.is)
    (subst (λ (o : Option Handed). Opens (record e { next = o }) c.open.new.self c.args.out.now c.open.new.out c.in-Some.handed) c.take.ensures.after f))
    c.open.ensures.turn
