use Rattle.std.proofs.Common.{ℕ, List, [], ◌∷◌, Option, sym, subst, ◌∙◌}
use Rattle.std.specs.Prelude.{MatchOption}
use Rattle.std.proofs.lemmas.Result.{err_from_is_err_and}
use Rattle.mj_peering.specs.Feeding.{ahead}
use Rattle.mj_peering.specs.Requests.{IsOver, Uses}
use Rattle.mj_peering.proofs.RunLemmas.{halted-asked, halted-met, played-asked, played-met}
use Rattle.mj_peering.proofs.client.step.Goals as goal

pub returns-in_err-meet-clause-halted : goal.returns-in_err-meet-clause-halted
returns-in_err-meet-clause-halted g c =
    let p = err_from_is_err_and c.from_residual.result c.from_residual.ensures.1 in
    rw (p.1, p.2)
    (λ first start input pl.
    halted-met _ first start _ _ input _ c.args.end.now.session c.args.asked.now (sym c.is_over.ensures ∙ c.if-is_over.false) (sym c.is_asking.ensures ∙ c.if-is_asking.true) c.in_err-meet.ensures.broken pl)

pub returns-then-is_asking-clause-goes : goal.returns-then-is_asking-clause-goes
returns-then-is_asking-clause-goes g c = λ first start input pl.
    let d = c.in_ok-meet.ensures.done in
    played-met first start _ _ input _ c.args.end.now.session c.meet.new.end.session c.args.asked.now d.0 (sym c.is_over.ensures ∙ c.if-is_over.false) (sym c.is_asking.ensures ∙ c.if-is_asking.true) d.1 pl

pub returns-in_err-ask-clause-halted : goal.returns-in_err-ask-clause-halted
returns-in_err-ask-clause-halted g c =
    let p = err_from_is_err_and c.from_residual-in_err-ask.result c.from_residual-in_err-ask.ensures.1 in
    let before = ahead c.args.feed.now (g.S.Source.left c.args.src.now) in
    let after = ahead c.next_request.new.self (g.S.Source.left c.next_request.new.src) in
    let used : Uses before after (c.in-Some.text ∷ []) =
    subst (λ (o : Option (List ℕ)). MatchOption o (IsOver after × Uses before after []) (λ request. Uses before after (request ∷ []))) c.in-Some.is c.in_ok-text.ensures.requests in
    rw (p.1, p.2)
    (λ first start input pl.
    halted-asked _ first start _ _ input _ after c.args.end.now.session c.args.asked.now c.in-Some.text _ _ (sym c.is_over.ensures ∙ c.if-is_over.false) (sym c.is_asking.ensures ∙ c.if-is_asking.false) used
    c.in_err-ask.ensures.broken c.in_err-ask.ensures.cause pl)

pub returns-clause-goes : goal.returns-clause-goes
returns-clause-goes g c = λ first start input pl.
    let before = ahead c.args.feed.now (g.S.Source.left c.args.src.now) in
    let after = ahead c.next_request.new.self (g.S.Source.left c.next_request.new.src) in
    let used : Uses before after (c.in-Some.text ∷ []) =
    subst (λ (o : Option (List ℕ)). MatchOption o (IsOver after × Uses before after []) (λ request. Uses before after (request ∷ []))) c.in-Some.is c.in_ok-text.ensures.requests in
    played-asked first start _ _ input _ after c.args.end.now.session c.ask.new.end.session c.args.asked.now c.saturating_add.result c.in-Some.text (sym c.is_over.ensures ∙ c.if-is_over.false)
    (sym c.is_asking.ensures ∙ c.if-is_asking.false) used c.saturating_add.ensures c.in_ok-ask.ensures.done pl
