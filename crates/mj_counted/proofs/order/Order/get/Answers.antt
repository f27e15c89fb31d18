use Rattle.std.proofs.Common.{◌∙◌, ap, ℕ, List, slice_get}
use Rattle.mj_counted.specs.Pairs.{Pairs}
use Rattle.mj_counted.proofs.PairLemmas.{get_empty, get_stands}
use Rattle.mj_counted.proofs.order.Order.get.Goals as goal

pub returns-clause-stands : goal.returns-clause-stands
returns-clause-stands g c =
    let is = ap (λ (o : Pairs). o.pairs) c.self.view_is in
    get_stands c.pair_at.result c.args.at c.self.inside.pairs.items c.args.self.now.pairs is c.self.invariant (c.pair_at.ensures ∙ ap (λ (xs : List (ℕ × ℕ)). slice_get xs c.args.at) (c.deref.ensures.value ∙ is))

pub returns-clause-empty : goal.returns-clause-empty
returns-clause-empty g c =
    let is = ap (λ (o : Pairs). o.pairs) c.self.view_is in
    get_empty c.pair_at.result c.args.at c.self.inside.pairs.items c.args.self.now.pairs is (c.pair_at.ensures ∙ ap (λ (xs : List (ℕ × ℕ)). slice_get xs c.args.at) (c.deref.ensures.value ∙ is))
