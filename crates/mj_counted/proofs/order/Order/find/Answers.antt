use Rattle.std.proofs.Common.{ap}
use Rattle.mj_counted.specs.Pairs.{Pairs}
use Rattle.mj_counted.proofs.PairLemmas.{find_none}
use Rattle.mj_counted.proofs.order.Order.find.Goals as goal

pub returns-clause-none : goal.returns-clause-none
returns-clause-none g c =
    find_none c.args.pair c.place_of.result c.deref.result.now c.self.inside.pairs.items c.args.self.now.pairs c.deref.ensures.value (ap (λ (o : Pairs). o.pairs) c.self.view_is) c.self.invariant c.place_of.ensures.value
