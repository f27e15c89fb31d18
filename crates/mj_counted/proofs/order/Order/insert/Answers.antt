use Rattle.std.proofs.Common.{ap}
use Rattle.mj_counted.specs.Pairs.{Pairs}
use Rattle.mj_counted.proofs.PairLemmas.{insert_changed, insert_rising}
use Rattle.mj_counted.proofs.order.Order.insert.Goals as goal

pub invariant_of-self-2 : goal.invariant_of-self-2
invariant_of-self-2 g c =
    insert_rising c.args.pair c.place_of-at.result c.deref.result.now c.self.inside.pairs.items c.insert.new.self.items c.args.self.now.pairs c.deref.ensures.value (ap (λ (o : Pairs). o.pairs) c.self.view_is) c.self.invariant c.place_of-at.ensures.value
    c.requires c.in_ok-insert.ensures.items

pub returns-clause-changed : goal.returns-clause-changed
returns-clause-changed g c =
    insert_changed c.args.pair c.place_of-at.result c.deref.result.now c.self.inside.pairs.items c.insert.new.self.items c.args.self.now.pairs c.deref.ensures.value (ap (λ (o : Pairs). o.pairs) c.self.view_is) c.self.invariant c.place_of-at.ensures.value
    c.in_ok-insert.ensures.items
