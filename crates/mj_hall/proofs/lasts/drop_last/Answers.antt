use Rattle.mj_hall.proofs.LastLemmas.{dropped_none, dropped_some}
use Rattle.mj_hall.proofs.lasts.drop_last.Goals as goal

pub returns-in-Some-clause-changed : goal.returns-in-Some-clause-changed
returns-in-Some-clause-changed g c = dropped_some c.args.number c.in-Some.key c.args.last c.args.order.now.pairs c.remove.new.self.pairs c.in-Some.is c.requires.last c.remove.ensures.changed

pub returns-in_default-clause-changed : goal.returns-in_default-clause-changed
returns-in_default-clause-changed g c = dropped_none c.args.number c.args.last c.args.order.now.pairs c.in_default.is c.requires.last
