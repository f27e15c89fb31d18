use Rattle.std.proofs.Common.{◌∙◌, ap}
use Rattle.mj_due.proofs.DueLemmas.{is_due, walk_due}
use Rattle.mj_due.proofs.orders.is_due_at.Goals as goal

pub returns-in-Some-clause-value : goal.returns-in-Some-clause-value
returns-in-Some-clause-value g c = ap (is_due c.args.now) c.in-Some.ensures.value ∙ walk_due c.args.now c.args.at c.args.order.now.pairs c.get.ensures.rising

pub returns-in-None-clause-value : goal.returns-in-None-clause-value
returns-in-None-clause-value g c = ap (is_due c.args.now) c.in-None.ensures.value ∙ walk_due c.args.now c.args.at c.args.order.now.pairs c.get.ensures.rising
