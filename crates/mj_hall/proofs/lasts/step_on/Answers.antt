use Rattle.std.proofs.lemmas.Result.{IfOk-at_ok}
use Rattle.mj_hall.proofs.LastLemmas.{stepped_on}
use Rattle.mj_hall.proofs.lasts.step_on.Goals as goal

pub returns-clause-changed : goal.returns-clause-changed
returns-clause-changed g c =
    stepped_on c.args.number c.args.key c.args.order.now.pairs c.drop_last.new.order.pairs c.insert.new.self.pairs c.drop_last.ensures.changed
    (IfOk-at_ok _ c.unwrap.ensures c.insert.ensures.changed)
