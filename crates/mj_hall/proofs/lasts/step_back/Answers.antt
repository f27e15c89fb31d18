use Rattle.std.proofs.Common.{sym, ◌∙◌}
use Rattle.std.proofs.lemmas.Result.{IfOk-at_ok}
use Rattle.mj_hall.proofs.LastLemmas.{back_none, back_some, is_none}
use Rattle.mj_hall.proofs.lasts.step_back.Goals as goal

pub returns-in-Some-clause-changed : goal.returns-in-Some-clause-changed
returns-in-Some-clause-changed g c =
    back_some c.args.number c.args.key c.in-Some.prev c.args.gone.prev c.args.gone.next c.args.order.now.pairs c.remove.new.self.pairs c.insert.new.self.pairs c.in-Some.is (is_none c.args.gone.next (sym c.is_some.ensures ∙ c.if-is_some.false)) c.requires.last
    c.remove.ensures.changed (IfOk-at_ok _ c.unwrap.ensures c.insert.ensures.changed)

pub returns-in_default-clause-changed : goal.returns-in_default-clause-changed
returns-in_default-clause-changed g c =
    back_none c.args.number c.args.key c.args.gone.prev c.args.gone.next c.args.order.now.pairs c.remove.new.self.pairs c.in_default.is (is_none c.args.gone.next (sym c.is_some.ensures ∙ c.if-is_some.false)) c.requires.last c.remove.ensures.changed
