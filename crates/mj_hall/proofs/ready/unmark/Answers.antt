use Rattle.mj_hall.proofs.ReadyLemmas.{hidden_none, hidden_some}
use Rattle.mj_hall.proofs.ready.unmark.Goals as goal

pub returns-in-Some-clause-ready : goal.returns-in-Some-clause-ready
returns-in-Some-clause-ready g c =
    λ es ws distinct are at was.
    hidden_some c.args.key c.in-Some.label c.args.pairs.now.pairs c.remove.new.self.pairs es ws (c.in-Some.ensures.label es ws distinct are at) c.remove.ensures.changed was

pub returns-in_default-clause-ready : goal.returns-in_default-clause-ready
returns-in_default-clause-ready g c = λ es ws distinct are at was. hidden_none c.args.key c.args.pairs.now.pairs es ws (c.in_default.ensures.label es ws distinct are at) was
