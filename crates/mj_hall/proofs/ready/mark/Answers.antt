use Rattle.std.proofs.lemmas.Result.{IfOk-at_ok}
use Rattle.mj_hall.proofs.ReadyLemmas.{hidden_free, shown_none, shown_some}
use Rattle.mj_hall.proofs.ready.mark.Goals as goal

pub insert-requires : goal.insert-requires
insert-requires g c = hidden_free c.args.key c.in-Some.label c.args.pairs.now.pairs c.requires.ready.0 c.requires.ready.1 c.requires.ready.2

pub returns-in-Some-clause-ready : goal.returns-in-Some-clause-ready
returns-in-Some-clause-ready g c =
    λ es ws distinct are at was.
    shown_some c.args.key c.in-Some.label c.args.pairs.now.pairs c.insert.new.self.pairs es ws (c.in-Some.ensures.label es ws distinct are at) (IfOk-at_ok _ c.unwrap.ensures c.insert.ensures.changed) was

pub returns-in_default-clause-ready : goal.returns-in_default-clause-ready
returns-in_default-clause-ready g c = λ es ws distinct are at was. shown_none c.args.key c.args.pairs.now.pairs es ws (c.in_default.ensures.label es ws distinct are at) was
