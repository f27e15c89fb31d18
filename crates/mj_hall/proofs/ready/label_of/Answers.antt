use Rattle.std.proofs.Common.{◌∙◌, ap, sym, Some, None}
use Rattle.mj_chain.specs.declared.desk.Desk.{Desk}
use Rattle.mj_hall.proofs.ReadyLemmas.{desk_is, some_pair}
use Rattle.mj_counted.specs.Rows.{entry}
use Rattle.mj_hall.proofs.ready.label_of.Goals as goal

pub returns-in-Some-clause-label : goal.returns-in-Some-clause-label
returns-in-Some-clause-label g c =
    λ es ws distinct are at.
    let same = desk_is (entry c.args.desks.now c.args.key) c.args.key c.in_ok-desk.desk.now es ws c.in_ok-desk.ensures.value at in
    some_pair c.args.requests.now es ws c.args.key c.in_ok-_waiting._waiting c.in_ok-row.row (Some c.in-Some.node.now) distinct are (ap (λ (d : Desk). d.waiting.first) (sym same) ∙ c.in_ok-_waiting.was)
    (ap (λ (d : Desk). d.requests.first) (sym same) ∙ c.in_ok-row.was) c.in-Some.ensures.value

pub returns-in-None-clause-label : goal.returns-in-None-clause-label
returns-in-None-clause-label g c =
    λ es ws distinct are at.
    let same = desk_is (entry c.args.desks.now c.args.key) c.args.key c.in_ok-desk.desk.now es ws c.in_ok-desk.ensures.value at in
    some_pair c.args.requests.now es ws c.args.key c.in_ok-_waiting._waiting c.in_ok-row.row None distinct are (ap (λ (d : Desk). d.waiting.first) (sym same) ∙ c.in_ok-_waiting.was)
    (ap (λ (d : Desk). d.requests.first) (sym same) ∙ c.in_ok-row.was) c.in-None.ensures.value
