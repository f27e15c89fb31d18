use Rattle.std.proofs.Common.{◌∙◌, ◌==◌, ap, cond, Some}
use Rattle.mj_counted.specs.Rows.{entry}
use Rattle.mj_chain.specs.declared.desk.Desk.{Desk}
use Rattle.mj_hall.proofs.OpenLemmas.{desks-open}
use Rattle.mj_hall.proofs.PeopleLemmas.{opened_other}
use Rattle.mj_hall.proofs.desks.open_new.Goals as goal

pub returns-in-Ok-clause-desks : goal.returns-in-Ok-clause-desks
returns-in-Ok-clause-desks g c =
    λ es ws d_es d_ws are.
    desks-open c.args.desks.now c.insert.new.self c.args.names.now c.insert-2.new.self es ws c.args.name.now c.in_ok-key.key are d_es d_ws c.requires c.in_ok-key.ensures.free
    (λ k. c.in_ok-key.ensures.changed k ∙ ap (λ (x : Desk). cond (k == c.in_ok-key.key) (Some x) (entry c.args.desks.now k)) c.new_desk.ensures) c.in-Ok.ensures.changed

pub returns-in-Ok-clause-opened : goal.returns-in-Ok-clause-opened
returns-in-Ok-clause-opened g c = λ q d e apart. opened_other c.args.name.now q c.in_ok-key.key d c.args.names.now c.insert-2.new.self c.in-Ok.ensures.changed e apart
