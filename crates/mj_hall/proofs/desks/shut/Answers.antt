use Rattle.std.proofs.Common.{◌≡◌, ◌∙◌, false, sym, is_some}
use Rattle.std.proofs.lemmas.Bool.{or_parts}
use Rattle.mj_hall.specs.Desks.{is_peopled}
use Rattle.mj_hall.proofs.OpenLemmas.{desks-shut}
use Rattle.mj_hall.proofs.PeopleLemmas.{no_desk, shut_people, stay_people}
use Rattle.mj_hall.proofs.desks.shut.Goals as goal

pub returns-clause-desks : goal.returns-clause-desks
returns-clause-desks g c =
    λ es ws d_es d_ws are.
    let nobody : is_peopled c.in-Some.desk.now ≡ false = sym c.is_peopled.ensures ∙ c.if-is_peopled.false in
    let first = or_parts (is_some c.in-Some.desk.now.requests.first) _ nobody in
    let rest = or_parts (is_some c.in-Some.desk.now.waiting.first) (is_some c.in-Some.desk.now.busy.first) first.1 in
    desks-shut c.args.desks.now c.take.new.self c.args.names.now c.remove.new.self es ws c.args.name.now c.args.key are c.requires c.in-Some.desk.now (sym c.in-Some.ensures.value) first.0 rest.0 rest.1 c.take.ensures.changed c.remove.ensures.changed

pub returns-in_default-clause-peopled : goal.returns-in_default-clause-peopled
returns-in_default-clause-peopled g c = λ es ws are peopled. no_desk _ (c.in_default.ensures.value ∙ are.each c.args.name.now c.args.key c.requires)

pub returns-then-is_peopled-clause-peopled : goal.returns-then-is_peopled-clause-peopled
returns-then-is_peopled-clause-peopled g c =
    λ es ws are peopled.
    stay_people c.args.desks.now c.args.names.now es ws c.args.name.now c.args.key are c.requires c.in-Some.desk.now c.in-Some.ensures.value (sym c.is_peopled.ensures ∙ c.if-is_peopled.true) peopled

pub returns-clause-peopled : goal.returns-clause-peopled
returns-clause-peopled g c = λ es ws are peopled. shut_people c.args.desks.now c.args.names.now es ws c.args.name.now c.args.key are c.requires c.remove.new.self c.remove.ensures.changed peopled
