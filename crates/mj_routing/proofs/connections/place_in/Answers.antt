use Rattle.std.proofs.Common.{arith}
use Rattle.std.proofs.lemmas.Bool.Decides.{nat_tests}
use Rattle.mj_routing.proofs.PlaceLemmas.{place-end, place-here, place-other}
use Rattle.mj_routing.proofs.connections.place_in.Goals as goal

pub returns-in-Some : goal.returns-in-Some
returns-in-Some c =
    let is = c.if-connection-number.true in
    place-here c.args.number c.args.connections.now c.first_from-at.result c.in-Some.connection.now c.requires c.first_from-at.ensures (grind (arith, nat_tests)) (grind (arith, nat_tests))

pub returns-in_default : goal.returns-in_default
returns-in_default c =
    place-other c.args.number c.args.connections.now c.first_from-at.result c.in-Some.connection.now c.requires c.first_from-at.ensures (grind (arith, nat_tests)) (grind (arith, nat_tests))

pub returns-in_default-2 : goal.returns-in_default-2
returns-in_default-2 c = place-end c.args.number c.args.connections.now c.first_from-at.result c.first_from-at.ensures (grind (arith, nat_tests))
