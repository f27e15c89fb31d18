use Rattle.std.proofs.Common.{sym}
use Rattle.mj_routing.proofs.HoldingLemmas.{found-none, found-some}
use Rattle.mj_routing.proofs.held.held_by.Goals as goal

pub returns-in-None : goal.returns-in-None
returns-in-None c = sym (found-none c.args.held.now c.args.worker c.get.result c.get.ensures.value c.in-None.is)

pub returns-in_ok-copy_request-in-Some : goal.returns-in_ok-copy_request-in-Some
returns-in_ok-copy_request-in-Some c =
    found-some c.args.held.now c.args.worker c.get.result c.in-Some.request c.in_ok-copy_request-in-Some.field-0 c.get.ensures.value c.in-Some.is c.in_ok-copy_request-in-Some.ensures
