use Rattle.mj_routing.proofs.HoldingLemmas.{given}
use Rattle.mj_routing.proofs.held.give.Goals as goal
use Rattle.mj_routing.proofs.held.give.Goals.{in-Some-1, in-None-1}

pub returns : goal.returns
returns c =
    let is = c.insert.ensures.entries in
    given c.args.held.now c.insert.new.self c.args.worker c.args.request c.requires.none (rw c.unwrap.ensures at is)
