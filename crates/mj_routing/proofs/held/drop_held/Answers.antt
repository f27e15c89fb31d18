use Rattle.mj_routing.proofs.HoldingLemmas.{taken-out}
use Rattle.mj_routing.proofs.held.drop_held.Goals as goal

pub returns : goal.returns
returns c = taken-out c.args.held.now c.shift_remove.new.self c.args.worker c.shift_remove.ensures.entries c.shift_remove.ensures.updates.1
