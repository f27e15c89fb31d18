use Rattle.std.proofs.Common.{◌∙◌}
use Rattle.mj_routing.proofs.HoldingLemmas.{contained}
use Rattle.mj_routing.proofs.held.is_holding.Goals as goal

pub returns : goal.returns
returns c = c.contains_key.ensures ∙ contained c.args.held.now c.args.worker
