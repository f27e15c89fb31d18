use Rattle.mj_laws.proofs.CommandLemmas.{commands_grow}
use Rattle.mj_laws.proofs.laws.commands_grow.Goals as goal

pub returns : goal.returns
returns c = commands_grow
