use Rattle.std.proofs.Common.{◌∙◌, sym}
use Rattle.mj_hall.proofs.hall.Hall.ask.Goals as goal

pub returns-in-Ok-clause-asked : goal.returns-in-Ok-clause-asked
returns-in-Ok-clause-asked g c = (sym c.is_too_much.ensures.value ∙ c.if-is_too_much.false, c.in-Ok.ensures.ok)
