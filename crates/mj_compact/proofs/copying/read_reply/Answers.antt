use Rattle.mj_compact.proofs.Fitting.{reply_fits}
use Rattle.mj_compact.proofs.copying.read_reply.Goals as goal

pub returns-in-Ok-clause-fits : goal.returns-in-Ok-clause-fits
returns-in-Ok-clause-fits g c = reply_fits g.D.Disk _ _ _ _ c.requires.held.1 c.in-Ok.ensures.text
