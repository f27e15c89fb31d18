use Rattle.mj_base.proofs.FrameLemmas.{rest_at}
use Rattle.mj_base.proofs.frames.Frames.get.Goals as goal

pub returns-clause-rest : goal.returns-clause-rest
returns-clause-rest c = rest_at c.frame.result c.args.self.now c.args.i c.frame.ensures
