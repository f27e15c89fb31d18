use Rattle.std.proofs.Common.{refl}
use Rattle.mj_gen.specs.Statuses.{code_of}
use Rattle.mj_gen.proofs.Endings.{generates}
use Rattle.mj_gen.proofs.top_call.generate.Goals as goal

pub returns : goal.returns
returns g c = generates g.D.Disk c.args.n c.args.stored c.args.disk.now c.run-answer.new.disk _ _ _ _ (code_of c.finish.result) c.run-answer.result c.finish.result refl c.run-answer.ensures c.finish.ensures
