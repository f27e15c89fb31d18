use Rattle.std.proofs.Common.{refl}
use Rattle.mj_base.specs.declared.event.Out.TheVariants as outs
use Rattle.mj_serve.specs.Given.{entry_at, outs_given}
use Rattle.mj_gen.proofs.Tallies.{stands-out}
use Rattle.mj_gen.proofs.ports.GenPortsPorts.end.Goals as goal

pub returns-clause-takes : goal.returns-clause-takes
returns-clause-takes c = λ origin taken given stood.
    stands-out _ _ _ _ _ taken given stood (entry_at 0 (outs.End c.args._lane c.args._reason c.args._at)) c.with_end-self.result refl
    (λ counted. c.with_end-self.ensures taken (outs_given given) c.args._lane c.args._reason c.args._at counted)
