use Rattle.std.proofs.Common.{refl}
use Rattle.mj_base.specs.declared.event.Out.TheVariants as outs
use Rattle.mj_serve.specs.Given.{entry_at}
use Rattle.mj_gen.proofs.Tallies.{stands-note}
use Rattle.mj_gen.proofs.ports.GenPortsPorts.note.Goals as goal

pub returns-clause-takes : goal.returns-clause-takes
returns-clause-takes c = λ origin taken given stood.
    stands-note _ _ _ _ _ taken given stood c.args.note (entry_at 0 (outs.Note c.args.note)) c.is_shut-self.result refl c.is_shut-self.ensures
