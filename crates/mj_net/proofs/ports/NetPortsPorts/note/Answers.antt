use Rattle.std.proofs.Common.{refl}
use Rattle.mj_base.specs.declared.event.Out.TheVariants as outs
use Rattle.mj_net.proofs.Passing.{stands-gave}
use Rattle.mj_net.proofs.ports.NetPortsPorts.note.Goals as goal

pub returns-clause-takes : goal.returns-clause-takes
returns-clause-takes g c = λ origin taken given stands.
    stands-gave origin c.args.self.now c.args.self.now (outs.Note c.args._note) _ taken given refl refl stands
