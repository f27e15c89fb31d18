use Rattle.std.proofs.Common.{refl}
use Rattle.mj_base.specs.declared.event.Out.TheVariants as outs
use Rattle.mj_net.proofs.Passing.{stands-gave}
use Rattle.mj_net.proofs.ports.NetPortsPorts.end.Goals as goal

pub returns-clause-takes : goal.returns-clause-takes
returns-clause-takes g c = λ origin taken given stands.
    stands-gave origin c.args.self.now c.end_lane.new.self (outs.End c.args.lane c.args._reason c.args._at) _ taken given refl c.end_lane.ensures.ends stands
