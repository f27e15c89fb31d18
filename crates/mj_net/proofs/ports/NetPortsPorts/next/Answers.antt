use Rattle.mj_net.proofs.Taking.{stands-next, stopped-next, fewer-next, most-next}
use Rattle.mj_net.proofs.ports.NetPortsPorts.next.Goals as goal

pub returns-clause-gives : goal.returns-clause-gives
returns-clause-gives g c = λ origin taken given stands.
    stands-next origin c.args.self.now c.take.new.self c.take.result taken given c.requires (c.take.ensures.full, c.take.ensures.takes) stands

pub returns-clause-stopped : goal.returns-clause-stopped
returns-clause-stopped g c = stopped-next c.args.self.now c.take.new.self c.take.result c.requires (c.take.ensures.full, c.take.ensures.takes)

pub returns-clause-fewer : goal.returns-clause-fewer
returns-clause-fewer g c = fewer-next c.args.self.now c.take.new.self c.take.result (c.take.ensures.full, c.take.ensures.takes)

pub returns-clause-no_more : goal.returns-clause-no_more
returns-clause-no_more g c = most-next c.args.self.now c.take.new.self c.take.result (c.take.ensures.full, c.take.ensures.takes)
