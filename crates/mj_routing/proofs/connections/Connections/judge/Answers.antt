use Rattle.mj_routing.proofs.LaneLemmas.{room-at}
use Rattle.mj_routing.proofs.connections.Connections.judge.Goals as goal

pub returns-in-Some-clause-fits : goal.returns-in-Some-clause-fits
returns-in-Some-clause-fits c = λ sends.
    room-at c.self.inside.list.items c.args.self.now c.args.number c.in-Some.at c.args.octets c.index.result.now c.self.view_is c.in-Some.ensures c.index.ensures (c.judge_at.ensures.fits sends)
