use Rattle.mj_net.proofs.Causes.{failed-since}
use Rattle.mj_net.proofs.hosting.start_lane.Goals as goal

pub returns-clause-err : goal.returns-clause-err
returns-clause-err g c = failed-since c.start-2.result (g.T.Spawner.faults c.args.spawner.now) (g.T.Spawner.faults c.start.new.spawner) (g.T.Spawner.faults c.start-2.new.spawner) c.start.ensures.later c.start-2.ensures.err
