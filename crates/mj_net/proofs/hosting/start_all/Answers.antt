use Rattle.mj_net.proofs.Causes.{cause-since, failed-since}
use Rattle.mj_net.proofs.hosting.start_all.Goals as goal

pub returns-clause-err : goal.returns-clause-err
returns-clause-err g c = failed-since c.start.result (g.T.Spawner.faults c.args.spawner.now) (g.T.Spawner.faults c.loop-turn.spawner) (g.T.Spawner.faults c.start.new.spawner) c.loop-turn.invariant.4 c.start.ensures.err

pub returns-in-Err-clause-err : goal.returns-in-Err-clause-err
returns-in-Err-clause-err g c = λ before now. cause-since c.in-Err.fault before now (g.T.Spawner.faults c.args.spawner.now) (g.T.Spawner.faults c.loop-turn.spawner) (g.T.Spawner.faults c.start_lane.new.spawner) c.loop-turn.invariant.4 (c.in-Err.ensures.err before now)
