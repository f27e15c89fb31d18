use Rattle.mj_lanes.proofs.Leftovers.{finish-held}
use Rattle.mj_lanes.proofs.handing.finish.Goals as goal

pub returns-clause-writes : goal.returns-clause-writes
returns-clause-writes g c = λ marked taken sent out given.
    finish-held c.write_held.result c.args.pass.now c.tell.new.self marked c.args.left.now.whole c.args.left.now.at c.args.left.now.told taken c.write_held.new.pass.taken sent c.write_held.new.pass.sent out (g.K.Sink.written c.args.sink.now) (g.K.Sink.written c.write_held.new.sink)
    c.tell.ensures given (c.write_held.ensures.writes marked taken sent out)
