use Rattle.mj_lanes.proofs.Leftovers.{ready-handed}
use Rattle.mj_lanes.proofs.handing.write_ready.Goals as goal

pub returns-clause-writes : goal.returns-clause-writes
returns-clause-writes g c =
    ready-handed c.args.pass.now c.take_ready-marked.new.self c.try_tell-told.new.self c.take_ready-marked.result c.write_now-progress.result.whole c.write_now-progress.result.at c.try_tell-told.result (g.K.Sink.written c.args.sink.now) (g.K.Sink.written c.write_now-progress.new.self) c.held.result.now
    c.take_ready-marked.ensures c.held.ensures c.write_now-progress.ensures.octets c.try_tell-told.ensures.told c.try_tell-told.ensures.most
