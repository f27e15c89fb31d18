use Rattle.std.proofs.Common.{ℕ, Bool, subst}
use Rattle.mj_lanes.specs.WriteSteps.{FinishedAll, Writes}
use Rattle.mj_lanes.proofs.Leftovers.{writes-dropped, writes-finished, writes-then}
use Rattle.mj_lanes.proofs.handing.write_left.Goals as goal

pub returns-then-left-clause-writes : goal.returns-then-left-clause-writes
returns-then-left-clause-writes g c = λ taken sent out given.
    writes-finished c.args.pass.now.lane c.args.pass.now.held taken c.finish.new.pass.taken sent c.finish.new.pass.sent out (g.K.Sink.written c.finish.new.sink)
    (subst (λ (marked : Bool). FinishedAll c.args.pass.now.lane marked c.args.pass.now.held taken c.finish.new.pass.taken sent c.finish.new.pass.sent out (g.K.Sink.written c.finish.new.sink)) c.if-left.true (c.in-Done.ensures.writes c.args.left.now.marked taken sent out given))

pub returns-else-left-clause-writes : goal.returns-else-left-clause-writes
returns-else-left-clause-writes g c = λ taken sent out given.
    writes-then c.args.pass.now.lane c.args.pass.now.held taken c.finish.new.pass.taken c.write_loop.new.pass.taken sent c.finish.new.pass.sent c.write_loop.new.pass.sent out (g.K.Sink.written c.finish.new.sink) (g.K.Sink.written c.write_loop.new.sink)
    (subst (λ (marked : Bool). FinishedAll c.args.pass.now.lane marked c.args.pass.now.held taken c.finish.new.pass.taken sent c.finish.new.pass.sent out (g.K.Sink.written c.finish.new.sink)) c.if-left.false (c.in-Done.ensures.writes c.args.left.now.marked taken sent out given))
    (subst (λ (lane : ℕ). Writes lane c.finish.new.pass.taken c.write_loop.new.pass.taken c.finish.new.pass.sent c.write_loop.new.pass.sent (g.K.Sink.written c.finish.new.sink) (g.K.Sink.written c.write_loop.new.sink)) c.finish.ensures.pass.1 c.write_loop.ensures.writes)

pub returns-in-NoMemory-clause-writes : goal.returns-in-NoMemory-clause-writes
returns-in-NoMemory-clause-writes g c = λ taken sent out given.
    writes-dropped c.args.pass.now.lane c.args.left.now.marked c.args.pass.now.held taken c.finish.new.pass.taken c.drop_unless.new.pass.taken sent c.finish.new.pass.sent c.drop_unless.new.pass.sent out (g.K.Sink.written c.finish.new.sink)
    (c.in-NoMemory.ensures.writes c.args.left.now.marked taken sent out given) c.drop_unless.ensures.taken c.drop_unless.ensures.sent

pub returns-in-Failed-clause-writes : goal.returns-in-Failed-clause-writes
returns-in-Failed-clause-writes g c = λ taken sent out given.
    writes-dropped c.args.pass.now.lane c.args.left.now.marked c.args.pass.now.held taken c.finish.new.pass.taken c.drop_unless-in-Failed.new.pass.taken sent c.finish.new.pass.sent c.drop_unless-in-Failed.new.pass.sent out (g.K.Sink.written c.finish.new.sink)
    (c.in-Failed.ensures.writes c.args.left.now.marked taken sent out given) c.drop_unless-in-Failed.ensures.taken c.drop_unless-in-Failed.ensures.sent
