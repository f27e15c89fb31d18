use Rattle.std.proofs.Common.{◌-◌, ◌+◌, sym, arith}
use Rattle.mj_tickets.specs.PayloadReading.{frames_in}
use Rattle.mj_tickets.proofs.FrameLemmas.{read_more}
use Rattle.mj_tickets.proofs.reading.frames_of.Goals as goal

pub loop-i-preserved : goal.loop-i-preserved
loop-i-preserved c =
    read_more c.loop-i.frames c.push.new.self (c.args.count - (c.loop-i._i + 1)) (c.args.count - c.loop-i._i) c.loop-i.rest.now c.in-Some.frame.now c.in-Some.behind.now (frames_in c.args.count c.args.octets.now)
    (omega arith) (sym c.in-Some.ensures) c.in_ok-push.ensures.ok c.loop-i.invariant
