use Rattle.std.proofs.Common.{length, rules}
use Rattle.mj_audit_prog.proofs.ReadLemmas.{if-ok}
use Rattle.mj_audit_prog.proofs.RunLemmas.{cause-starved, got-few, got-small, got-some, got-took, halted-starved, if-err, no-room, turned-end, turned-no-room}
use Rattle.mj_audit_prog.proofs.pieces.step.Goals as goal

pub returns-then-most-eq0-clause-goes : goal.returns-then-most-eq0-clause-goes
returns-then-most-eq0-clause-goes g c = λ from read s.
    turned-no-room from (g.S.Source.left c.args.src.now) c.args.reader.now c.args.taken read s
    (no-room c.args.taken (length c.args.buffer.now) c.room-most.result c.room-most.ensures c.requires.room (search rules))

pub take_bytes-requires-clause-few : goal.take_bytes-requires-clause-few
take_bytes-requires-clause-few g c =
    got-few c.read_front.new.buffer c.args.taken c.room-most.result c.in-Got.count (length c.args.buffer.now) c.in-Got.ensures.octets.1 c.room-most.ensures c.requires.few

pub returns-in-Got-clause-goes : goal.returns-in-Got-clause-goes
returns-in-Got-clause-goes g c =
    let o = c.in-Got.ensures.octets in
    let b = c.read_front.new.buffer in
    if-ok c.take_bytes.result
    (λ turn goes from read s. goes from (g.S.Source.left c.args.src.now) (g.S.Source.left c.read_front.new.src) read s
    (got-took b c.room-most.result c.in-Got.count (g.S.Source.left c.args.src.now) (g.S.Source.left c.read_front.new.src) o.1 o.2)
    (got-some b c.room-most.result c.in-Got.count o.0 o.1)
    (got-small b c.in-Got.count (length c.args.buffer.now) c.in-Got.ensures.same c.requires.small))
    c.take_bytes.ensures.goes

pub returns-in-Got-clause-halted : goal.returns-in-Got-clause-halted
returns-in-Got-clause-halted g c = if-err c.take_bytes.result (λ halt is from read s. halted-starved halt from (g.S.Source.left c.read_front.new.src) is) c.take_bytes.ensures.wants

pub returns-in-Got-clause-cause : goal.returns-in-Got-clause-cause
returns-in-Got-clause-cause g c = if-err c.take_bytes.result (λ halt is. cause-starved halt (g.S.Source.faults c.args.src.now) (g.S.Source.faults c.read_front.new.src) is) c.take_bytes.ensures.wants

pub returns-in-End-clause-goes : goal.returns-in-End-clause-goes
returns-in-End-clause-goes g c = λ from read s.
    let o = c.in-End.ensures.octets in
    turned-end from (g.S.Source.left c.args.src.now) (g.S.Source.left c.read_front.new.src) c.args.reader.now c.args.taken read s o.0 o.1
