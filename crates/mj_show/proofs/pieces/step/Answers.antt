use Rattle.std.proofs.Common.{◌≡◌, ◌-◌, ◌^◌, ℕ, length, min, take, ap, ◌∙◌, rules}
use Rattle.mj_show.proofs.StepLemmas.{got-few, got-some, got-took, no-room, piece-goes, piece-halts, steps-end, steps-full}
use Rattle.mj_show.proofs.pieces.step.Goals as goal

pub returns-then-most-eq0-clause-goes : goal.returns-then-most-eq0-clause-goes
returns-then-most-eq0-clause-goes g c = λ from old read s.
    let room : c.room-most.result ≡ min (2 ^ 40 - c.args.wire.now.taken) (length c.args.buffer.now) = c.room-most.ensures ∙ ap (λ (n : ℕ). min (2 ^ 40 - n) (length c.args.buffer.now)) c.taken.ensures in
    steps-full from (g.S.Source.left c.args.src.now) old (g.K.Sink.written c.args.out.now) c.args.wire.now read s
    (no-room c.args.wire.now.taken (length c.args.buffer.now) c.room-most.result room c.requires.room (search rules))

pub returns-in-Got-clause-goes : goal.returns-in-Got-clause-goes
returns-in-Got-clause-goes g c =
    let room : c.room-most.result ≡ min (2 ^ 40 - c.args.wire.now.taken) (length c.args.buffer.now) = c.room-most.ensures ∙ ap (λ (n : ℕ). min (2 ^ 40 - n) (length c.args.buffer.now)) c.taken.ensures in
    let o = c.in-Got.ensures.octets in
    let b = c.read_front.new.buffer in
    piece-goes c.show_piece.result (g.S.Source.left c.args.src.now) (g.S.Source.left c.read_front.new.src) (g.K.Sink.written c.args.out.now) (g.K.Sink.written c.show_piece.new.out) c.args.wire.now c.show_piece.new.wire (take c.in-Got.count b)
    (got-some b c.room-most.result c.in-Got.count o.0 o.1) (got-few b c.args.wire.now.taken c.room-most.result c.in-Got.count (length c.args.buffer.now) o.1 room c.requires.few)
    (got-took b c.room-most.result c.in-Got.count (g.S.Source.left c.args.src.now) (g.S.Source.left c.read_front.new.src) o.1 o.2)
    c.show_piece.ensures.more c.show_piece.ensures.stands c.show_piece.ensures.done

pub returns-in-Got-clause-halted : goal.returns-in-Got-clause-halted
returns-in-Got-clause-halted g c =
    let room : c.room-most.result ≡ min (2 ^ 40 - c.args.wire.now.taken) (length c.args.buffer.now) = c.room-most.ensures ∙ ap (λ (n : ℕ). min (2 ^ 40 - n) (length c.args.buffer.now)) c.taken.ensures in
    let o = c.in-Got.ensures.octets in
    let b = c.read_front.new.buffer in
    piece-halts c.show_piece.result (g.S.Source.left c.args.src.now) (g.S.Source.left c.read_front.new.src) (g.K.Sink.written c.args.out.now) (g.K.Sink.written c.show_piece.new.out) c.args.wire.now (take c.in-Got.count b) (g.K.Sink.faults c.args.out.now) (g.K.Sink.faults c.show_piece.new.out)
    (got-few b c.args.wire.now.taken c.room-most.result c.in-Got.count (length c.args.buffer.now) o.1 room c.requires.few)
    (got-took b c.room-most.result c.in-Got.count (g.S.Source.left c.args.src.now) (g.S.Source.left c.read_front.new.src) o.1 o.2)
    c.show_piece.ensures.cause c.show_piece.ensures.broken

pub returns-in-End-clause-goes : goal.returns-in-End-clause-goes
returns-in-End-clause-goes g c = λ from old read s.
    let o = c.in-End.ensures.octets in
    steps-end from (g.S.Source.left c.args.src.now) (g.S.Source.left c.read_front.new.src) old (g.K.Sink.written c.args.out.now) c.args.wire.now read s o.0 o.1
