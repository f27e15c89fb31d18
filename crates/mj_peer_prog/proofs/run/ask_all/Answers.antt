use Rattle.std.proofs.lemmas.Result.{err_from_is_err_and}
use Rattle.mj_peering.specs.Performing.{counts, places}
use Rattle.mj_peer_prog.specs.PeerTable.{scene}
use Rattle.mj_peer_prog.specs.StatusRows.{Begins}
use Rattle.mj_peer_prog.proofs.RunRows.{ahead-at-first, client-unbegun, given-err, given-ok}
use Rattle.mj_peer_prog.proofs.run.ask_all.Goals as goal

pub returns-in_err-end-clause-halted : goal.returns-in_err-end-clause-halted
returns-in_err-end-clause-halted g c =
    let p = err_from_is_err_and c.from_residual.result c.from_residual.ensures.1 in
    rw p.1 (client-unbegun c.args.asking (g.S.Source.left c.args.src.now) (places (g.L.Link.told c.args.link.now) (g.K.Sink.written c.args.out.now)) (counts (g.L.Link.read_faults c.args.link.now) (g.L.Link.write_faults c.args.link.now) (g.K.Sink.faults c.args.out.now) (g.K.Sink.wants c.args.out.now)) (g.S.Source.faults c.args.src.now) p.0 p.2)

pub returns-in_err-feed-clause-halted : goal.returns-in_err-feed-clause-halted
returns-in_err-feed-clause-halted g c =
    let p = err_from_is_err_and c.from_residual-in_err-feed.result c.from_residual-in_err-feed.ensures.1 in
    rw p.1 (client-unbegun c.args.asking (g.S.Source.left c.args.src.now) (places (g.L.Link.told c.args.link.now) (g.K.Sink.written c.args.out.now)) (counts (g.L.Link.read_faults c.args.link.now) (g.L.Link.write_faults c.args.link.now) (g.K.Sink.faults c.args.out.now) (g.K.Sink.wants c.args.out.now)) (g.S.Source.faults c.args.src.now) p.0 p.2)

pub returns-clause-over : goal.returns-clause-over
returns-clause-over g c =
    let h = c.in_ok-feed.ensures in
    let b : Begins c.args.asking c.in_ok-end.end.session c.in_ok-feed.feed (g.S.Source.left c.args.src.now) =
    record { stands = c.in_ok-end.ensures.stands; unread = ahead-at-first c.in_ok-feed.feed (g.S.Source.left c.args.src.now) h.0 h.1 h.2 } in
    given-ok c.ask_each.result
    (scene (g.S.Source.left c.args.src.now) (places (g.L.Link.told c.args.link.now) (g.K.Sink.written c.args.out.now)) (places (g.L.Link.told c.ask_each.new.link) (g.K.Sink.written c.ask_each.new.out))
    (counts (g.L.Link.read_faults c.args.link.now) (g.L.Link.write_faults c.args.link.now) (g.K.Sink.faults c.args.out.now) (g.K.Sink.wants c.args.out.now))
    (counts (g.L.Link.read_faults c.ask_each.new.link) (g.L.Link.write_faults c.ask_each.new.link) (g.K.Sink.faults c.ask_each.new.out) (g.K.Sink.wants c.ask_each.new.out)) (g.S.Source.faults c.args.src.now) (g.S.Source.faults c.ask_each.new.src))
    c.in_ok-end.end.session c.in_ok-feed.feed (g.S.Source.left c.args.src.now) c.args.asking b c.ask_each.ensures.over

pub returns-clause-halted : goal.returns-clause-halted
returns-clause-halted g c =
    let h = c.in_ok-feed.ensures in
    let b : Begins c.args.asking c.in_ok-end.end.session c.in_ok-feed.feed (g.S.Source.left c.args.src.now) =
    record { stands = c.in_ok-end.ensures.stands; unread = ahead-at-first c.in_ok-feed.feed (g.S.Source.left c.args.src.now) h.0 h.1 h.2 } in
    given-err c.ask_each.result
    (scene (g.S.Source.left c.args.src.now) (places (g.L.Link.told c.args.link.now) (g.K.Sink.written c.args.out.now)) (places (g.L.Link.told c.ask_each.new.link) (g.K.Sink.written c.ask_each.new.out))
    (counts (g.L.Link.read_faults c.args.link.now) (g.L.Link.write_faults c.args.link.now) (g.K.Sink.faults c.args.out.now) (g.K.Sink.wants c.args.out.now))
    (counts (g.L.Link.read_faults c.ask_each.new.link) (g.L.Link.write_faults c.ask_each.new.link) (g.K.Sink.faults c.ask_each.new.out) (g.K.Sink.wants c.ask_each.new.out)) (g.S.Source.faults c.args.src.now) (g.S.Source.faults c.ask_each.new.src))
    c.in_ok-end.end.session c.in_ok-feed.feed (g.S.Source.left c.args.src.now) c.args.asking b c.ask_each.ensures.halted
