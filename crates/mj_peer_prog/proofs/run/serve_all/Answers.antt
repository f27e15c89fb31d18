use Rattle.std.proofs.lemmas.Result.{err_from_is_err_and}
use Rattle.mj_peering.specs.Performing.{counts, places}
use Rattle.mj_peer_prog.proofs.RunRows.{begun-err, begun-ok, worker-unbegun}
use Rattle.mj_peer_prog.proofs.run.serve_all.Goals as goal

pub returns-in_err-end-clause-halted : goal.returns-in_err-end-clause-halted
returns-in_err-end-clause-halted g c =
    let p = err_from_is_err_and c.from_residual.result c.from_residual.ensures.1 in
    rw p.1 (λ from reads. worker-unbegun c.args.serving from (places (g.L.Link.told c.args.link.now) (g.K.Sink.written c.args.out.now)) (counts (g.L.Link.read_faults c.args.link.now) (g.L.Link.write_faults c.args.link.now) (g.K.Sink.faults c.args.out.now) (g.K.Sink.wants c.args.out.now)) reads p.0 p.2)

pub returns-clause-over : goal.returns-clause-over
returns-clause-over g c = begun-ok c.serve_each.result (places (g.L.Link.told c.args.link.now) (g.K.Sink.written c.args.out.now)) (places (g.L.Link.told c.serve_each.new.link) (g.K.Sink.written c.serve_each.new.out))
    (counts (g.L.Link.read_faults c.args.link.now) (g.L.Link.write_faults c.args.link.now) (g.K.Sink.faults c.args.out.now) (g.K.Sink.wants c.args.out.now))
    (counts (g.L.Link.read_faults c.serve_each.new.link) (g.L.Link.write_faults c.serve_each.new.link) (g.K.Sink.faults c.serve_each.new.out) (g.K.Sink.wants c.serve_each.new.out)) c.in_ok-end.end.post c.args.serving c.in_ok-end.ensures.stands c.serve_each.ensures.over

pub returns-clause-halted : goal.returns-clause-halted
returns-clause-halted g c = begun-err c.serve_each.result (places (g.L.Link.told c.args.link.now) (g.K.Sink.written c.args.out.now)) (places (g.L.Link.told c.serve_each.new.link) (g.K.Sink.written c.serve_each.new.out))
    (counts (g.L.Link.read_faults c.args.link.now) (g.L.Link.write_faults c.args.link.now) (g.K.Sink.faults c.args.out.now) (g.K.Sink.wants c.args.out.now))
    (counts (g.L.Link.read_faults c.serve_each.new.link) (g.L.Link.write_faults c.serve_each.new.link) (g.K.Sink.faults c.serve_each.new.out) (g.K.Sink.wants c.serve_each.new.out)) c.in_ok-end.end.post c.args.serving c.in_ok-end.ensures.stands c.serve_each.ensures.halted
