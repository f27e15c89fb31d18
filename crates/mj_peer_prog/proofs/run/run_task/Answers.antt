use Rattle.mj_peering.specs.Performing.{counts, places}
use Rattle.mj_peer_prog.proofs.RunRows.{any-err, any-ok}
use Rattle.mj_peer_prog.proofs.run.run_task.Goals as goal

pub returns-in-Worker-clause-over : goal.returns-in-Worker-clause-over
returns-in-Worker-clause-over g c = any-ok c.serve_all.result c.in-Worker.serving c.args.task (g.S.Source.left c.args.src.now) (places (g.L.Link.told c.args.link.now) (g.K.Sink.written c.args.out.now)) (places (g.L.Link.told c.serve_all.new.link) (g.K.Sink.written c.serve_all.new.out))
    (counts (g.L.Link.read_faults c.args.link.now) (g.L.Link.write_faults c.args.link.now) (g.K.Sink.faults c.args.out.now) (g.K.Sink.wants c.args.out.now))
    (counts (g.L.Link.read_faults c.serve_all.new.link) (g.L.Link.write_faults c.serve_all.new.link) (g.K.Sink.faults c.serve_all.new.out) (g.K.Sink.wants c.serve_all.new.out)) (g.S.Source.faults c.args.src.now) c.in-Worker.is c.serve_all.ensures.over

pub returns-in-Worker-clause-halted : goal.returns-in-Worker-clause-halted
returns-in-Worker-clause-halted g c = any-err c.serve_all.result c.in-Worker.serving c.args.task (g.S.Source.left c.args.src.now) (places (g.L.Link.told c.args.link.now) (g.K.Sink.written c.args.out.now)) (places (g.L.Link.told c.serve_all.new.link) (g.K.Sink.written c.serve_all.new.out))
    (counts (g.L.Link.read_faults c.args.link.now) (g.L.Link.write_faults c.args.link.now) (g.K.Sink.faults c.args.out.now) (g.K.Sink.wants c.args.out.now))
    (counts (g.L.Link.read_faults c.serve_all.new.link) (g.L.Link.write_faults c.serve_all.new.link) (g.K.Sink.faults c.serve_all.new.out) (g.K.Sink.wants c.serve_all.new.out)) (g.S.Source.faults c.args.src.now) c.in-Worker.is c.serve_all.ensures.halted
