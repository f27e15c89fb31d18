use Rattle.std.proofs.Common.{sym, subst}
use Rattle.std.proofs.lemmas.Result.{err_from_is_err_and}
use Rattle.mj_peering.specs.Performing.{counts, places}
use Rattle.mj_peer_prog.specs.PeerRuns.{worker_of}
use Rattle.mj_peer_prog.specs.PeerTable.{scene}
use Rattle.mj_peer_prog.specs.StatusRows.{CameTo}
use Rattle.mj_peer_prog.specs.declared.ending.Ending.{Ending}
use Rattle.mj_peer_prog.specs.declared.task.Task.TheVariants as tasks
use Rattle.mj_peer_prog.proofs.RunRows.{worker-came-to, worker-halted}
use Rattle.mj_peer_prog.proofs.run.serve_each.Goals as goal

pub returns-in_err-leaving-clause-halted : goal.returns-in_err-leaving-clause-halted
returns-in_err-leaving-clause-halted g c =
    let p = err_from_is_err_and c.from_residual.result c.from_residual.ensures.1 in
    rw (p.1, p.2) (λ v from reads s. worker-halted _ v (scene from (places (g.L.Link.told c.args.link.now) (g.K.Sink.written c.args.out.now)) (places (g.L.Link.told c.run_worker.new.link) (g.K.Sink.written c.run_worker.new.out))
    (counts (g.L.Link.read_faults c.args.link.now) (g.L.Link.write_faults c.args.link.now) (g.K.Sink.faults c.args.out.now) (g.K.Sink.wants c.args.out.now))
    (counts (g.L.Link.read_faults c.run_worker.new.link) (g.L.Link.write_faults c.run_worker.new.link) (g.K.Sink.faults c.run_worker.new.out) (g.K.Sink.wants c.run_worker.new.out)) reads reads) c.in_err-leaving.ensures.cause (c.in_err-leaving.ensures.halted (worker_of v) s))

pub returns-clause-over : goal.returns-clause-over
returns-clause-over g c = λ v from reads stands.
    let s = (scene from (places (g.L.Link.told c.args.link.now) (g.K.Sink.written c.args.out.now)) (places (g.L.Link.told c.run_worker.new.link) (g.K.Sink.written c.run_worker.new.out))
    (counts (g.L.Link.read_faults c.args.link.now) (g.L.Link.write_faults c.args.link.now) (g.K.Sink.faults c.args.out.now) (g.K.Sink.wants c.args.out.now))
    (counts (g.L.Link.read_faults c.run_worker.new.link) (g.L.Link.write_faults c.run_worker.new.link) (g.K.Sink.faults c.run_worker.new.out) (g.K.Sink.wants c.run_worker.new.out)) reads reads) in
    subst (λ (ending : Ending). CameTo (tasks.Worker v) s ending) (sym c.worker_ending.ensures)
    (worker-came-to v s c.run_worker.new.end.post c.in_ok-leaving.leaving c.served.result c.served.ensures (c.in_ok-leaving.ensures.ran (worker_of v) stands))
