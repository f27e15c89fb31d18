use Rattle.std.proofs.lemmas.Result.{err_from_is_err_and}
use Rattle.mj_peering.specs.Performing.{places}
use Rattle.mj_peering.proofs.WorkerLemmas.{halted-performing, halted-unstarted}
use Rattle.mj_peering.proofs.worker.start.Goals as goal

pub returns-in_err-acts-clause-halted : goal.returns-in_err-acts-clause-halted
returns-in_err-acts-clause-halted g c =
    let p = err_from_is_err_and c.from_residual.result c.from_residual.ensures.1 in
    rw p.1 (λ first s. halted-unstarted p.0 first (places (g.L.Link.told c.args.link.now) (g.K.Sink.written c.args.out.now)) p.2)

pub returns-clause-halted : goal.returns-clause-halted
returns-clause-halted g c =
    halted-performing c.perform_all.result (places (g.L.Link.told c.args.link.now) (g.K.Sink.written c.args.out.now)) (places (g.L.Link.told c.perform_all.new.link) (g.K.Sink.written c.perform_all.new.out)) c.args.end.now.post c.start.new.self.post c.in_ok-acts.acts _ _ c.in_ok-acts.ensures.turn
    c.perform_all.ensures.broken c.perform_all.ensures.cause
