use Rattle.std.proofs.Common.{sym, subst}
use Rattle.std.proofs.lemmas.Result.{err_from_is_err_and}
use Rattle.mj_peering.specs.Performing.{counts, places}
use Rattle.mj_peer_prog.specs.PeerRuns.{client_of}
use Rattle.mj_peer_prog.specs.PeerTable.{scene}
use Rattle.mj_peer_prog.specs.StatusRows.{CameTo}
use Rattle.mj_peer_prog.specs.declared.ending.Ending.{Ending}
use Rattle.mj_peer_prog.specs.declared.task.Task.TheVariants as tasks
use Rattle.mj_peer_prog.proofs.RunRows.{client-came-to, client-halted}
use Rattle.mj_peer_prog.proofs.run.ask_each.Goals as goal

pub returns-in_err-count-clause-halted : goal.returns-in_err-count-clause-halted
returns-in_err-count-clause-halted g c =
    let p = err_from_is_err_and c.from_residual.result c.from_residual.ensures.1 in
    rw (p.1, p.2) (λ a b. client-halted _ a _ _ b.unread c.in_err-count.ensures.cause (c.in_err-count.ensures.halted (client_of a) b.stands))

pub returns-clause-over : goal.returns-clause-over
returns-clause-over g c = λ a b.
    let s = (scene (g.S.Source.left c.args.src.now) (places (g.L.Link.told c.args.link.now) (g.K.Sink.written c.args.out.now)) (places (g.L.Link.told c.run_client.new.link) (g.K.Sink.written c.run_client.new.out))
    (counts (g.L.Link.read_faults c.args.link.now) (g.L.Link.write_faults c.args.link.now) (g.K.Sink.faults c.args.out.now) (g.K.Sink.wants c.args.out.now))
    (counts (g.L.Link.read_faults c.run_client.new.link) (g.L.Link.write_faults c.run_client.new.link) (g.K.Sink.faults c.run_client.new.out) (g.K.Sink.wants c.run_client.new.out)) (g.S.Source.faults c.args.src.now) (g.S.Source.faults c.run_client.new.src)) in
    subst (λ (ending : Ending). CameTo (tasks.Client a) s ending) (sym c.client_ending.ensures)
    (client-came-to a s _ _ c.run_client.new.end.session c.in_ok-count.count c.is_over.result b.unread (sym c.is_over.ensures) c.in_ok-count.ensures.over (c.in_ok-count.ensures.ran (client_of a) b.stands))
