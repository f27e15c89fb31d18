use Rattle.mj_peering.specs.Performing.{counts, places}
use Rattle.mj_peer_prog.specs.StatusRows.{setting}
use Rattle.mj_peer_prog.proofs.FinishLemmas.{ended}
use Rattle.mj_peer_prog.proofs.top_call.do_task.Goals as goal

pub returns : goal.returns
returns g c =
    c.finish.ensures c.args.task
    (setting (g.S.Source.left c.args.src.now) (places (g.L.Link.told c.args.link.now) (g.K.Sink.written c.args.out.now)) (g.L.Link.told c.run_task-run.new.link)
    (counts (g.L.Link.read_faults c.args.link.now) (g.L.Link.write_faults c.args.link.now) (g.K.Sink.faults c.args.out.now) (g.K.Sink.wants c.args.out.now))
    (g.L.Link.read_faults c.run_task-run.new.link) (g.L.Link.write_faults c.run_task-run.new.link) (g.S.Source.faults c.args.src.now) (g.S.Source.faults c.run_task-run.new.src))
    c.run_task-run.ensures.later (ended c.run_task-run.result _ _ c.run_task-run.ensures.over c.run_task-run.ensures.halted)
