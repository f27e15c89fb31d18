use Rattle.std.proofs.Common.{◌≡◌, false}
use Rattle.mj_peer.specs.WorkerEndRules.{Worker}
use Rattle.mj_peer.specs.WorkerStands.{Stands}
use Rattle.mj_peering.specs.Performing.{AreLater, counts, places}
use Rattle.mj_peering.specs.WorkerRun.{Worked}
use Rattle.mj_peering.proofs.worker.run_worker.Given as goal

abbrev pub invariant-loop : goal.invariant-loop
invariant-loop g l = record {
  ready : l.end.spent ≡ false;
  worked : (first : Worker) → Stands l.fn.end.post first → Worked first (places (g.L.Link.told l.fn.link) (g.K.Sink.written l.fn.out)) (places (g.L.Link.told l.link) (g.K.Sink.written l.out)) l.end.post;
  later : AreLater (counts (g.L.Link.read_faults l.fn.link) (g.L.Link.write_faults l.fn.link) (g.K.Sink.faults l.fn.out) (g.K.Sink.wants l.fn.out)) (counts (g.L.Link.read_faults l.link) (g.L.Link.write_faults l.link) (g.K.Sink.faults l.out) (g.K.Sink.wants l.out));
}
