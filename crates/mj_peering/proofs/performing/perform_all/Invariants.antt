use Rattle.std.proofs.Common.{take}
use Rattle.mj_peering.specs.Performing.{AreLater, Performs, counts, places}
use Rattle.mj_peering.proofs.performing.perform_all.Given as goal

abbrev pub invariant-loop-act : goal.invariant-loop-act
invariant-loop-act g l = record {
  done : Performs (places (g.L.Link.told l.fn.link) (g.K.Sink.written l.fn.out)) (places (g.L.Link.told l.link) (g.K.Sink.written l.out)) (take l.act-index l.acts);
  later : AreLater (counts (g.L.Link.read_faults l.fn.link) (g.L.Link.write_faults l.fn.link) (g.K.Sink.faults l.fn.out) (g.K.Sink.wants l.fn.out)) (counts (g.L.Link.read_faults l.link) (g.L.Link.write_faults l.link) (g.K.Sink.faults l.out) (g.K.Sink.wants l.out));
}
