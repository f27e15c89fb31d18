use Rattle.std.proofs.Common.{take}
use Rattle.mj_bridge_prog.specs.Sides.{AreLater, Performs, counts, sides}
use Rattle.mj_bridge_prog.proofs.performing.perform_all.Given as goal

abbrev pub invariant-loop-act : goal.invariant-loop-act
invariant-loop-act g l = record {
  done : Performs (sides (g.N.Link.told l.fn.near) (g.F.Link.told l.fn.far)) (sides (g.N.Link.told l.near) (g.F.Link.told l.far)) (take l.act-index l.acts);
  later : AreLater (counts (g.N.Link.read_faults l.fn.near) (g.N.Link.write_faults l.fn.near) (g.F.Link.read_faults l.fn.far) (g.F.Link.write_faults l.fn.far)) (counts (g.N.Link.read_faults l.near) (g.N.Link.write_faults l.near) (g.F.Link.read_faults l.far) (g.F.Link.write_faults l.far));
}
