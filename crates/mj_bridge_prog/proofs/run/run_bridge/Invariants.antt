use Rattle.std.proofs.Common.{◌≡◌, false, true}
use Rattle.mj_bridge.specs.BridgeRules.{Bridge}
use Rattle.mj_bridge.specs.BridgeStands.{Stands}
use Rattle.mj_bridge_prog.specs.BridgeRun.{Worked}
use Rattle.mj_bridge_prog.specs.Sides.{AreLater, counts, sides}
use Rattle.mj_bridge_prog.proofs.run.run_bridge.Given as goal

abbrev pub invariant-loop : goal.invariant-loop
invariant-loop g l = record {
  ready : l.bridge.spent ≡ false;
  worked : (first : Bridge) → Stands l.fn.bridge.deck first → Worked first (sides (g.N.Link.told l.fn.near) (g.F.Link.told l.fn.far)) (sides (g.N.Link.told l.near) (g.F.Link.told l.far)) l.bridge.deck true;
  later : AreLater (counts (g.N.Link.read_faults l.fn.near) (g.N.Link.write_faults l.fn.near) (g.F.Link.read_faults l.fn.far) (g.F.Link.write_faults l.fn.far)) (counts (g.N.Link.read_faults l.near) (g.N.Link.write_faults l.near) (g.F.Link.read_faults l.far) (g.F.Link.write_faults l.far));
}
