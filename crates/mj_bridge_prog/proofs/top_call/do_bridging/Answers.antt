use Rattle.mj_bridge_prog.specs.BridgeTable.{bridge_of}
use Rattle.mj_bridge_prog.specs.Sides.{counts, sides}
use Rattle.mj_bridge_prog.proofs.FinishLemmas.{ended}
use Rattle.mj_bridge_prog.proofs.top_call.do_bridging.Goals as goal

pub returns : goal.returns
returns g c =
    c.finish.ensures (bridge_of c.args.bridging) (sides (g.N.Link.told c.args.near.now) (g.F.Link.told c.args.far.now)) (sides (g.N.Link.told c.run_new-run.new.near) (g.F.Link.told c.run_new-run.new.far))
    (counts (g.N.Link.read_faults c.args.near.now) (g.N.Link.write_faults c.args.near.now) (g.F.Link.read_faults c.args.far.now) (g.F.Link.write_faults c.args.far.now))
    (counts (g.N.Link.read_faults c.run_new-run.new.near) (g.N.Link.write_faults c.run_new-run.new.near) (g.F.Link.read_faults c.run_new-run.new.far) (g.F.Link.write_faults c.run_new-run.new.far))
    (ended c.run_new-run.result _ _ c.run_new-run.ensures.over c.run_new-run.ensures.halted)
