use Rattle.std.proofs.Common.{subst, sym}
use Rattle.mj_bridge_prog.specs.BridgeTable.{CameTo}
use Rattle.mj_bridge_prog.specs.Sides.{sides}
use Rattle.mj_bridge_prog.specs.declared.ending.Ending.{Ending}
use Rattle.mj_bridge_prog.proofs.FinishLemmas.{came-to}
use Rattle.mj_bridge_prog.proofs.top_call.run_begun.Goals as goal

pub returns-clause-over : goal.returns-clause-over
returns-clause-over g c = λ first s.
    let old = sides (g.N.Link.told c.args.near.now) (g.F.Link.told c.args.far.now) in
    let now = sides (g.N.Link.told c.run_bridge.new.near) (g.F.Link.told c.run_bridge.new.far) in
    subst (λ (x : Ending). CameTo first old now x) (sym c.ending_by.ensures)
    (came-to c.in_ok-leaving.leaving c.served.result first old now c.run_bridge.new.bridge.deck c.served.ensures (c.in_ok-leaving.ensures.ran first s))
