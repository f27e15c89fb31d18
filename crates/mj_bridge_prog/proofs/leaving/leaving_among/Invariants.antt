use Rattle.std.proofs.Common.{◌≡◌, drop}
use Rattle.mj_bridge_prog.specs.BridgeRun.{leaving_in}
use Rattle.mj_bridge_prog.proofs.leaving.leaving_among.Given as goal

abbrev pub invariant-loop-act : goal.invariant-loop-act
invariant-loop-act l = leaving_in l.acts ≡ leaving_in (drop l.act-index l.acts)
