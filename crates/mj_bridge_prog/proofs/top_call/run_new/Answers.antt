use Rattle.std.proofs.lemmas.Result.{err_from_is_err_and}
use Rattle.mj_bridge_prog.specs.BridgeTable.{bridge_of}
use Rattle.mj_bridge_prog.specs.Sides.{sides}
use Rattle.mj_bridge_prog.proofs.FinishLemmas.{unmade}
use Rattle.mj_bridge_prog.proofs.top_call.run_new.Goals as goal

pub returns-in_err-bridge-clause-halted : goal.returns-in_err-bridge-clause-halted
returns-in_err-bridge-clause-halted g c =
    let p = err_from_is_err_and c.from_residual.result c.from_residual.ensures.1 in
    rw p.1 (unmade p.0 (bridge_of c.args.bridging) (sides (g.N.Link.told c.args.near.now) (g.F.Link.told c.args.far.now)) _ _ p.2)
