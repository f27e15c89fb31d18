use Rattle.std.proofs.lemmas.Result.{err_from_is_err_and}
use Rattle.mj_bridge_prog.specs.Sides.{sides}
use Rattle.mj_bridge_prog.proofs.RunLemmas.{halted-performing, halted-unstarted}
use Rattle.mj_bridge_prog.proofs.run.start.Goals as goal

pub returns-in_err-acts-clause-halted : goal.returns-in_err-acts-clause-halted
returns-in_err-acts-clause-halted g c =
    let p = err_from_is_err_and c.from_residual.result c.from_residual.ensures.1 in
    rw p.1 (λ first s. halted-unstarted p.0 first (sides (g.N.Link.told c.args.near.now) (g.F.Link.told c.args.far.now)) p.2)

pub returns-clause-halted : goal.returns-clause-halted
returns-clause-halted g c =
    halted-performing c.perform_all.result (sides (g.N.Link.told c.args.near.now) (g.F.Link.told c.args.far.now)) (sides (g.N.Link.told c.perform_all.new.near) (g.F.Link.told c.perform_all.new.far)) c.args.bridge.now.deck c.start.new.self.deck c.in_ok-acts.acts _ _ c.in_ok-acts.ensures.turn
    c.perform_all.ensures.broken c.perform_all.ensures.cause
