use Rattle.std.proofs.Common.{Option, false, refl, subst, true}
use Rattle.std.proofs.lemmas.Result.{err_from_is_err_and}
use Rattle.mj_bridge.specs.BridgeRules.{FarGave, NearGave}
use Rattle.mj_bridge_prog.specs.BridgeRun.{Turned}
use Rattle.mj_bridge_prog.specs.Sides.{sides}
use Rattle.mj_bridge_prog.proofs.RunLemmas.{halted-met, left-met, worked-met}
use Rattle.mj_bridge_prog.proofs.SideLemmas.{later-more}
use Rattle.mj_bridge_prog.proofs.run.run_bridge.Goals as goal
use Rattle.mj_peering.specs.declared.leaving.Leaving.{Leaving}

pub returns-in_err-leaving-clause-halted : goal.returns-in_err-leaving-clause-halted
returns-in_err-leaving-clause-halted g c =
    let p = err_from_is_err_and c.from_residual-in_err-leaving.result c.from_residual-in_err-leaving.ensures.1 in
    rw (p.1, p.2) (λ first s. halted-met _ NearGave first _ _ _ _ true false (λ event. refl) c.in_err-leaving.ensures.broken (c.loop.invariant.worked first s))

pub returns-in-Some-2-clause-ran : goal.returns-in-Some-2-clause-ran
returns-in-Some-2-clause-ran g c = λ first s.
    let old = sides (g.N.Link.told c.args.near.now) (g.F.Link.told c.args.far.now) in
    let mid = sides (g.N.Link.told c.loop.near) (g.F.Link.told c.loop.far) in
    let now = sides (g.N.Link.told c.take_near.new.near) (g.F.Link.told c.take_near.new.far) in
    let d = c.in_ok-leaving.ensures.done in
    left-met c.in-Some-2.leaving first old mid now c.loop.bridge.deck c.take_near.new.bridge.deck (NearGave d.0) true false refl
    (subst (λ (o : Option Leaving). Turned o c.loop.bridge.deck c.take_near.new.bridge.deck mid now (NearGave d.0)) c.in-Some-2.is d.1) (c.loop.invariant.worked first s)

pub returns-in_err-leaving-2-clause-halted : goal.returns-in_err-leaving-2-clause-halted
returns-in_err-leaving-2-clause-halted g c =
    let p = err_from_is_err_and c.from_residual-in_err-leaving-2.result c.from_residual-in_err-leaving-2.ensures.1 in
    let old = sides (g.N.Link.told c.args.near.now) (g.F.Link.told c.args.far.now) in
    let mid = sides (g.N.Link.told c.loop.near) (g.F.Link.told c.loop.far) in
    let now = sides (g.N.Link.told c.take_near.new.near) (g.F.Link.told c.take_near.new.far) in
    let d = c.in_ok-leaving.ensures.done in
    rw (p.1, p.2)
    (λ first s. halted-met _ FarGave first _ _ _ _ false true (λ event. refl) c.in_err-leaving-2.ensures.broken
    (worked-met first old mid now c.loop.bridge.deck c.take_near.new.bridge.deck (NearGave d.0) true false refl
    (subst (λ (o : Option Leaving). Turned o c.loop.bridge.deck c.take_near.new.bridge.deck mid now (NearGave d.0)) c.in-None-2.is d.1) (c.loop.invariant.worked first s)))

pub returns-in-Some-3-clause-ran : goal.returns-in-Some-3-clause-ran
returns-in-Some-3-clause-ran g c = λ first s.
    let old = sides (g.N.Link.told c.args.near.now) (g.F.Link.told c.args.far.now) in
    let mid = sides (g.N.Link.told c.loop.near) (g.F.Link.told c.loop.far) in
    let half = sides (g.N.Link.told c.take_near.new.near) (g.F.Link.told c.take_near.new.far) in
    let now = sides (g.N.Link.told c.take_far.new.near) (g.F.Link.told c.take_far.new.far) in
    let d = c.in_ok-leaving.ensures.done in
    let e = c.in_ok-leaving-2.ensures.done in
    left-met c.in-Some-3.leaving first old half now c.take_near.new.bridge.deck c.take_far.new.bridge.deck (FarGave e.0) false true refl
    (subst (λ (o : Option Leaving). Turned o c.take_near.new.bridge.deck c.take_far.new.bridge.deck half now (FarGave e.0)) c.in-Some-3.is e.1)
    (worked-met first old mid half c.loop.bridge.deck c.take_near.new.bridge.deck (NearGave d.0) true false refl
    (subst (λ (o : Option Leaving). Turned o c.loop.bridge.deck c.take_near.new.bridge.deck mid half (NearGave d.0)) c.in-None-2.is d.1) (c.loop.invariant.worked first s))

pub loop-preserved : goal.loop-preserved
loop-preserved g c =
    let old = sides (g.N.Link.told c.args.near.now) (g.F.Link.told c.args.far.now) in
    let mid = sides (g.N.Link.told c.loop.near) (g.F.Link.told c.loop.far) in
    let half = sides (g.N.Link.told c.take_near.new.near) (g.F.Link.told c.take_near.new.far) in
    let now = sides (g.N.Link.told c.take_far.new.near) (g.F.Link.told c.take_far.new.far) in
    let d = c.in_ok-leaving.ensures.done in
    let e = c.in_ok-leaving-2.ensures.done in
    record {
      ready = c.in_ok-leaving-2.ensures.ready;
      worked = λ first s.
          worked-met first old half now c.take_near.new.bridge.deck c.take_far.new.bridge.deck (FarGave e.0) false true refl
          (subst (λ (o : Option Leaving). Turned o c.take_near.new.bridge.deck c.take_far.new.bridge.deck half now (FarGave e.0)) c.in-None-3.is e.1)
          (worked-met first old mid half c.loop.bridge.deck c.take_near.new.bridge.deck (NearGave d.0) true false refl
          (subst (λ (o : Option Leaving). Turned o c.loop.bridge.deck c.take_near.new.bridge.deck mid half (NearGave d.0)) c.in-None-2.is d.1) (c.loop.invariant.worked first s));
      later = later-more _ _ _ (later-more _ _ _ c.loop.invariant.later c.in_ok-leaving.ensures.later) c.in_ok-leaving-2.ensures.later;
    }
