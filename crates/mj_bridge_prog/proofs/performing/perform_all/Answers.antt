use Rattle.std.proofs.Common.{◌≡◌, ◌+◌, ◌<◌, subst, sym, take, drop, length, get_or, List}
use Rattle.std.proofs.lemmas.Result.{err_from_is_err_and}
use Rattle.mj_bridge.specs.declared.act.BridgeAct.{BridgeAct}
use Rattle.mj_bridge_prog.specs.Sides.{Performs, sides}
use Rattle.mj_bridge_prog.proofs.SideLemmas.{acts-at, later-more, performs-breaks, performs-more, taken-more}
use Rattle.mj_bridge_prog.proofs.performing.perform_all.Goals as goal

pub returns-in_err-perform-clause-broken : goal.returns-in_err-perform-clause-broken
returns-in_err-perform-clause-broken g c =
    let acts = c.args.acts.now in
    let i = c.loop-act.act-index in
    let a = c.act-item.result in
    let same = c.as_slice-act-items.ensures in
    let inside : i < length acts = subst (λ (l : List BridgeAct). i < length l) same c.loop-act-test.true in
    let at : a ≡ get_or acts i a = subst (λ (l : List BridgeAct). a ≡ get_or l i a) same c.act-item.is in
    let p = err_from_is_err_and c.from_residual.result c.from_residual.ensures.1 in
    rw p.1 (performs-breaks _ _ _ acts (take i acts) (drop (i + 1) acts) a (acts-at acts i a inside at) c.loop-act.invariant.done c.in_err-perform.ensures.near c.in_err-perform.ensures.far)

pub loop-act-preserved : goal.loop-act-preserved
loop-act-preserved g c =
    let acts = c.args.acts.now in
    let i = c.loop-act.act-index in
    let a = c.act-item.result in
    let same = c.as_slice-act-items.ensures in
    let inside : i < length acts = subst (λ (l : List BridgeAct). i < length l) same c.loop-act-test.true in
    let at : a ≡ get_or acts i a = subst (λ (l : List BridgeAct). a ≡ get_or l i a) same c.act-item.is in
    let e = c.in_ok-perform.ensures in
    let old = sides (g.N.Link.told c.args.near.now) (g.F.Link.told c.args.far.now) in
    let mid = sides (g.N.Link.told c.loop-act.near) (g.F.Link.told c.loop-act.far) in
    let now = sides (g.N.Link.told c.perform.new.near) (g.F.Link.told c.perform.new.far) in
    record {
      done = subst (λ (l : List BridgeAct). Performs old now l) (sym (taken-more acts i a inside at)) (performs-more old mid now (take i acts) a c.loop-act.invariant.done e.done);
      later = later-more _ _ _ c.loop-act.invariant.later e.later;
    }
