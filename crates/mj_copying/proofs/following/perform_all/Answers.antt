use Rattle.std.proofs.Common.{List, subst, sym, take, drop, arith}
use Rattle.mj_copy.specs.declared.follow_act.FollowAct.{FollowAct}
use Rattle.mj_copying.specs.FollowState.{Performs}
use Rattle.mj_copying.proofs.FollowLemmas.{acts_at, performs_breaks, performs_more, taken_more}
use Rattle.mj_copying.proofs.following.perform_all.Goals as goal

pub returns-in-Err-clause-broken : goal.returns-in-Err-clause-broken
returns-in-Err-clause-broken g c =
    let i = c.loop-act.act-index in
    performs_breaks _ (g.L.Link.told c.loop-act.link) _ c.args.acts.now (take i c.args.acts.now) (drop i c.args.acts.now) (acts_at c.args.acts.now i) c.loop-act.invariant.done c.in-Err.ensures.broken

pub loop-act-preserved : goal.loop-act-preserved
loop-act-preserved g c =
    let acts = c.args.acts.now in
    let i = c.loop-act.act-index in
    let a = c.act-item.result in
    let inv = c.loop-act.invariant in
    let reads = inv.reads in
    let writes = inv.writes in
    let old = g.L.Link.told c.args.link.now in
    let now = g.L.Link.told c.perform.new.link in
    record {
      done = subst (λ (l : List FollowAct). Performs old now l) (sym (taken_more acts i a c.loop-act-test.true c.act-item.is)) (performs_more old (g.L.Link.told c.loop-act.link) now (take i acts) a inv.done c.in-Ok.ensures.done);
      reads = omega (arith, reads, c.perform.ensures.reads);
      writes = omega (arith, writes, c.perform.ensures.writes);
    }
