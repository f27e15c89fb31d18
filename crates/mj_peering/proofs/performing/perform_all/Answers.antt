use Rattle.std.proofs.Common.{◌≡◌, ◌+◌, ◌<◌, subst, sym, take, drop, length, get_or, List}
use Rattle.std.proofs.lemmas.Result.{err_from_is_err_and}
use Rattle.mj_peer.specs.declared.act.Act.{Act}
use Rattle.mj_peering.specs.Performing.{Performs, places}
use Rattle.mj_peering.proofs.PlaceLemmas.{acts-at, later-more, performs-breaks, performs-more, taken-more}
use Rattle.mj_peering.proofs.performing.perform_all.Goals as goal

pub returns-in_err-perform-clause-broken : goal.returns-in_err-perform-clause-broken
returns-in_err-perform-clause-broken g c =
    let acts = c.args.acts.now in
    let i = c.loop-act.act-index in
    let a = c.act-item.result in
    let same = c.as_slice-act-items.ensures in
    let inside : i < length acts = subst (λ (l : List Act). i < length l) same c.loop-act-test.true in
    let at : a ≡ get_or acts i a = subst (λ (l : List Act). a ≡ get_or l i a) same c.act-item.is in
    let b = c.in_err-perform.ensures.broken in
    let p = err_from_is_err_and c.from_residual.result c.from_residual.ensures.1 in
    rw p.1 (performs-breaks _ _ _ acts (take i acts) (drop (i + 1) acts) a b.0 (acts-at acts i a inside at) c.loop-act.invariant.done b.1)

pub loop-act-preserved : goal.loop-act-preserved
loop-act-preserved g c =
    let acts = c.args.acts.now in
    let i = c.loop-act.act-index in
    let a = c.act-item.result in
    let same = c.as_slice-act-items.ensures in
    let inside : i < length acts = subst (λ (l : List Act). i < length l) same c.loop-act-test.true in
    let at : a ≡ get_or acts i a = subst (λ (l : List Act). a ≡ get_or l i a) same c.act-item.is in
    let e = c.in_ok-perform.ensures in
    let old = places (g.L.Link.told c.args.link.now) (g.K.Sink.written c.args.out.now) in
    let mid = places (g.L.Link.told c.loop-act.link) (g.K.Sink.written c.loop-act.out) in
    let now = places (g.L.Link.told c.perform.new.link) (g.K.Sink.written c.perform.new.out) in
    record {
      done = subst (λ (l : List Act). Performs old now l) (sym (taken-more acts i a inside at)) (performs-more old mid now (take i acts) a c.loop-act.invariant.done e.done);
      later = later-more _ _ _ c.loop-act.invariant.later e.later;
    }
