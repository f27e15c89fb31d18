use Rattle.std.proofs.Common.{List, Option, subst, sym, ◌∙◌, take, drop, length, arith}
use Rattle.std.proofs.lemmas.List.{take-append-drop}
use Rattle.std.proofs.lemmas.Result.{err_from_is_err_and}
use Rattle.mj_copy.specs.declared.ship_act.ShipAct.{ShipAct}
use Rattle.mj_copying.specs.Held.{StandsAt}
use Rattle.mj_copying.specs.ShipRun.{Performs}
use Rattle.mj_disk.specs.DiskModel.{History}
use Rattle.mj_copying.proofs.LinkLemmas.{later_more}
use Rattle.mj_copying.proofs.ShipLemmas.{all_at, performs_breaks, performs_more, taken_more}
use Rattle.mj_copying.proofs.shipping.perform_all.Goals as goal

pub perform-requires-clause-inside : goal.perform-requires-clause-inside
perform-requires-clause-inside g c =
    all_at (length c.args.log.now.spots.items) c.args.acts.now c.loop-act.act-index c.act-item.result c.requires.inside c.loop-act-test.true c.act-item.is

pub returns-in_err-perform-clause-broken : goal.returns-in_err-perform-clause-broken
returns-in_err-perform-clause-broken g c =
    let acts = c.args.acts.now in
    let i = c.loop-act.act-index in
    let p = err_from_is_err_and c.from_residual.result c.from_residual.ensures.1 in
    rw p.1 (λ payloads s. performs_breaks payloads _ _ _ acts (take i acts) (drop i acts) (sym (take-append-drop i acts)) (c.loop-act.invariant.done payloads s) c.in_err-perform.ensures.broken)

pub loop-act-preserved : goal.loop-act-preserved
loop-act-preserved g c =
    let acts = c.args.acts.now in
    let i = c.loop-act.act-index in
    let a = c.act-item.result in
    let e = c.in_ok-perform.ensures in
    let inv = c.loop-act.invariant in
    let old = g.L.Link.told c.args.link.now in
    let mid = g.L.Link.told c.loop-act.link in
    let now = g.L.Link.told c.perform.new.link in
    let before = inv.time in
    let behind = e.time in
    record {
      held = e.held;
      done = λ payloads s.
          subst (λ (l : List ShipAct). Performs payloads old now l) (sym (taken_more acts i a c.loop-act-test.true c.act-item.is))
          (performs_more payloads old mid now (take i acts) a (inv.done payloads s) (e.done payloads (subst (λ (t : Option History). StandsAt payloads c.args.log.now t) (sym inv.same) s)));
      later = later_more _ _ _ inv.later e.later;
      same = e.same ∙ inv.same;
      time = omega (arith, before, behind);
    }
