use Rattle.std.proofs.Common.{Option, subst, sym, ◌∙◌, arith}
use Rattle.std.proofs.lemmas.Result.{err_from_is_err_and}
use Rattle.mj_copy.specs.ShipStands.{shipping_of}
use Rattle.mj_copying.specs.Held.{StandsAt}
use Rattle.mj_disk.specs.DiskModel.{History}
use Rattle.mj_copying.proofs.LinkLemmas.{later_more}
use Rattle.mj_copying.proofs.ShipLemmas.{broke_off, ran_more}
use Rattle.mj_copying.proofs.shipping.meet_all.Goals as goal

pub loop-preserved : goal.loop-preserved
loop-preserved g c =
    let e = c.in_ok-meet.ensures in
    let inv = c.loop.invariant in
    let before = inv.time in
    let behind = e.time in
    record {
      ready = e.ready;
      held = e.held;
      total = e.total ∙ inv.total;
      ran = λ payloads s. ran_more payloads _ (shipping_of c.loop.end) _ _ _ _ (inv.ran payloads s) (e.done payloads (subst (λ (t : Option History). StandsAt payloads c.args.log.now t) (sym inv.same) s));
      later = later_more _ _ _ inv.later e.later;
      same = e.same ∙ inv.same;
      time = omega (arith, before, behind);
    }

pub returns-in_err-meet-clause-broken : goal.returns-in_err-meet-clause-broken
returns-in_err-meet-clause-broken g c =
    let inv = c.loop.invariant in
    let p = err_from_is_err_and c.from_residual.result c.from_residual.ensures.1 in
    rw p.1 (λ payloads s. broke_off payloads _ (shipping_of c.loop.end) _ _ _ (inv.ran payloads s) (c.in_err-meet.ensures.broken payloads (subst (λ (t : Option History). StandsAt payloads c.args.log.now t) (sym inv.same) s)))
