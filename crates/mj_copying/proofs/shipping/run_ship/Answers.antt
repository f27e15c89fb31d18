use Rattle.std.proofs.Common.{◌≡◌, ℕ, length, refl, subst, ap, ◌∙◌}
use Rattle.std.proofs.lemmas.Result.{err_from_is_err_and}
use Rattle.mj_copy.specs.ShipRules.{Shipping, new_ship}
use Rattle.mj_copy.specs.ShipStands.{shipping_of}
use Rattle.mj_copying.specs.ShipEndings.{Ended}
use Rattle.mj_copying.specs.ShipRun.{Ran}
use Rattle.mj_copying.proofs.ShipLemmas.{broke_off, ran_not, unmet}
use Rattle.mj_copying.proofs.shipping.run_ship.Goals as goal

pub returns-in_err-end-clause-broken : goal.returns-in_err-end-clause-broken
returns-in_err-end-clause-broken g c =
    let p = err_from_is_err_and c.from_residual.result c.from_residual.ensures.1 in
    rw p.1 (λ payloads s.
    broke_off payloads (new_ship c.args.log.now.base (length payloads) c.args.tries) (new_ship c.args.log.now.base (length payloads) c.args.tries) _ (g.L.Link.told c.args.link.now) _
    (ran_not payloads (new_ship c.args.log.now.base (length payloads) c.args.tries) (g.L.Link.told c.args.link.now)) (unmet payloads (new_ship c.args.log.now.base (length payloads) c.args.tries) (g.L.Link.told c.args.link.now) (g.L.Link.told c.args.link.now) refl))

pub returns-clause-shipped : goal.returns-clause-shipped
returns-clause-shipped g c = λ payloads s.
    let base = c.args.log.now.base in
    let last = shipping_of c.meet_all.new.end in
    let first : shipping_of c.in_ok-end.end ≡ new_ship c.args.log.now.base (length payloads) c.args.tries =
    c.in_ok-end.ensures.fresh ∙ ap (λ (b : ℕ). new_ship b c.count.result c.args.tries) c.base.ensures ∙ ap (λ (n : ℕ). new_ship c.args.log.now.base n c.args.tries) (c.count.ensures.count payloads s.knows) in
    record {
      last = shipping_of c.meet_all.new.end;
      ran = subst (λ (t : Shipping). Ran payloads t (g.L.Link.told c.args.link.now) (g.L.Link.told c.meet_all.new.link) (shipping_of c.meet_all.new.end)) first (c.in_ok-meet_all.ensures.ran payloads s);
      ended = subst (λ (n : ℕ). Ended c.ending_of.result n (shipping_of c.meet_all.new.end)) (c.count-2.ensures.count payloads s.knows) c.ending_of.ensures;
    }
