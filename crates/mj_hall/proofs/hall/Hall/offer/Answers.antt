use Rattle.std.proofs.Common.{◌≡◌, ◌∙◌, ℕ, Option, Some, sym, ap, subst, rules}
use Rattle.std.specs.Option.{IsSome, option_map}
use Rattle.mj_chain.specs.Seats.{found}
use Rattle.mj_queue.specs.Offers.{offer_of}
use Rattle.mj_queue.specs.Settling.{pair}
use Rattle.mj_queue.specs.declared.offer.Offer.{Offer}
use Rattle.mj_queue.specs.declared.request.Origin.{Origin}
use Rattle.mj_queue.specs.declared.worker.Waiter.{Waiter}
use Rattle.mj_hall.specs.HallValue.{HallValue}
use Rattle.mj_hall.proofs.HallLemmas.{first_is_pair, no_pair_is, value_is}
use Rattle.mj_hall.proofs.TakenLemmas.{leaving, same_some}
use Rattle.mj_hall.proofs.hall.Hall.offer.Goals as goal

pub returns-in_err-_label-clause-value : goal.returns-in_err-_label-clause-value
returns-in_err-_label-clause-value g c =
    c.from_residual.ensures ∙ ap (option_map offer_of) (sym (no_pair_is c.self.inside c.self.invariant.0 c.self.invariant.1 c.args.self.now c.self.invariant.2 c.self.view_is c.in_err-_label.ensures.empty))

pub unwrap-row-requires : goal.unwrap-row-requires
unwrap-row-requires g c =
    let t = leaving c.self.inside c.self.invariant.0 c.self.invariant.1 c.in_ok-_label._label c.in_ok-_label.desk c.self.invariant.2 c.in_ok-_label.ensures.stands in
    subst (λ (o : Option (ℕ × ℕ)). IsSome o) (sym (c.firsts_of.ensures.firsts c.self.invariant.0 t.at.later c.self.invariant.1 t.at.others t.at.request t.at.worker t.desk t.at.asks t.at.waits)) (search rules)

pub unwrap-origin-requires : goal.unwrap-origin-requires
unwrap-origin-requires g c =
    let t = leaving c.self.inside c.self.invariant.0 c.self.invariant.1 c.in_ok-_label._label c.in_ok-_label.desk c.self.invariant.2 c.in_ok-_label.ensures.stands in
    let keys : c.unwrap-row.result ≡ (t.at.request.key, t.at.worker.key) = same_some c.firsts_of.result c.unwrap-row.result (t.at.request.key, t.at.worker.key) c.unwrap-row.ensures (c.firsts_of.ensures.firsts c.self.invariant.0 t.at.later c.self.invariant.1 t.at.others t.at.request t.at.worker t.desk t.at.asks t.at.waits) in
    let asked : found c.unwrap-row.result.0 c.self.invariant.0 ≡ Some t.at.request.value = ap (λ (k : ℕ × ℕ). found k.0 c.self.invariant.0) keys ∙ t.asked in
    subst (λ (o : Option Origin). IsSome o) (sym (c.origin_of.ensures.value c.self.inside.clients.pairs c.self.inside.tickets.pairs c.self.invariant.0 t.at.request.value c.self.invariant.2.asking asked)) (search rules)

pub unwrap-waiter-requires : goal.unwrap-waiter-requires
unwrap-waiter-requires g c =
    let t = leaving c.self.inside c.self.invariant.0 c.self.invariant.1 c.in_ok-_label._label c.in_ok-_label.desk c.self.invariant.2 c.in_ok-_label.ensures.stands in
    let keys : c.unwrap-row.result ≡ (t.at.request.key, t.at.worker.key) = same_some c.firsts_of.result c.unwrap-row.result (t.at.request.key, t.at.worker.key) c.unwrap-row.ensures (c.firsts_of.ensures.firsts c.self.invariant.0 t.at.later c.self.invariant.1 t.at.others t.at.request t.at.worker t.desk t.at.asks t.at.waits) in
    let served : found c.unwrap-row.result.1 c.self.invariant.1 ≡ Some t.at.worker.value = ap (λ (k : ℕ × ℕ). found k.1 c.self.invariant.1) keys ∙ t.served in
    subst (λ (o : Option Waiter). IsSome o) (sym (c.waiter_of.ensures.value c.self.inside.conns.pairs c.self.invariant.1 t.at.worker.value c.self.invariant.2.serving served)) (search rules)

abbrev offered : Waiter → Origin → Option Offer
offered w o = Some (record { worker = w.worker; service = w.service; origin = o })

pub returns-clause-value : goal.returns-clause-value
returns-clause-value g c =
    let t = leaving c.self.inside c.self.invariant.0 c.self.invariant.1 c.in_ok-_label._label c.in_ok-_label.desk c.self.invariant.2 c.in_ok-_label.ensures.stands in
    let keys : c.unwrap-row.result ≡ (t.at.request.key, t.at.worker.key) = same_some c.firsts_of.result c.unwrap-row.result (t.at.request.key, t.at.worker.key) c.unwrap-row.ensures (c.firsts_of.ensures.firsts c.self.invariant.0 t.at.later c.self.invariant.1 t.at.others t.at.request t.at.worker t.desk t.at.asks t.at.waits) in
    let asked : found c.unwrap-row.result.0 c.self.invariant.0 ≡ Some t.at.request.value = ap (λ (k : ℕ × ℕ). found k.0 c.self.invariant.0) keys ∙ t.asked in
    let served : found c.unwrap-row.result.1 c.self.invariant.1 ≡ Some t.at.worker.value = ap (λ (k : ℕ × ℕ). found k.1 c.self.invariant.1) keys ∙ t.served in
    let origin : c.unwrap-origin.result ≡ t.at.request.value.request.origin = same_some c.origin_of.result c.unwrap-origin.result t.at.request.value.request.origin c.unwrap-origin.ensures (c.origin_of.ensures.value c.self.inside.clients.pairs c.self.inside.tickets.pairs c.self.invariant.0 t.at.request.value c.self.invariant.2.asking asked) in
    let waiter : c.unwrap-waiter.result ≡ t.at.worker.value.waiter = same_some c.waiter_of.result c.unwrap-waiter.result t.at.worker.value.waiter c.unwrap-waiter.ensures (c.waiter_of.ensures.value c.self.inside.conns.pairs c.self.invariant.1 t.at.worker.value c.self.invariant.2.serving served) in
    ap (λ (w : Waiter). offered w c.unwrap-origin.result) waiter
    ∙ ap (offered t.at.worker.value.waiter) origin
    ∙ sym (ap (option_map offer_of) (first_is_pair c.self.inside c.self.invariant.0 c.self.invariant.1 c.in_ok-_label._label c.in_ok-_label.desk c.self.invariant.2 c.in_ok-_label.ensures.stands t.at))
    ∙ ap (λ (v : HallValue). option_map offer_of (pair v.state.waiting v.state.requests)) (value_is c.self.inside c.self.invariant.0 c.self.invariant.1 c.args.self.now c.self.invariant.2 c.self.view_is)
