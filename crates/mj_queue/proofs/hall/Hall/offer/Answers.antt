use Rattle.std.proofs.Common.{◌≡◌, ap, sym, ◌∙◌, None, refl, Option}
use Rattle.std.specs.Option.{option_map}
use Rattle.mj_queue.specs.Offers.{offer_of}
use Rattle.mj_queue.specs.Settling.{Pair}
use Rattle.mj_queue.proofs.PairLemmas.{asked_at, nobody-seen, offer-seen, served_at, some_serves_it}
use Rattle.mj_queue.proofs.hall.Hall.offer.Goals as goal

pub returns-in_default : goal.returns-in_default
returns-in_default c =
    sym (ap (λ (o : Option Pair). option_map offer_of o)
    (nobody-seen c.self.inside.limits c.self.inside.waiting.items c.self.inside.busy.items c.deref-2.result.now c.self.inside.requests.items c.deref.result.now c.args.self.now c.place_of_request.result
    c.self.view_is c.deref-2.ensures.value c.deref.ensures.value c.place_of_request.ensures c.in_default.is))

pub unwrap-place-requires : goal.unwrap-place-requires
unwrap-place-requires c =
    let at_is = asked_at c.self.inside.waiting.items c.deref-2.result.now c.self.inside.requests.items c.deref.result.now c.place_of_request.result c.in-Some.at
    c.deref-2.ensures.value c.deref.ensures.value c.place_of_request.ensures c.in-Some.is in
    some_serves_it c.self.inside.waiting.items c.deref-3.result.now c.self.inside.requests.items c.in-Some.at c.index-request.result.now c.place_of_worker.result at_is c.index-request.ensures
    c.deref-3.ensures.value c.place_of_worker.ensures

pub returns : goal.returns
returns c =
    let at_is = asked_at c.self.inside.waiting.items c.deref-2.result.now c.self.inside.requests.items c.deref.result.now c.place_of_request.result c.in-Some.at
    c.deref-2.ensures.value c.deref.ensures.value c.place_of_request.ensures c.in-Some.is in
    let place_is = served_at c.self.inside.waiting.items c.deref-3.result.now c.index-request.result.now.service c.place_of_worker.result c.unwrap-place.result
    c.deref-3.ensures.value c.place_of_worker.ensures c.unwrap-place.ensures in
    let is = offer-seen c.self.inside.limits c.self.inside.waiting.items c.self.inside.busy.items c.self.inside.requests.items c.args.self.now c.in-Some.at c.unwrap-place.result c.index-request.result.now c.index-waiter.result.now
    c.self.view_is (record { at_is = at_is; request_is = c.index-request.ensures; place_is = place_is; waiter_is = c.index-waiter.ensures }) in
    rw c.copy.ensures is
