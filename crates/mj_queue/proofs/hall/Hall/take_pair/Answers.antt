use Rattle.std.proofs.Common.{◌≡◌, ◌++◌, ◌∷◌, [], true, is_ok, refl, ap, ◌∙◌}
use Rattle.mj_queue.proofs.PairLemmas.{asked_at, nobody-seen, pair-seen, served_at, some_serves_it}
use Rattle.mj_queue.proofs.hall.Hall.take_pair.Goals as goal

pub returns-in_default : goal.returns-in_default
returns-in_default c = (
  nobody-seen c.self.inside.limits c.self.inside.waiting.items c.self.inside.busy.items c.deref-2.result.now c.self.inside.requests.items c.deref.result.now c.args.self.now c.place_of_request.result
      c.self.view_is c.deref-2.ensures.value c.deref.ensures.value c.place_of_request.ensures c.in_default.is,
  refl,
)

pub unwrap-place-requires : goal.unwrap-place-requires
unwrap-place-requires c =
    let at_is = asked_at c.self.inside.waiting.items c.deref-2.result.now c.self.inside.requests.items c.deref.result.now c.place_of_request.result c.in-Some.at
    c.deref-2.ensures.value c.deref.ensures.value c.place_of_request.ensures c.in-Some.is in
    some_serves_it c.self.inside.waiting.items c.deref-3.result.now c.self.inside.requests.items c.in-Some.at c.remove-request.result c.place_of_worker.result at_is c.remove-request.ensures.value
    c.deref-3.ensures.value c.place_of_worker.ensures

pub returns : goal.returns
returns c =
    let at_is = asked_at c.self.inside.waiting.items c.deref-2.result.now c.self.inside.requests.items c.deref.result.now c.place_of_request.result c.in-Some.at
    c.deref-2.ensures.value c.deref.ensures.value c.place_of_request.ensures c.in-Some.is in
    let place_is = served_at c.self.inside.waiting.items c.deref-3.result.now c.remove-request.result.service c.place_of_worker.result c.unwrap-place.result
    c.deref-3.ensures.value c.place_of_worker.ensures c.unwrap-place.ensures in
    let done : is_ok c.push.result ≡ true = ap is_ok c.unwrap.ensures in
    let busy_is : c.push.new.self.items ≡ c.self.inside.busy.items ++ c.remove-waiter.result ∷ [] = c.push.ensures.items ∙ rw done refl in
    pair-seen c.self.inside.limits c.self.inside.waiting.items c.remove-waiter.new.self.items c.self.inside.busy.items c.push.new.self.items c.self.inside.requests.items c.remove-request.new.self.items c.args.self.now
    c.in-Some.at c.unwrap-place.result c.remove-request.result c.remove-waiter.result c.self.view_is
    (record { at_is = at_is; request_is = c.remove-request.ensures.value; place_is = place_is; waiter_is = c.remove-waiter.ensures.value })
    c.remove-waiter.ensures.items busy_is c.remove-request.ensures.items
