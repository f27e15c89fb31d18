-- What is told of a pair that stays where it is.
use Rattle.mj_queue.specs.Settling.{Pair}
use Rattle.mj_queue.specs.declared.offer.Offer.{Offer}

abbrev pub offer_of : Pair → Offer
offer_of p = record { worker = p.waiter.worker; service = p.waiter.service; origin = p.request.origin }
