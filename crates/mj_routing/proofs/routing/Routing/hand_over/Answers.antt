use Rattle.std.proofs.Common.{ℕ, List, ap, ◌∙◌, ◌≡◌, ◌++◌, ◌∷◌, []}
use Rattle.mj_queue.specs.declared.request.Request.{Request}
use Rattle.mj_machine.specs.declared.held.Held.{Held}
use Rattle.mj_machine.specs.Leaving.{held_by}
use Rattle.mj_machine.specs.Pairing.{bodiless, held_by_pair}
use Rattle.mj_routing.specs.Holding.{held_in}
use Rattle.mj_routing.proofs.HoldingLemmas.{unchanged}
use Rattle.mj_routing.proofs.KeptLemmas.{free-pair, kept-handed}
use Rattle.mj_routing.proofs.routing.Routing.hand_over.Goals as goal

given : ℕ × Request → Held
given x = record { worker = x.0; request = bodiless x.1 }

pub give-requires-clause-none : goal.give-requires-clause-none
give-requires-clause-none c =
    let t = c.in-Some.ensures in
    ap (λ (x : ℕ × Request). held_by x.0 (held_in c.reserve.new.self)) t.2
    ∙ ap (held_by t.0.waiter.worker) (unchanged c.self.inside.held c.reserve.new.self c.in_ok-reserve.ensures.entries)
    ∙ free-pair c.self.inside.hall.waiting c.self.inside.hall.requests (held_in c.self.inside.held) t.0 t.1 c.self.invariant.once

pub invariant_of-self-2 : goal.invariant_of-self-2
unfolding given
invariant_of-self-2 c =
    let t = c.in-Some.ensures in
    let held_is : held_in c.give.new.held ≡ held_in c.self.inside.held ++ held_by_pair t.0 ∷ [] =
    c.give.ensures
    ∙ ap (λ (hs : List Held). hs ++ record { worker = c.in-Some.worker; request = c.part-parted.result.request } ∷ []) (unchanged c.self.inside.held c.reserve.new.self c.in_ok-reserve.ensures.entries)
    ∙ ap (λ (r : Request). held_in c.self.inside.held ++ record { worker = c.in-Some.worker; request = r } ∷ []) c.part-parted.ensures.request
    ∙ ap (λ (x : ℕ × Request). held_in c.self.inside.held ++ given x ∷ []) t.2 in
    kept-handed c.self.inside.limits c.self.inside.moment c.self.inside.next c.self.inside.connections c.self.inside.hall (held_in c.self.inside.held) c.self.inside.leases.leases c.self.invariant
    c.hear.new.self c.take_pair.new.self (held_in c.give.new.held) c.reserve-2.new.self.leases c.renew.new.leases.leases t.0 c.in-Some.worker
    (ap (λ (x : ℕ × Request). x.0) t.2) t.1 t.3 held_is c.hear.ensures c.in_ok-reserve-2.ensures.leases c.renew.ensures
