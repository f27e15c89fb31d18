-- A ticket's dispatch.
use Rattle.std.proofs.Common.{◌≡◌, ℕ, Bool, true, false, List, Option, None, Some, option_map, refl, sym, ap, ◌∙◌}
use Rattle.std.proofs.lemmas.List.{append-nil}
use Rattle.mj_base.specs.declared.event.Out.{Out}
use Rattle.mj_disk.specs.declared.disk.Disk.{Ghosts}
use Rattle.mj_queue.specs.Offers.{offer_of}
use Rattle.mj_queue.specs.Settling.{Pair, pair}
use Rattle.mj_queue.specs.declared.offer.Offer.{Offer}
use Rattle.mj_queue.specs.declared.request.Origin.{Origin}
use Rattle.mj_queue.specs.declared.request.Origin.TheVariants as origins
use Rattle.mj_machine.specs.StoreState.{Told, ticket_body}
use Rattle.mj_machine.specs.MachineState.{Act, State, Whole}
use Rattle.mj_machine.specs.Acts.{quiet, ◌then◌}
use Rattle.mj_machine.specs.DiskActs.{attempted, fails, reading, routes}
use Rattle.mj_machine.specs.Pairing.{dispatched, dispatches, hands, passes, waits}
use Rattle.mj_routing.specs.RoutingState.{Does}
use Rattle.mj_keeper.specs.Standing.{IsTicketBody, is_open}
use Rattle.mj_titanic.specs.Acting.{IsAt, Parts}
use Rattle.mj_titanic.specs.Services.{next_pair}
use Rattle.mj_titanic.proofs.Continuing.{after}
use Rattle.mj_titanic.proofs.Following.{reading-are}
use Rattle.mj_titanic.proofs.Routed.{IsPlain}

-- the pair of an offer
pub offered : (o : Option Pair) (offer : Offer) → option_map offer_of o ≡ Some offer → (p : Pair) × (o ≡ Some p) × (offer_of p ≡ offer)
offered None offer is = absurd (cc is)
offered (Some p) offer is = (p, refl, cc is)

pub offer-same : (o : Option Pair) (p : Pair) (offer : Offer) → o ≡ Some p → option_map offer_of o ≡ Some offer → offer_of p ≡ offer
offer-same o p offer first is = let one : Some (offer_of p) ≡ Some offer = sym (ap (option_map offer_of) first) ∙ is in cc

-- with the body that the machine has
abbrev pub hands_it : ℕ → Pair → Act
hands_it ticket p v = routes (hands (ticket_body ticket v.store) p) v

pub passes-plain : (p : Pair) (told : Told) (s : State) → IsPlain (passes p told s) s
passes-plain p told s = record { quiet = refl; limits = refl }

pub passes-done : (p : Pair) (offer : Offer) (told : Told) (s new : State) (outs : List Out) → offer_of p ≡ offer → new ≡ waits offer.worker offer.service s → Does new outs outs (passes p told s)
passes-done p offer told s new outs is waits_so = record {
  state = waits_so ∙ ap (λ (o : Offer). waits o.worker o.service s) (sym is);
  outs = sym (append-nil outs);
}

module _ {D : Type 0} (disks : Ghosts D) (old : Parts) (disk : D) (ticket : ℕ) (open_is : is_open old.keeper.shelf ≡ true) (p : Pair) (first : pair old.core.waiting old.core.queue ≡ Some p)
    (origin : p.request.origin ≡ origins.Ticket ticket) where
  next-is : (w : Whole) → IsAt disks old disk w → next_pair w ≡ dispatched (origins.Ticket ticket) p w
  next-is w at =
      ap (λ (s : State). dispatches (pair s.waiting s.queue) w) (sym at.routing)
      ∙ ap (λ (o : Option Pair). dispatches o w) first
      ∙ ap (λ (o : Origin). dispatched o p w) origin

  dispatched-it : (w : Whole) → dispatched (origins.Ticket ticket) p w ≡ reading (routes (passes p)) (hands_it ticket p) w
  dispatched-it w = by (fails w)
    where
      by : (b : Bool) → attempted b None (routes (passes p)) (routes (hands (ticket_body ticket w.store) p)) w ≡ attempted b None (routes (passes p)) (hands_it ticket p) w
      by true = refl
      by false = refl

  pub next-are : (w : Whole) → IsAt disks old disk w → next_pair w ≡ (reading quiet quiet w then after (routes (passes p)) (hands_it ticket p))
  next-are w at = next-is w at ∙ dispatched-it w ∙ reading-are disks old disk (routes (passes p)) (hands_it ticket p) open_is w at

  pub next-read : (body : List (List ℕ)) → IsTicketBody disks ticket old.keeper disk body → (w : Whole) → IsAt disks old disk w
      → next_pair w ≡ (reading quiet quiet w then after (routes (passes p)) (routes (hands body p)))
  next-read body is w at =
      next-is w at
      ∙ ap (λ (b : List (List ℕ)). reading (routes (passes p)) (routes (hands b p)) w) (sym (is w.store at.store))
      ∙ reading-are disks old disk (routes (passes p)) (routes (hands body p)) open_is w at
