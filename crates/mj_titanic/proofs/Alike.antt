-- The tickets with places, as memory has them, tell the same as the tickets with bodies.
use Rattle.std.proofs.Common.{◌≡◌, ◌≢◌, ◌&&◌, ◌+◌, ℕ, suc, Bool, true, false, cond, not, List, [], ◌∷◌, map, filter, length, Option, None, Some, is_some, option_map, refl, sym, ap, ◌∙◌}
use Rattle.std.specs.Option.{unwrap_or}
use Rattle.mj_queue.specs.declared.request.Request.{Request}
use Rattle.mj_tickets.specs.declared.command.TicketCmd.{TicketCmd}
use Rattle.mj_tickets.specs.declared.place.Place.{Place}
use Rattle.mj_tickets.specs.Payload.{payload_of}
use Rattle.mj_tickets.specs.Fold.{Fold, Ticket, fold_of, folded_by, is_pending, start, ticket_of}
use Rattle.mj_tickets.specs.Index.{cmd_of}
use Rattle.mj_tickets.specs.Laws.{Housed, body_at, housed, map_fold, mapped, place_at}
use Rattle.mj_tickets.proofs.MapLemmas.{find-map, places_and_bodies}
use Rattle.mj_store.specs.Commands.{index_of, placed_from}
use Rattle.mj_store.proofs.Housing.{some_mapped}
use Rattle.mj_machine.specs.declared.held.Held.{Held}
use Rattle.mj_machine.specs.StoreState.{Store, holds_ticket, is_pending_one, pends, ticket_request, tickets_of, waiting_tickets}

-- both are seen in the tickets with both
pub record AreAlike (base : ℕ) (cmds : List TicketCmd) (index : Fold Place) : Type 0 where
  pub both : Fold Housed
  pub places : map_fold place_at both ≡ index
  pub bodies : fold_of base cmds ≡ Some (map_fold body_at both)

placed-cmds : (gate : ℕ) (cmds : List TicketCmd) → map cmd_of (placed_from gate cmds) ≡ cmds
placed-cmds gate [] = refl
placed-cmds gate (cmd ∷ cmds) = ap (λ (cs : List TicketCmd). cmd ∷ cs) (placed-cmds (gate + (length (payload_of cmd) + 5)) cmds)

pub are-alike : (base : ℕ) (cmds : List TicketCmd) (index : Fold Place) → index_of base cmds ≡ Some index → AreAlike base cmds index
are-alike base cmds index is =
    let law = places_and_bodies base (placed_from 16 cmds) in
    let found = some_mapped (map_fold place_at) (folded_by cmd_of housed (placed_from 16 cmds) (start base)) index (law.0 ∙ is) in
    record {
      both = found.0;
      places = found.2;
      bodies = ap (fold_of base) (sym (placed-cmds 16 cmds)) ∙ sym law.1 ∙ ap (option_map (map_fold body_at)) found.1;
    }

pub tickets-are : (store : Store) (index : Fold Place) (a : AreAlike store.base store.commands index) → tickets_of store ≡ map_fold body_at a.both
tickets-are store index a = ap (λ (o : Option (Fold (List (List ℕ)))). unwrap_or o (start store.base)) a.bodies

-- ---- what is asked of tickets, with whatever stands in a body's place

module _ {B C : Type 0} (h : B → C) where
  replied-alike : (o : Option B) → is_some (option_map h o) ≡ is_some o
  replied-alike None = refl
  replied-alike (Some b) = refl

  pub pending-alike : (t : Ticket B) → is_pending (mapped h t) ≡ is_pending t
  pending-alike t = ap not (replied-alike t.reply)

  pub pends-map : (n : ℕ) (f : Fold B) → pends n (map_fold h f) ≡ pends n f
  pends-map n f = ap is_pending_one (find-map h n f.tickets) ∙ by (ticket_of n f)
    where
      by : (o : Option (Ticket B)) → is_pending_one (option_map (mapped h) o) ≡ is_pending_one o
      by None = refl
      by (Some t) = pending-alike t

  pub length-map : (ts : List (Ticket B)) → length (map (mapped h) ts) ≡ length ts
  length-map [] = refl
  length-map (t ∷ ts) = ap (λ (n : ℕ). suc n) (length-map ts)

  filter-map : (p : Ticket C → Bool) (q : Ticket B → Bool) → ((t : Ticket B) → p (mapped h t) ≡ q t) → (ts : List (Ticket B)) → filter p (map (mapped h) ts) ≡ map (mapped h) (filter q ts)
  filter-map p q same [] = refl
  filter-map p q same (t ∷ ts) = chosen (p (mapped h t)) (q t) (same t) (filter-map p q same ts)
    where
      chosen : (a b : Bool) → a ≡ b → filter p (map (mapped h) ts) ≡ map (mapped h) (filter q ts)
          → cond {A = List (Ticket C)} a (mapped h t ∷ filter p (map (mapped h) ts)) (filter p (map (mapped h) ts)) ≡ map (mapped h) (cond {A = List (Ticket B)} b (t ∷ filter q ts) (filter q ts))
      chosen true true e rest = ap (λ (us : List (Ticket C)). mapped h t ∷ us) rest
      chosen false false e rest = rest
      chosen true false e rest = absurd (cc e)
      chosen false true e rest = absurd (cc e)

  requests-map : (ts : List (Ticket B)) → map (λ (t : Ticket C). ticket_request t.number t.service) (map (mapped h) ts) ≡ map (λ (t : Ticket B). ticket_request t.number t.service) ts
  requests-map [] = refl
  requests-map (t ∷ ts) = ap (λ (rs : List Request). ticket_request t.number t.service ∷ rs) (requests-map ts)

  pub waiting-map : (held : List Held) (f : Fold B) → waiting_tickets held (map_fold h f) ≡ waiting_tickets held f
  waiting-map held f =
      ap (λ (ts : List (Ticket C)). map (λ (t : Ticket C). ticket_request t.number t.service) ts)
      (filter-map (λ t. is_pending t && not (holds_ticket held t.number)) (λ t. is_pending t && not (holds_ticket held t.number))
      (λ t. ap (λ (b : Bool). b && not (holds_ticket held t.number)) (pending-alike t)) f.tickets)
      ∙ requests-map (filter (λ t. is_pending t && not (holds_ticket held t.number)) f.tickets)

-- ---- memory and the machine's store

-- the machine has an open ticket of this number
pub record HasTicket (store : Store) (n : ℕ) : Type 0 where
  pub ticket : Ticket (List (List ℕ))
  pub fold : fold_of store.base store.commands ≡ Some (tickets_of store)
  pub found : ticket_of n (tickets_of store) ≡ Some ticket

module _ (store : Store) (index : Fold Place) (is : index_of store.base store.commands ≡ Some index) where
  pub alike : AreAlike store.base store.commands index
  alike = are-alike store.base store.commands index is

  pub pends-alike : (n : ℕ) → pends n index ≡ pends n (tickets_of store)
  pends-alike n =
      ap (pends n) (sym alike.places) ∙ pends-map place_at n alike.both ∙ sym (pends-map body_at n alike.both) ∙ ap (pends n) (sym (tickets-are store index alike))

  pub waiting-alike : (held : List Held) → waiting_tickets held index ≡ waiting_tickets held (tickets_of store)
  waiting-alike held =
      ap (waiting_tickets held) (sym alike.places) ∙ waiting-map place_at held alike.both ∙ sym (waiting-map body_at held alike.both) ∙ ap (waiting_tickets held) (sym (tickets-are store index alike))

  pub next-alike : index.next ≡ (tickets_of store).next
  next-alike = ap (λ (f : Fold Place). f.next) (sym alike.places) ∙ ap (λ (f : Fold (List (List ℕ))). f.next) (sym (tickets-are store index alike))

  pub open-alike : length index.tickets ≡ length (tickets_of store).tickets
  open-alike =
      ap (λ (f : Fold Place). length f.tickets) (sym alike.places) ∙ length-map place_at alike.both.tickets ∙ sym (length-map body_at alike.both.tickets)
      ∙ ap (λ (f : Fold (List (List ℕ))). length f.tickets) (sym (tickets-are store index alike))

  pub has-both : (n : ℕ) → ticket_of n index ≢ None → HasTicket store n
  has-both n there = by (ticket_of n alike.both) refl
    where
      fold : fold_of store.base store.commands ≡ Some (tickets_of store)
      fold = alike.bodies ∙ ap (λ (f : Fold (List (List ℕ))). Some f) (sym (tickets-are store index alike))

      in-index : ticket_of n index ≡ option_map (mapped place_at) (ticket_of n alike.both)
      in-index = ap (ticket_of n) (sym alike.places) ∙ find-map place_at n alike.both.tickets

      in-tickets : ticket_of n (tickets_of store) ≡ option_map (mapped body_at) (ticket_of n alike.both)
      in-tickets = ap (ticket_of n) (tickets-are store index alike) ∙ find-map body_at n alike.both.tickets

      by : (o : Option (Ticket Housed)) → ticket_of n alike.both ≡ o → HasTicket store n
      by None none = absurd (there (in-index ∙ ap (option_map (mapped place_at)) none))
      by (Some t) some = record { ticket = mapped body_at t; fold = fold; found = in-tickets ∙ ap (option_map (mapped body_at)) some }

  -- the machine has no open ticket of this number
  pub none-both : (n : ℕ) → ticket_of n index ≡ None → ticket_of n (tickets_of store) ≡ None
  none-both n none = by (ticket_of n alike.both) (sym (ap (ticket_of n) (sym alike.places) ∙ find-map place_at n alike.both.tickets) ∙ none)
      (ap (ticket_of n) (tickets-are store index alike) ∙ find-map body_at n alike.both.tickets)
    where
      by : (o : Option (Ticket Housed)) → option_map (mapped place_at) o ≡ None → ticket_of n (tickets_of store) ≡ option_map (mapped body_at) o → ticket_of n (tickets_of store) ≡ None
      by None e is = is
      by (Some t) e is = cc
