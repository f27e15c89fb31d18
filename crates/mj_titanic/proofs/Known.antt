-- What is done to a ticket that is known by its id, as memory finds it.
use Rattle.std.proofs.Common.{◌≡◌, ◌≢◌, ◌∷◌, ℕ, Bool, true, false, cond, List, [], length, Option, None, Some, is_some, refl, sym, ap, subst, ◌∙◌, arith}
use Rattle.std.proofs.lemmas.List.Sums.{sum_by-cons}
use Rattle.std.specs.Prelude.{codes, ◌&&◌, not}
use Rattle.mj_base.specs.ServiceName.{is_reserved, is_service_name}
use Rattle.mj_disk.specs.declared.disk.Disk.{Ghosts}
use Rattle.mj_ids.specs.Ids.{number_of}
use Rattle.mj_mmi.specs.Asking.{read_submit}
use Rattle.mj_queue.specs.declared.request.Request.{Request}
use Rattle.mj_tickets.specs.declared.place.Place.{Place}
use Rattle.mj_tickets.specs.declared.state.TicketState.TheVariants as states
use Rattle.mj_tickets.specs.Fold.{Ticket, known, ticket_of}
use Rattle.mj_tickets.specs.Index.{state_in}
use Rattle.mj_tickets.proofs.LengthLemmas.{text_length}
use Rattle.mj_store.specs.Bodies.{reply_at}
use Rattle.mj_store.specs.Commands as commands
use Rattle.mj_store.specs.Commands.{CanBeKept, is_pending_at}
use Rattle.mj_store.specs.Standing.{StoreValue}
use Rattle.mj_machine.specs.StoreState.{is_pending_one, tickets_of}
use Rattle.mj_machine.specs.MachineState.{Whole}
use Rattle.mj_machine.specs.DiskActs.{reading, routes}
use Rattle.mj_machine.specs.TitanicStep.{answers, closes_ticket, fails_to, shows, shows_reply, stores_by, tells}
use Rattle.mj_keeper.specs.declared.keeper.Shelf.TheVariants as shelves
use Rattle.mj_keeper.specs.Standing.{IsOpenWith, reply_of}
use Rattle.mj_titanic.specs.Acting.{IsAt, Parts}
use Rattle.mj_titanic.specs.Services.{closes_known, closing, frames_in, shows_known, showing, stores_now}
use Rattle.mj_titanic.proofs.Alike.{pends-alike}
use Rattle.mj_titanic.proofs.Accepts.{open-with}
use Rattle.mj_titanic.proofs.Attempts.{opens-on}
use Rattle.mj_titanic.proofs.Finding.{IsFound, known-none, known-some, pending-some, reply-some, some-is, stored-some, unknown-none}

module _ {D : Type 0} (disks : Ghosts D) (old : Parts) (held : StoreValue) (disk : D) (is : old.keeper.shelf ≡ shelves.Open held) (n : ℕ) (request : Request) (id : List ℕ) where
  module _ (w : Whole) (at : IsAt disks old disk w) where
    none-known : states.Unknown ≡ state_in (known id held.index) → known id (tickets_of w.store) ≡ None
    none-known unknown =
        known-none disks old.keeper.limits held disk w.store (opens-on disks old.keeper.limits old.keeper.shelf held disk w.store is at.store.stands.by) id (unknown-none (known id held.index) unknown)

    some-known : (t : Ticket Place) → known id held.index ≡ Some t → IsFound id t w.store
    some-known t some =
        known-some disks old.keeper.limits held disk w.store (opens-on disks old.keeper.limits old.keeper.shelf held disk w.store is at.store.stands.by) id t some

    -- ---- titanic.close

    pub closes-unknown : states.Unknown ≡ state_in (known id held.index) → tells n request (codes "200") w ≡ closes_known n request id w
    closes-unknown unknown = ap (λ (o : Option (Ticket (List (List ℕ)))). closes_ticket n request o w) (sym (none-known unknown))

    closes-found : (t : Ticket Place) → known id held.index ≡ Some t → (number : ℕ) → number ≡ number_of id → closing n request number w ≡ closes_known n request id w
    closes-found t some number number_is =
        let f = some-known t some in
        ap (λ (m : ℕ). closing n request m w) (number_is ∙ sym f.number)
        ∙ ap (λ (o : Option (Ticket (List (List ℕ)))). closes_ticket n request o w) (sym f.by_id)

    pub closes-pending : states.Pending ≡ state_in (known id held.index) → (number : ℕ) → number ≡ number_of id → closing n request number w ≡ closes_known n request id w
    closes-pending pending number number_is = let t = pending-some (known id held.index) pending in closes-found t.0 t.1 number number_is

    pub closes-stored : states.Stored ≡ state_in (known id held.index) → (number : ℕ) → number ≡ number_of id → closing n request number w ≡ closes_known n request id w
    closes-stored stored number number_is = let t = stored-some (known id held.index) stored in closes-found t.0 t.1 number number_is

    -- ---- titanic.reply

    pub shows-unknown : states.Unknown ≡ state_in (known id held.index) → tells n request (codes "400") w ≡ shows_known n request id w
    shows-unknown unknown = ap (λ (o : Option (Ticket (List (List ℕ)))). shows n request o w) (sym (none-known unknown))

    pub shows-pending : states.Pending ≡ state_in (known id held.index) → tells n request (codes "300") w ≡ shows_known n request id w
    shows-pending pending =
        let t = pending-some (known id held.index) pending in
        let f = some-known t.0 t.1 in
        by f.ticket.reply (f.replied ∙ t.2)
        ∙ ap (λ (o : Option (Ticket (List (List ℕ)))). shows n request o w) (sym f.by_id)
      where
        by : (o : Option (List (List ℕ))) → is_some o ≡ false → tells n request (codes "300") w ≡ shows_reply n request o w
        by None is_it = refl
        by (Some frames) is_it = absurd (cc is_it)

    pub shows-stored : states.Stored ≡ state_in (known id held.index) → (number : ℕ) → number ≡ number_of id → showing n request number w ≡ shows_known n request id w
    shows-stored stored number number_is =
        let t = stored-some (known id held.index) stored in
        let f = some-known t.0 t.1 in
        ap (λ (m : ℕ). showing n request m w) number_is
        ∙ ap (λ (o : Option (Ticket (List (List ℕ)))). reading (fails_to n request) (routes (answers n request (codes "200" ∷ frames_in (reply_of o)))) w) f.by_number
        ∙ by f.ticket.reply (f.replied ∙ t.2)
        ∙ ap (λ (o : Option (Ticket (List (List ℕ)))). shows n request o w) (sym f.by_id)
      where
        by : (o : Option (List (List ℕ))) → is_some o ≡ true → reading (fails_to n request) (routes (answers n request (codes "200" ∷ frames_in o))) w ≡ shows_reply n request o w
        by None is_it = absurd (cc is_it)
        by (Some frames) is_it = refl

  -- ---- what the acts ask

  module _ (by_number : (t : Ticket Place) → known id held.index ≡ Some t → ticket_of (number_of id) held.index ≡ Some t) (number : ℕ) (number_is : number ≡ number_of id) where
    there : (t : Ticket Place) → known id held.index ≡ Some t → ticket_of number held.index ≡ Some t
    there t some = ap (λ (m : ℕ). ticket_of m held.index) number_is ∙ by_number t some

    pub open-pending : states.Pending ≡ state_in (known id held.index) → IsOpenWith (λ (h : StoreValue). ticket_of number h.index ≢ None) old.keeper.shelf
    open-pending pending =
        let t = pending-some (known id held.index) pending in
        open-with (λ (h : StoreValue). ticket_of number h.index ≢ None) old.keeper.shelf held is (some-is (ticket_of number held.index) t.0 (there t.0 t.1))

    pub open-stored : states.Stored ≡ state_in (known id held.index) → IsOpenWith (λ (h : StoreValue). ticket_of number h.index ≢ None) old.keeper.shelf
    open-stored stored =
        let t = stored-some (known id held.index) stored in
        open-with (λ (h : StoreValue). ticket_of number h.index ≢ None) old.keeper.shelf held is (some-is (ticket_of number held.index) t.0 (there t.0 t.1))

    pub reply-stored : states.Stored ≡ state_in (known id held.index) → IsOpenWith (λ (h : StoreValue). reply_at number h.index ≢ None) old.keeper.shelf
    reply-stored stored =
        let t = stored-some (known id held.index) stored in
        open-with (λ (h : StoreValue). reply_at number h.index ≢ None) old.keeper.shelf held is (reply-some number held.index t.0 (there t.0 t.1) t.2)

-- ---- a ticket's final reply

pending-one : (o : Option (Ticket Place)) → is_pending_one o ≡ commands.pends o
pending-one None = refl
pending-one (Some t) = refl

module _ {D : Type 0} (disks : Ghosts D) (old : Parts) (held : StoreValue) (disk : D) (is : old.keeper.shelf ≡ shelves.Open held) (number : ℕ) (body : List (List ℕ)) where
  pub stores-are : (b : Bool) → is_pending_at number held.index ≡ b → (w : Whole) → IsAt disks old disk w → stores_by b number body w ≡ stores_now number body w
  stores-are b pending w at =
      let o = opens-on disks old.keeper.limits old.keeper.shelf held disk w.store is at.store.stands.by in
      ap (λ (p : Bool). stores_by p number body w)
      (sym pending ∙ sym (pending-one (ticket_of number held.index)) ∙ pends-alike w.store held.index o.holds.knows.index_is number)

-- ---- what is submitted

rest-kept : (frame : List ℕ) (frames : List (List ℕ)) → CanBeKept (frame ∷ frames) → CanBeKept frames
rest-kept frame frames kept =
    let whole = text_length (frame ∷ frames) in
    let rest = text_length frames in
    let short = kept.short in
    let counted = kept.counted in
    let split = sum_by-cons (λ (f : List ℕ). length f) frame frames in
    record { counted = omega arith; short = omega arith }

pub submitted-kept : (body : List (List ℕ)) (asked : List ℕ × List (List ℕ)) → CanBeKept body → Some asked ≡ read_submit body → CanBeKept asked.1
submitted-kept [] asked kept is = absurd (cc is)
submitted-kept (frame ∷ frames) asked kept is = by (is_service_name frame && not (is_reserved true frame)) is
  where
    by : (b : Bool) → Some asked ≡ cond b (Some (frame, frames)) None → CanBeKept asked.1
    by true same = let one : (frame, frames) ≡ asked = cc in subst (λ (a : List ℕ × List (List ℕ)). CanBeKept a.1) one (rest-kept frame frames kept)
    by false same = absurd (cc same)
