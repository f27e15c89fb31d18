-- All tickets in turn.
use Rattle.std.proofs.Common.{◌≡◌, ℕ, ◌+◌, ◌<◌, ◌≤◌, List, [], ◌∷◌, ◌++◌, length, map, Option, Some, None, option_map, refl, sym, ap, subst, ◌∙◌, arith, length-append}
use Rattle.std.proofs.lemmas.Option.{same_Some, none-some}
use Rattle.mj_disk.specs.declared.disk.Disk.{Ghosts}
use Rattle.mj_journal.specs.declared.making.Making.{Making}
use Rattle.mj_tickets.specs.declared.command.TicketCmd.{TicketCmd}
use Rattle.mj_tickets.specs.declared.place.Place.{Place}
use Rattle.mj_tickets.specs.Fold.{Fold, Ticket, number_in, open_above, ticket_of}
use Rattle.mj_tickets.specs.Laws.{AreNumbered, body_at, mapped, place_at}
use Rattle.mj_tickets.proofs.FoldLemmas.{fold_numbered}
use Rattle.mj_tickets.proofs.RisingLemmas.{all_above}
use Rattle.mj_store.specs.Standing.{Keeps, StoreValue}
use Rattle.mj_store.proofs.Housing.{some_mapped}
use Rattle.mj_compact.specs.Compacting.{Adds, Copies, CopiesAll, CopiesUpto, IsOf, Reads}
use Rattle.mj_compact.specs.Kept.{kept_all, kept_ticket, kept_upto, upto}
use Rattle.mj_compact.proofs.Folding.{Body, kept_push}
use Rattle.mj_compact.proofs.Walking.{AreAlike, above-mapped, next_found, next_within, none_upto, upto_all, upto_next}
use Rattle.mj_compact.proofs.TicketCopies.{adds_more, adds_none, of_alike, of_later}

pub of_numbered : {D : Type 0} (disks : Ghosts D) (store : StoreValue) (disk : D) (f : Fold Body) → IsOf disks store disk f → AreNumbered f
of_numbered disks store disk f of = fold_numbered of.base of.cmds f of.holds.knows.based.0 of.leaves

-- ---- the next number, as memory gives it

some_number : (n : ℕ) (o : Option (Ticket Place)) → Some n ≡ option_map number_in o → (p : Ticket Place) × (o ≡ Some p) × (p.number ≡ n)
some_number n None e = absurd (none-some n (sym e))
some_number n (Some p) e = (p, refl, sym (same_Some n p.number e))

-- it is above the last one, and at most the highest
pub next_bounds : (after n : ℕ) (index : Fold Place) → AreNumbered index → Some n ≡ option_map number_in (open_above after index) → (after < n) × (n ≤ index.highest)
next_bounds after n index numbers e =
    let p = some_number n (open_above after index) e in
    let above = upto_next 0 index.tickets index.highest after p.0 numbers.rise p.1 in
    let within = next_within 0 index.tickets index.highest after p.0 numbers.rise p.1 in
    (omega (arith, above.1, p.2), omega (arith, within, p.2))

-- the next ticket, with its bodies
record IsNextOf (after n : ℕ) (f : Fold Body) : Type 0 where
  ticket : Ticket Body
  next : open_above after f ≡ Some ticket
  number : ticket.number ≡ n

next_of : (after n : ℕ) (f : Fold Body) (index : Fold Place) → AreAlike f index → Some n ≡ option_map number_in (open_above after index) → IsNextOf after n f
next_of after n f index a e =
    let p = some_number n (open_above after index) e in
    let h = some_mapped (mapped place_at) (open_above after a.both) p.0 (sym (above-mapped place_at after a.both) ∙ ap (open_above after) a.places ∙ p.1) in
    record {
      ticket = mapped body_at h.0;
      next = ap (open_above after) (sym a.bodies) ∙ above-mapped body_at after a.both ∙ ap (option_map (mapped body_at)) h.1;
      number = ap (λ (t : Ticket Place). t.number) h.2 ∙ p.2;
    }

none_mapped : {A B : Type 0} (f : A → B) (o : Option A) → option_map f o ≡ None → o ≡ None
none_mapped f None e = refl
none_mapped f (Some x) e = absurd (none-some (f x) (sym e))

none_of : (after : ℕ) (f : Fold Body) (index : Fold Place) → AreAlike f index → open_above after index ≡ None → open_above after f ≡ None
none_of after f index a e =
    let none = none_mapped (mapped place_at) (open_above after a.both) (sym (above-mapped place_at after a.both) ∙ ap (open_above after) a.places ∙ e) in
    ap (open_above after) (sym a.bodies) ∙ above-mapped body_at after a.both ∙ ap (option_map (mapped body_at)) none

-- ---- the loop

module _ {D E : Type 0} (olds : Ghosts D) (news : Ghosts E) (store : StoreValue) (old : D) (making : Making) (new : E) where
  pub none_yet : CopiesUpto olds news store old making new making new 0 0
  none_yet f of =
      let none = none_upto 0 f.tickets (all_above 0 (map number_in f.tickets) f.highest (of_numbered olds store old f of).rise) in
      (ap length (sym none), subst (λ (ts : List (Ticket Body)). Adds news (kept_all ts) making new making new) (sym none) (adds_none news making new))

  pub one_more : (mid_store : StoreValue) (mid_old : D) (mid now : Making) (between after : E) (count last n : ℕ) → olds.told mid_old ≡ olds.told old → Keeps olds store old mid_store mid_old
      → CopiesUpto olds news store old making new mid between count last → Some n ≡ option_map number_in (open_above last mid_store.index) → Copies olds news n mid_store mid_old mid between now after
      → CopiesUpto olds news store old making new now after (count + 1) n
  one_more mid_store mid_old mid now between after count last n told keeps upto_last next copies f of =
      let later = of_later olds store mid_store old mid_old f of told keeps in
      let numbers = of_numbered olds store old f of in
      let one = next_of last n f mid_store.index (of_alike olds mid_store mid_old f later) next in
      let found : ticket_of n f ≡ Some one.ticket = ap (λ (m : ℕ). ticket_of m f) (sym one.number) ∙ next_found 0 f.tickets f.highest last one.ticket numbers.rise one.next in
      let grown : upto n f ≡ upto last f ++ one.ticket ∷ [] = ap (λ (m : ℕ). upto m f) (sym one.number) ∙ (upto_next 0 f.tickets f.highest last one.ticket numbers.rise one.next).0 in
      let before = upto_last f of in
      let whole : kept_upto last f ++ kept_ticket one.ticket ≡ kept_upto n f = sym (kept_push (upto last f) one.ticket) ∙ ap kept_all (sym grown) in (
        omega (arith, before.0, length-append (upto last f) (one.ticket ∷ []), ap length grown),
        subst (λ (cs : List TicketCmd). Adds news cs making new now after) whole
            (adds_more news (kept_upto last f) (kept_ticket one.ticket) making mid now new between after before.1 (copies f one.ticket later found)),
      )

  pub all_done : (mid_store : StoreValue) (mid_old : D) (now : Making) (after : E) (count last : ℕ) → olds.told mid_old ≡ olds.told old → Keeps olds store old mid_store mid_old
      → CopiesUpto olds news store old making new now after count last → open_above last mid_store.index ≡ None
      → CopiesAll olds news store old making new now after count
  all_done mid_store mid_old now after count last told keeps upto_last none f of =
      let later = of_later olds store mid_store old mid_old f of told keeps in
      let whole : upto last f ≡ f.tickets = upto_all f.tickets last (none_of last f mid_store.index (of_alike olds mid_store mid_old f later) none) in
      let before = upto_last f of in
      (before.0 ∙ ap length whole, subst (λ (ts : List (Ticket Body)). Adds news (kept_all ts) making new now after) whole before.1)

pub reads_more : {D : Type 0} (disks : Ghosts D) (old mid after : D) → Reads disks old mid → Reads disks mid after → Reads disks old after
reads_more disks old mid after a b = record { told = b.told ∙ a.told; later = omega (arith, a.later, b.later); count = omega (arith, a.count, b.count) }

-- the bounds, of the memory at the start, which is the same
pub bounds_at : (store mid_store : StoreValue) (after n : ℕ) → mid_store ≡ store → AreNumbered store.index → Some n ≡ option_map number_in (open_above after mid_store.index) → (after < n) × (n ≤ store.index.highest)
bounds_at store mid_store after n same numbers e = next_bounds after n store.index numbers (subst (λ (s : StoreValue). Some n ≡ option_map number_in (open_above after s.index)) same e)

-- where nothing was copied, nothing was changed
pub upto_same : {D E : Type 0} (olds : Ghosts D) (news : Ghosts E) (store : StoreValue) (old : D) (making mid now : Making) (new between after : E) (count n : ℕ) → now ≡ mid → after ≡ between
    → CopiesUpto olds news store old making new mid between count n → CopiesUpto olds news store old making new now after count n
upto_same {E = E} olds news store old making mid now new between after count n a b copies =
    subst (λ (m : Making). CopiesUpto olds news store old making new m after count n) (sym a) (subst (λ (e : E). CopiesUpto olds news store old making new mid e count n) (sym b) copies)

no_number : (o : Option (Ticket Place)) → None ≡ option_map number_in o → o ≡ None
no_number None e = refl
no_number (Some p) e = absurd (none-some p.number e)

pub none_at : (after : ℕ) (index : Fold Place) → None ≡ option_map number_in (open_above after index) → open_above after index ≡ None
none_at after index e = no_number (open_above after index) e
