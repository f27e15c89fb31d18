-- One ticket's commands, and those of all up to a number.
use Rattle.std.proofs.Common.{◌≡◌, ℕ, Bool, true, false, ◌==◌, find, List, [], ◌∷◌, ◌++◌, Option, Some, None, is_some, option_map, Result, Ok, Err, OnOk, refl, sym, ap, subst, ◌∙◌, arith, append_assoc, append-nil}
use Rattle.std.proofs.lemmas.Bool.{eqb-true}
use Rattle.std.proofs.lemmas.List.{map-append}
use Rattle.std.proofs.lemmas.Option.{same_Some, none-some}
use Rattle.mj_disk.specs.declared.disk.Disk.{Ghosts}
use Rattle.mj_ids.specs.Ids.{number_of}
use Rattle.mj_journal.specs.declared.making.Making.{Making}
use Rattle.mj_journal.specs.Making.{IsMade}
use Rattle.mj_tickets.specs.declared.command.TicketCmd.{TicketCmd}
use Rattle.mj_tickets.specs.declared.command.TicketCmd.TheVariants.{Accept, Store}
use Rattle.mj_tickets.specs.declared.place.Place.{Place}
use Rattle.mj_tickets.specs.Payload.{payload_of}
use Rattle.mj_tickets.specs.Fold.{Fold, Ticket, numbered, ticket_of}
use Rattle.mj_tickets.specs.Laws.{Housed, body_at, mapped, place_at}
use Rattle.mj_tickets.proofs.MapLemmas.{find-map}
use Rattle.mj_store.specs.Bodies.{GivesBody, GivesReply}
use Rattle.mj_store.specs.Commands.{payloads_of}
use Rattle.mj_store.specs.Standing.{Keeps, StoreValue}
use Rattle.mj_compact.specs.Compacting.{Adds, Copies, CopiesReply, IsListed, IsOf, Writes}
use Rattle.mj_compact.specs.Kept.{kept_reply}
use Rattle.mj_compact.proofs.Folding.{Body}
use Rattle.mj_compact.proofs.Walking.{AreAlike, are_alike}

-- ---- a ticket in memory, and the same with its bodies

pub record IsSame (t : Ticket Body) (p : Ticket Place) : Type 0 where
  pub id : t.id ≡ p.id
  pub service : t.service ≡ p.service
  pub stored : is_some t.reply ≡ is_some p.reply

some_of : {A B : Type 0} (h : A → B) (o : Option A) → is_some (option_map h o) ≡ is_some o
some_of h None = refl
some_of h (Some a) = refl

both_same : (h : Ticket Housed) → IsSame (mapped body_at h) (mapped place_at h)
both_same h = record { id = refl; service = refl; stored = some_of body_at h.reply ∙ sym (some_of place_at h.reply) }

same_by : (o : Option (Ticket Housed)) (t : Ticket Body) (p : Ticket Place) → option_map (mapped body_at) o ≡ Some t → option_map (mapped place_at) o ≡ Some p → IsSame t p
same_by None t p e d = absurd (none-some t e)
same_by (Some h) t p e d =
    subst (λ (u : Ticket Body). IsSame u p) (same_Some (mapped body_at h) t e) (subst (λ (q : Ticket Place). IsSame (mapped body_at h) q) (same_Some (mapped place_at h) p d) (both_same h))

pub same_ticket : (n : ℕ) (f : Fold Body) (index : Fold Place) (t : Ticket Body) (p : Ticket Place) → AreAlike f index → ticket_of n f ≡ Some t → ticket_of n index ≡ Some p → IsSame t p
same_ticket n f index t p a is was =
    same_by (ticket_of n a.both) t p
    (sym (find-map body_at n a.both.tickets) ∙ ap (ticket_of n) a.bodies ∙ is)
    (sym (find-map place_at n a.both.tickets) ∙ ap (ticket_of n) a.places ∙ was)

pub of_alike : {D : Type 0} (disks : Ghosts D) (store : StoreValue) (disk : D) (f : Fold Body) → IsOf disks store disk f → AreAlike f store.index
of_alike disks store disk f of = are_alike of.base of.cmds f store.index of.holds.knows.index_is of.leaves

-- what memory stands for stays
pub of_later : {D : Type 0} (disks : Ghosts D) (store now : StoreValue) (disk after : D) (f : Fold Body) → IsOf disks store disk f → disks.told after ≡ disks.told disk → Keeps disks store disk now after → IsOf disks now after f
of_later disks store now disk after f of told keeps = record {
  telling = (of.telling.0, told ∙ of.telling.1);
  base = of.base;
  cmds = of.cmds;
  holds = keeps of.base of.cmds of.holds;
  leaves = of.leaves;
}

-- ---- what was added

pub writes_more : {E : Type 0} (disks : Ghosts E) (making mid now : Making) (disk between after : E) → Writes disks making disk mid between → Writes disks mid between now after → Writes disks making disk now after
writes_more disks making mid now disk between after a b = record {
  base = b.base ∙ a.base;
  crash = λ start before l. b.crash start before (a.crash start before l);
  later = omega (arith, a.later, b.later);
  count = omega (arith, a.count, b.count);
}

pub adds_none : {E : Type 0} (disks : Ghosts E) (making : Making) (disk : E) → Adds disks [] making disk making disk
adds_none disks making disk before now history is = subst (λ (ps : List (List ℕ)). IsMade making.base making.journal.end ps history.now) (sym (append-nil before)) (now history is)

pub adds_more : {E : Type 0} (disks : Ghosts E) (some others : List TicketCmd) (making mid now : Making) (disk between after : E) → Adds disks some making disk mid between → Adds disks others mid between now after
    → Adds disks (some ++ others) making disk now after
adds_more disks some others making mid now disk between after a b before made history is =
    let same : (before ++ payloads_of some) ++ payloads_of others ≡ before ++ payloads_of (some ++ others) =
    append_assoc before (payloads_of some) (payloads_of others) ∙ ap (λ (ps : List (List ℕ)). before ++ ps) (sym (map-append payload_of some others)) in
    subst (λ (ps : List (List ℕ)). IsMade now.base now.journal.end ps history.now) same (b (before ++ payloads_of some) (a before made) history is)

none_stored : (n : ℕ) (reply : Option Body) → is_some reply ≡ false → kept_reply n reply ≡ []
none_stored n None e = refl
none_stored n (Some reply) e = cc

pub no_reply : {D E : Type 0} (olds : Ghosts D) (news : Ghosts E) (n : ℕ) (store : StoreValue) (old : D) (making : Making) (new : E) (p : Ticket Place) → ticket_of n store.index ≡ Some p → is_some p.reply ≡ false
    → CopiesReply olds news n store old making new making new
no_reply olds news n store old making new p was none f t of is =
    let same = same_ticket n f store.index t p (of_alike olds store old f of) is was in
    subst (λ (cs : List TicketCmd). Adds news cs making new making new) (sym (none_stored n t.reply (same.stored ∙ none))) (adds_none news making new)

pub a_reply : {D E : Type 0} (olds : Ghosts D) (news : Ghosts E) (n : ℕ) (store : StoreValue) (old : D) (making now : Making) (new after : E) (frames : Body) → GivesReply olds n store old frames → Adds news (Store n frames ∷ []) making new now after
    → CopiesReply olds news n store old making new now after
a_reply olds news n store old making now new after frames gives adds f t of is =
    let e : Some frames ≡ t.reply = gives of.telling of.base of.cmds of.holds f t of.leaves is in
    subst (λ (r : Option Body). Adds news (kept_reply n r) making new now after) e adds

found_number : (n : ℕ) (ts : List (Ticket Body)) (t : Ticket Body) → find (numbered n) ts ≡ Some t → t.number ≡ n
found_number n [] t e = absurd (none-some t e)
found_number n (u ∷ ts) t e = by (λ rest. found_number n ts t rest) (u.number == n) refl
  where
    by : (find (numbered n) ts ≡ Some t → t.number ≡ n) → (b : Bool) → (u.number == n) ≡ b → t.number ≡ n
    by ih true is = subst (λ (v : Ticket Body). v.number ≡ n) (same_Some u t (rw is at e)) (eqb-true u.number n is)
    by ih false is = ih (rw is at e)

pub a_ticket : {D E : Type 0} (olds : Ghosts D) (news : Ghosts E) (id service : List ℕ) (stored : Bool) (store mid_store : StoreValue) (old mid_old : D) (making mid now : Making) (new between after : E) (frames : Body)
    → IsListed id service stored store.index → GivesBody olds (number_of id) store old frames → olds.told mid_old ≡ olds.told old → Keeps olds store old mid_store mid_old
    → Adds news (Accept id service frames ∷ []) making new mid between → CopiesReply olds news (number_of id) mid_store mid_old mid between now after
    → Copies olds news (number_of id) store old making new now after
a_ticket olds news id service stored store mid_store old mid_old making mid now new between after frames listed gives told keeps adds rest f t of is =
    let same = same_ticket (number_of id) f store.index t listed.ticket (of_alike olds store old f of) is listed.found in
    let body : frames ≡ t.body = gives of.telling of.base of.cmds of.holds f t of.leaves is in
    let reply = rest f t (of_later olds store mid_store old mid_old f of told keeps) is in
    let whole = adds_more news (Accept id service frames ∷ []) (kept_reply (number_of id) t.reply) making mid now new between after adds reply in
    let head : ◌≡◌ {A = TicketCmd} (Accept id service frames) (Accept t.id t.service t.body) =
    ap (λ (i : List ℕ). Accept i service frames) (sym (same.id ∙ listed.id_is)) ∙ ap (λ (s : List ℕ). Accept t.id s frames) (sym (same.service ∙ listed.service_is)) ∙ ap (λ (b : Body). Accept t.id t.service b) body in
    let number : number_of id ≡ t.number = named f t of is in
    subst (λ (cs : List TicketCmd). Adds news cs making new now after) (ap (λ (c : TicketCmd). c ∷ kept_reply (number_of id) t.reply) head ∙ ap (λ (m : ℕ). Accept t.id t.service t.body ∷ kept_reply m t.reply) number) whole
  where
    named : (f : Fold Body) (t : Ticket Body) → IsOf olds store old f → ticket_of (number_of id) f ≡ Some t → number_of id ≡ t.number
    named f t of is = sym (found_number (number_of id) f.tickets t is)

-- the same, with the number that was looked up
pub a_ticket_of : {D E : Type 0} (olds : Ghosts D) (news : Ghosts E) (n : ℕ) (id service : List ℕ) (stored : Bool) (store mid_store : StoreValue) (old mid_old : D) (making mid now : Making) (new between after : E) (frames : Body)
    → n ≡ number_of id → IsListed id service stored store.index → GivesBody olds n store old frames → olds.told mid_old ≡ olds.told old → Keeps olds store old mid_store mid_old
    → Adds news (Accept id service frames ∷ []) making new mid between → CopiesReply olds news n mid_store mid_old mid between now after
    → Copies olds news (number_of id) store old making new now after
a_ticket_of olds news n id service stored store mid_store old mid_old making mid now new between after frames e listed gives told keeps adds rest =
    a_ticket olds news id service stored store mid_store old mid_old making mid now new between after frames listed (subst (λ (m : ℕ). GivesBody olds m store old frames) e gives) told keeps adds
    (subst (λ (m : ℕ). CopiesReply olds news m mid_store mid_old mid between now after) e rest)

pub on_ok : {T E A B : Type 0} (r : Result T E) → OnOk r A → (A → B) → OnOk r B
on_ok (Ok t) a f = f a
on_ok (Err e) a f = tt
