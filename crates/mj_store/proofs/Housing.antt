-- The bytes at the place of a ticket's body are the text of that body, and so are those of its reply.
use Rattle.std.proofs.Common.{◌≡◌, ℕ, ◌+◌, ◌≤◌, ◌==◌, Bool, true, false, cond, not, List, [], ◌∷◌, ◌++◌, length, map, take, drop, filter, find, Option, Some, None, option_map, IfSome, refl, sym, ap, subst, ◌∙◌, arith, append_assoc, length-append}
use Rattle.std.proofs.lemmas.List.{map-append, take-append-drop, take_at, drop_at, drop-drop}
use Rattle.std.proofs.lemmas.Option.{none-some, same_Some, option_and_then_some}
use Rattle.std.specs.List.{AllByRecursion}
use Rattle.mj_tickets.specs.declared.command.TicketCmd.{TicketCmd}
use Rattle.mj_tickets.specs.declared.command.TicketCmd.TheVariants.{Accept, Store, Close}
use Rattle.mj_tickets.specs.declared.place.Place.{Place}
use Rattle.mj_tickets.specs.Payload.{FitsBody, Fits, body_text, head_of, payload_of}
use Rattle.mj_tickets.specs.Fold.{Ticket, Fold, start, numbered, ticket_of, changed_first, replied, applied, folded_by, fold_of}
use Rattle.mj_tickets.specs.Index.{Placed, cmd_of}
use Rattle.mj_tickets.specs.Laws.{Housed, housed, place_at, body_at, mapped, map_fold}
use Rattle.mj_tickets.proofs.FoldLemmas.{Does, does, new_ticket}
use Rattle.mj_tickets.proofs.LengthLemmas.{fits_body}
use Rattle.mj_tickets.proofs.MapLemmas.{find-map, places_and_bodies}
use Rattle.mj_journal.specs.FileText.{Stands, end_of}
use Rattle.mj_journal.proofs.Files.{end_of-push}
use Rattle.mj_journal.proofs.Standing.{in_place}
use Rattle.mj_store.specs.Commands.{payloads_of, IsWritten, placed_from, index_of}
use Rattle.mj_store.proofs.Adding.{payloads-push}

-- ---- what holds of each value in a body's place

abbrev pub Has : (Housed → Type 0) → Ticket Housed → Type 0
Has P t = P t.body × IfSome t.reply P

-- a close has no body
abbrev Gives : (Housed → Type 0) → TicketCmd → Housed → Type 0
Gives P (Accept id service body) value = P value
Gives P (Store number body) value = P value
Gives P (Close number) value = Unit {0}

has_changed : (P : Housed → Type 0) (n : ℕ) (value : Housed) (ts : List (Ticket Housed)) → P value → AllByRecursion (Has P) ts → AllByRecursion (Has P) (changed_first (numbered n) (replied value) ts)
has_changed P n value [] one all = tt
has_changed P n value (t ∷ ts) one all = chosen (t.number == n) (has_changed P n value ts one all.1)
  where
    chosen : (b : Bool) → AllByRecursion (Has P) (changed_first (numbered n) (replied value) ts) → AllByRecursion (Has P) (cond b (replied value t ∷ ts) (t ∷ changed_first (numbered n) (replied value) ts))
    chosen true rest = ((all.0.0, one), all.1)
    chosen false rest = (all.0, rest)

has_filter : (P : Housed → Type 0) (test : Ticket Housed → Bool) (ts : List (Ticket Housed)) → AllByRecursion (Has P) ts → AllByRecursion (Has P) (filter test ts)
has_filter P test [] all = tt
has_filter P test (t ∷ ts) all = chosen (test t) (has_filter P test ts all.1)
  where
    chosen : (b : Bool) → AllByRecursion (Has P) (filter test ts) → AllByRecursion (Has P) (cond b (t ∷ filter test ts) (filter test ts))
    chosen true rest = (all.0, rest)
    chosen false rest = rest

has_push : (P : Housed → Type 0) (ts : List (Ticket Housed)) (t : Ticket Housed) → AllByRecursion (Has P) ts → Has P t → AllByRecursion (Has P) (ts ++ t ∷ [])
has_push P [] t all one = (one, tt)
has_push P (u ∷ ts) t all one = (all.0, has_push P ts t all.1 one)

has_step : (P : Housed → Type 0) (cmd : TicketCmd) (value : Housed) (f g : Fold Housed) → Gives P cmd value → AllByRecursion (Has P) f.tickets → Does cmd value f g → AllByRecursion (Has P) g.tickets
has_step P (Accept id service body) value f g one all d =
    subst (λ (h : Fold Housed). AllByRecursion (Has P) h.tickets) d.2 (has_push P f.tickets (new_ticket id service value) all (one, tt))
has_step P (Store number body) value f g one all d =
    subst (λ (h : Fold Housed). AllByRecursion (Has P) h.tickets) d (has_changed P number value f.tickets one all)
has_step P (Close number) value f g one all d =
    subst (λ (h : Fold Housed). AllByRecursion (Has P) h.tickets) d (has_filter P (λ t. not (numbered number t)) f.tickets all)

abbrev AllGive : (Housed → Type 0) → List Placed → Type 0
AllGive P placed = AllByRecursion (λ (p : Placed). Gives P p.cmd (housed p)) placed

has_all : (P : Housed → Type 0) (placed : List Placed) (f g : Fold Housed) → AllGive P placed → AllByRecursion (Has P) f.tickets → folded_by cmd_of housed placed f ≡ Some g → AllByRecursion (Has P) g.tickets
has_all P [] f g gives all e =
    let same : f ≡ g = same_Some f g e in
    subst (λ (h : Fold Housed). AllByRecursion (Has P) h.tickets) same all
has_all P (p ∷ placed) f g gives all e =
    option_and_then_some (folded_by cmd_of housed placed) (applied p.cmd (housed p) f) g e (λ h was is. has_all P placed h g gives.1 (has_step P p.cmd (housed p) f h gives.0 all (does p.cmd (housed p) f h was)) is)

has_found : (P : Housed → Type 0) (n : ℕ) (ts : List (Ticket Housed)) (t : Ticket Housed) → AllByRecursion (Has P) ts → find (numbered n) ts ≡ Some t → Has P t
has_found P n [] t all e = absurd (none-some t e)
has_found P n (u ∷ ts) t all e = chosen (u.number == n) e (λ rest. has_found P n ts t all.1 rest)
  where
    chosen : (b : Bool) → cond b (Some u) (find (numbered n) ts) ≡ Some t → (find (numbered n) ts ≡ Some t → Has P t) → Has P t
    chosen true is rest = subst (Has P) (same_Some u t is) all.0
    chosen false is rest = rest is

-- ---- the places of a file

-- the text of a body stands at a place, all of it in front of the closed gate
pub record IsHoused (end : ℕ) (octets : List ℕ) (h : Housed) : Type 0 where
  pub text : take h.place.len (drop h.place.at octets) ≡ body_text h.body
  pub within : h.place.at + h.place.len ≤ end
  pub fits : FitsBody h.body

tail_at : (front tail octets : List ℕ) → take (length (front ++ tail)) octets ≡ front ++ tail → take (length tail) (drop (length front) octets) ≡ tail
tail_at front tail octets is =
    let rest = drop (length (front ++ tail)) octets in
    let whole : octets ≡ front ++ (tail ++ rest) = sym (take-append-drop (length (front ++ tail)) octets) ∙ ap (λ (l : List ℕ). l ++ rest) is ∙ append_assoc front tail rest in
    ap (λ (l : List ℕ). take (length tail) (drop (length front) l)) whole
    ∙ ap (λ (l : List ℕ). take (length tail) l) (drop_at front (tail ++ rest) (length front) refl)
    ∙ take_at tail rest (length tail) refl

tail_housed : (end at : ℕ) (octets front : List ℕ) (body : List (List ℕ)) → FitsBody body → take (length (front ++ body_text body)) (drop at octets) ≡ front ++ body_text body → at + length (front ++ body_text body) ≤ end
    → IsHoused end octets (record { place = record { at = at + length front; len = length (body_text body) }; body = body })
tail_housed end at octets front body fits text inside = record {
  text = ap (λ (l : List ℕ). take (length (body_text body)) l) (sym (drop-drop (length front) at octets)) ∙ tail_at front (body_text body) (drop at octets) text;
  within = omega (arith, inside, length-append front (body_text body));
  fits = fits;
}

gives_housed : (end at : ℕ) (octets : List ℕ) (cmd : TicketCmd) → Fits cmd → take (length (payload_of cmd)) (drop at octets) ≡ payload_of cmd → at + length (payload_of cmd) ≤ end → Gives (IsHoused end octets) cmd (housed (record { at = at; cmd = cmd }))
gives_housed end at octets (Accept id service body) fits text inside =
    tail_housed end at octets (head_of (Accept id service body)) body (fits_body (Accept id service body) fits) text inside
gives_housed end at octets (Store number body) fits text inside =
    tail_housed end at octets (head_of (Store number body)) body (fits_body (Store number body) fits) text inside
gives_housed end at octets (Close number) fits text inside = tt

placed_give : (end : ℕ) (octets head : List ℕ) (before cmds : List TicketCmd) (gate : ℕ) → length head ≡ 16 → gate ≡ end_of (payloads_of before) → end ≡ end_of (payloads_of (before ++ cmds)) → AllByRecursion IsWritten cmds → Stands head (payloads_of (before ++ cmds)) octets → AllGive (IsHoused end octets) (placed_from gate cmds)
placed_give end octets head before [] gate long gate_is end_is all stands = tt
placed_give end octets head before (cmd ∷ cmds) gate long gate_is end_is all stands =
    let split : payloads_of (before ++ cmd ∷ cmds) ≡ payloads_of before ++ payload_of cmd ∷ payloads_of cmds = map-append payload_of before (cmd ∷ cmds) in
    let place = in_place head (payloads_of before) (payload_of cmd) (payloads_of cmds) octets long (subst (λ (ps : List (List ℕ)). Stands head ps octets) split stands) in
    let regroup : before ++ cmd ∷ cmds ≡ (before ++ cmd ∷ []) ++ cmds = sym (append_assoc before (cmd ∷ []) cmds) in
    let inside : gate + 5 + length (payload_of cmd) ≤ end = omega (arith, place.1, gate_is, end_is, ap end_of split) in (
      gives_housed end (gate + 5) octets cmd all.0.fits (subst (λ (n : ℕ). take (length (payload_of cmd)) (drop (n + 5) octets) ≡ payload_of cmd) (sym gate_is) place.0) inside,
      placed_give end octets head (before ++ cmd ∷ []) cmds (gate + (length (payload_of cmd) + 5)) long
          (end_of-push (payloads_of before) (payload_of cmd) gate gate_is ∙ ap end_of (sym (payloads-push before cmd)))
          (end_is ∙ ap (λ (cs : List TicketCmd). end_of (payloads_of cs)) regroup)
          all.1
          (subst (λ (cs : List TicketCmd). Stands head (payloads_of cs) octets) regroup stands),
    )

cmds_placed : (gate : ℕ) (cmds : List TicketCmd) → map cmd_of (placed_from gate cmds) ≡ cmds
cmds_placed gate [] = refl
cmds_placed gate (cmd ∷ cmds) = ap (λ (cs : List TicketCmd). cmd ∷ cs) (cmds_placed (gate + (length (payload_of cmd) + 5)) cmds)

-- ---- a ticket with places, and the same with bodies

pub some_mapped : {A B : Type 0} (f : A → B) (o : Option A) (y : B) → option_map f o ≡ Some y → (x : A) × (o ≡ Some x) × (f x ≡ y)
some_mapped f None y e = absurd (none-some y e)
some_mapped f (Some x) y e = (x, refl, same_Some (f x) y e)

-- an open ticket in memory: what it is with its bodies, which stand at its places
pub record IsKeptTicket (end number base : ℕ) (cmds : List TicketCmd) (octets : List ℕ) (t : Ticket Place) : Type 0 where
  pub both : Ticket Housed
  pub places : mapped place_at both ≡ t
  pub bodies : (f : Fold (List (List ℕ))) → fold_of base cmds ≡ Some f → ticket_of number f ≡ Some (mapped body_at both)
  pub has : Has (IsHoused end octets) both

bodies_of : (number : ℕ) (F : Fold Housed) (both : Ticket Housed) (o : Option (Fold Housed)) (bodied : Option (Fold (List (List ℕ)))) → o ≡ Some F → option_map (map_fold body_at) o ≡ bodied → ticket_of number F ≡ Some both
    → (f : Fold (List (List ℕ))) → bodied ≡ Some f → ticket_of number f ≡ Some (mapped body_at both)
bodies_of number F both o bodied is made found f bodied_is =
    let same : map_fold body_at F ≡ f = same_Some (map_fold body_at F) f (ap (option_map (map_fold body_at)) (sym is) ∙ made ∙ bodied_is) in
    subst (λ (g : Fold (List (List ℕ))). ticket_of number g ≡ Some (mapped body_at both)) same
    (find-map body_at number F.tickets ∙ ap (option_map (mapped body_at)) found)

pub kept_ticket : (head octets : List ℕ) (base number : ℕ) (cmds : List TicketCmd) (index : Fold Place) (t : Ticket Place) → length head ≡ 16 → AllByRecursion IsWritten cmds → Stands head (payloads_of cmds) octets → index_of base cmds ≡ Some index → ticket_of number index ≡ Some t
    → IsKeptTicket (end_of (payloads_of cmds)) number base cmds octets t
kept_ticket head octets base number cmds index t long written stands index_is is =
    let placed = placed_from 16 cmds in
    let o = folded_by cmd_of housed placed (start base) in
    let law = places_and_bodies base placed in
    let F = some_mapped (map_fold place_at) o index (law.0 ∙ index_is) in
    let there : option_map (mapped place_at) (ticket_of number F.0) ≡ Some t = sym (find-map place_at number F.0.tickets) ∙ ap (λ (g : Fold Place). ticket_of number g) F.2 ∙ is in
    let both = some_mapped (mapped place_at) (ticket_of number F.0) t there in
    let give = placed_give (end_of (payloads_of cmds)) octets head [] cmds 16 long (omega arith) refl written stands in
    record {
      both = both.0;
      places = both.2;
      bodies = bodies_of number F.0 both.0 o (fold_of base cmds) F.1 (law.1 ∙ ap (λ (cs : List TicketCmd). fold_of base cs) (cmds_placed 16 cmds)) both.1;
      has = has_found (IsHoused (end_of (payloads_of cmds)) octets) number F.0.tickets both.0 (has_all (IsHoused (end_of (payloads_of cmds)) octets) placed (start base) F.0 give tt F.1) both.1;
    }
