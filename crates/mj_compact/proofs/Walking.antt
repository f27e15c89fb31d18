-- The open tickets in turn, as memory has them and with their bodies.
use Rattle.std.proofs.Common.{◌≡◌, ℕ, ◌+◌, ◌<◌, ◌≤◌, Bool, true, false, cond, ◌==◌, ltb, leb, List, [], ◌∷◌, ◌++◌, length, map, filter, find, Option, Some, None, is_some, option_map, refl, sym, ap, subst, ◌∙◌, arith, ltb-true, ltb-false}
use Rattle.std.proofs.lemmas.Bool.{le-leb, lt-leb, eq-eqb, ne_eqb}
use Rattle.std.proofs.lemmas.Option.{same_Some, none-some}
use Rattle.std.specs.List.{AllByRecursion}
use Rattle.mj_ids.specs.Ids.{number_of}
use Rattle.mj_tickets.specs.declared.command.TicketCmd.{TicketCmd}
use Rattle.mj_tickets.specs.declared.place.Place.{Place}
use Rattle.mj_tickets.specs.Payload.{payload_of}
use Rattle.mj_tickets.specs.Fold.{Fold, Ticket, IsNamed, RisesTo, fold_of, folded_by, number_in, numbered, open_above, start, ticket_of}
use Rattle.mj_tickets.specs.Index.{cmd_of, listed_as}
use Rattle.mj_tickets.specs.Laws.{AreNumbered, Housed, body_at, housed, map_fold, mapped, place_at}
use Rattle.mj_tickets.proofs.MapLemmas.{places_and_bodies}
use Rattle.mj_tickets.proofs.RisingLemmas.{all_above, rises_bound, rises_weaker}
use Rattle.mj_store.specs.Commands.{index_of, placed_from}
use Rattle.mj_store.proofs.Housing.{some_mapped}
use Rattle.mj_compact.specs.Compacting.{IsNext}
use Rattle.mj_compact.proofs.Folding.{Body}

-- ---- tickets by rising number

abbrev is_above : {B : Type 0} → ℕ → Ticket B → Bool
is_above n t = ltb n t.number

abbrev is_upto : {B : Type 0} → ℕ → Ticket B → Bool
is_upto n t = leb t.number n

module _ {B : Type 0} where
  pub none_upto : (n : ℕ) (ts : List (Ticket B)) → AllByRecursion (λ (m : ℕ). n < m) (map number_in ts) → filter (is_upto n) ts ≡ []
  none_upto n [] all = refl
  none_upto n (t ∷ ts) all = let e : leb t.number n ≡ false = lt-leb _ _ all.0 in rw e (none_upto n ts all.1)

  pub upto_next : (low : ℕ) (ts : List (Ticket B)) (high n : ℕ) (t : Ticket B) → RisesTo low (map number_in ts) high → find (is_above n) ts ≡ Some t
      → (filter (is_upto t.number) ts ≡ filter (is_upto n) ts ++ t ∷ []) × (n < t.number)
  upto_next low [] high n t rise e = absurd (none-some t e)
  upto_next low (u ∷ ts) high n t rise e = by (λ rest. upto_next u.number ts high n t rise.1 rest) (ltb n u.number) refl
    where
      by : (find (is_above n) ts ≡ Some t → (filter (is_upto t.number) ts ≡ filter (is_upto n) ts ++ t ∷ []) × (n < t.number))
          → (b : Bool) → ltb n u.number ≡ b → (filter (is_upto t.number) (u ∷ ts) ≡ filter (is_upto n) (u ∷ ts) ++ t ∷ []) × (n < t.number)
      by ih true above =
          let same : u ≡ t = same_Some u t (rw above at e) in
          let lt = ltb-true n u.number above in
          let here : leb u.number u.number ≡ true = le-leb _ _ (omega arith) in
          let none : leb u.number n ≡ false = lt-leb _ _ lt in
          let rest : filter (is_upto u.number) ts ≡ [] = none_upto u.number ts (all_above u.number (map number_in ts) high rise.1) in
          let later : filter (is_upto n) ts ≡ [] = none_upto n ts (all_above n (map number_in ts) high (rises_weaker u.number n (map number_in ts) high (omega (arith, lt)) rise.1)) in
          subst (λ (v : Ticket B). (filter (is_upto v.number) (u ∷ ts) ≡ filter (is_upto n) (u ∷ ts) ++ v ∷ []) × (n < v.number)) same (rw (here, none, rest, later) refl, lt)
      by ih false below =
          let more = ih (rw below at e) in
          let le = ltb-false n u.number below in
          let a : leb u.number t.number ≡ true = le-leb _ _ (omega (arith, le, more.1)) in
          let b : leb u.number n ≡ true = le-leb _ _ (omega (arith, le)) in
          (rw (a, b) (ap (λ (us : List (Ticket B)). u ∷ us) more.0), more.1)

  pub upto_all : (ts : List (Ticket B)) (n : ℕ) → find (is_above n) ts ≡ None → filter (is_upto n) ts ≡ ts
  upto_all [] n e = refl
  upto_all (u ∷ ts) n e = by (λ rest. upto_all ts n rest) (ltb n u.number) refl
    where
      by : (find (is_above n) ts ≡ None → filter (is_upto n) ts ≡ ts) → (b : Bool) → ltb n u.number ≡ b → filter (is_upto n) (u ∷ ts) ≡ u ∷ ts
      by ih true above = let some : Some u ≡ None = rw above at e in cc
      by ih false below =
          let le : leb u.number n ≡ true = le-leb _ _ (ltb-false n u.number below) in
          rw le (ap (λ (us : List (Ticket B)). u ∷ us) (ih (rw below at e)))

  -- the ticket that is next is the one of its number
  pub next_found : (low : ℕ) (ts : List (Ticket B)) (high n : ℕ) (t : Ticket B) → RisesTo low (map number_in ts) high → find (is_above n) ts ≡ Some t → find (numbered t.number) ts ≡ Some t
  next_found low [] high n t rise e = absurd (none-some t e)
  next_found low (u ∷ ts) high n t rise e = by (λ rest. (next_found u.number ts high n t rise.1 rest, upto_next u.number ts high n t rise.1 rest)) (ltb n u.number) refl
    where
      by : (find (is_above n) ts ≡ Some t → (find (numbered t.number) ts ≡ Some t) × ((filter (is_upto t.number) ts ≡ filter (is_upto n) ts ++ t ∷ []) × (n < t.number)))
          → (b : Bool) → ltb n u.number ≡ b → find (numbered t.number) (u ∷ ts) ≡ Some t
      by ih true above =
          let same : u ≡ t = same_Some u t (rw above at e) in
          subst (λ (v : Ticket B). find (numbered v.number) (u ∷ ts) ≡ Some v) same (let here : (u.number == u.number) ≡ true = eq-eqb _ _ refl in rw here refl)
      by ih false below =
          let more = ih (rw below at e) in
          let other : (u.number == t.number) ≡ false = ne_eqb _ _ (λ is. absurd (omega (arith, ltb-false n u.number below, more.1.1, is))) in
          rw other more.0

  pub next_within : (low : ℕ) (ts : List (Ticket B)) (high n : ℕ) (t : Ticket B) → RisesTo low (map number_in ts) high → find (is_above n) ts ≡ Some t → t.number ≤ high
  next_within low [] high n t rise e = absurd (none-some t e)
  next_within low (u ∷ ts) high n t rise e = by (λ rest. next_within u.number ts high n t rise.1 rest) (ltb n u.number) refl
    where
      by : (find (is_above n) ts ≡ Some t → t.number ≤ high) → (b : Bool) → ltb n u.number ≡ b → t.number ≤ high
      by ih true above = subst (λ (v : Ticket B). v.number ≤ high) (same_Some u t (rw above at e)) (rises_bound u.number (map number_in ts) high rise.1)
      by ih false below = ih (rw below at e)

  is_named : (ts : List (Ticket B)) (n : ℕ) (t : Ticket B) → AllByRecursion IsNamed ts → find (is_above n) ts ≡ Some t → IsNamed t
  is_named [] n t all e = absurd (none-some t e)
  is_named (u ∷ ts) n t all e = by (λ rest. is_named ts n t all.1 rest) (ltb n u.number) refl
    where
      by : (find (is_above n) ts ≡ Some t → IsNamed t) → (b : Bool) → ltb n u.number ≡ b → IsNamed t
      by ih true above = subst (λ (v : Ticket B). IsNamed v) (same_Some u t (rw above at e)) all.0
      by ih false below = ih (rw below at e)

listed_is : (n : ℕ) (index : Fold Place) (id service : List ℕ) (stored : Bool) → AreNumbered index → (o : Option (Ticket Place)) → open_above n index ≡ o → Some (id, service, stored) ≡ option_map listed_as o → IsNext n index id service stored
listed_is n index id service stored numbers None is e = absurd (none-some (id, service, stored) (sym e))
listed_is n index id service stored numbers (Some t) is e =
    let same = same_Some (id, service, stored) (listed_as t) e in
    let id_is : t.id ≡ id = ap (λ (p : List ℕ × List ℕ × Bool). p.0) (sym same) in
    let named : t.number ≡ number_of id = is_named index.tickets n t numbers.named is ∙ ap number_of id_is in
    record {
      ticket = t;
      next = is;
      number = named;
      listed = record {
        ticket = t;
        found = ap (λ (m : ℕ). ticket_of m index) (sym named) ∙ next_found 0 index.tickets index.highest n t numbers.rise is;
        id_is = id_is;
        service_is = ap (λ (p : List ℕ × List ℕ × Bool). p.1) (sym same);
        stored_is = ap (λ (p : List ℕ × List ℕ × Bool). p.2) (sym same);
      };
    }

pub is_next : (n : ℕ) (index : Fold Place) (id service : List ℕ) (stored : Bool) → AreNumbered index → Some (id, service, stored) ≡ option_map listed_as (open_above n index) → IsNext n index id service stored
is_next n index id service stored numbers e = listed_is n index id service stored numbers (open_above n index) refl e

-- ---- memory and bodies

-- both are seen in the tickets with both
pub record AreAlike (f : Fold Body) (index : Fold Place) : Type 0 where
  pub both : Fold Housed
  pub places : map_fold place_at both ≡ index
  pub bodies : map_fold body_at both ≡ f

pub placed_cmds : (gate : ℕ) (cmds : List TicketCmd) → map cmd_of (placed_from gate cmds) ≡ cmds
placed_cmds gate [] = refl
placed_cmds gate (cmd ∷ cmds) = ap (λ (cs : List TicketCmd). cmd ∷ cs) (placed_cmds (gate + (length (payload_of cmd) + 5)) cmds)

pub are_alike : (base : ℕ) (cmds : List TicketCmd) (f : Fold Body) (index : Fold Place) → index_of base cmds ≡ Some index → fold_of base cmds ≡ Some f → AreAlike f index
are_alike base cmds f index is folded =
    let law = places_and_bodies base (placed_from 16 cmds) in
    let found = some_mapped (map_fold place_at) (folded_by cmd_of housed (placed_from 16 cmds) (start base)) index (law.0 ∙ is) in
    let some : Some (map_fold body_at found.0) ≡ Some f = ap (option_map (map_fold body_at)) (sym found.1) ∙ law.1 ∙ ap (fold_of base) (placed_cmds 16 cmds) ∙ folded in
    record { both = found.0; places = found.2; bodies = same_Some (map_fold body_at found.0) f some }

module _ {B C : Type 0} (h : B → C) where
  pub above_map : (n : ℕ) (ts : List (Ticket B)) → find (is_above n) (map (mapped h) ts) ≡ option_map (mapped h) (find (is_above n) ts)
  above_map n [] = refl
  above_map n (t ∷ ts) = chosen (ltb n t.number) (above_map n ts)
    where
      chosen : (b : Bool) → find (is_above n) (map (mapped h) ts) ≡ option_map (mapped h) (find (is_above n) ts)
          → cond {A = Option (Ticket C)} b (Some (mapped h t)) (find (is_above n) (map (mapped h) ts)) ≡ option_map (mapped h) (cond {A = Option (Ticket B)} b (Some t) (find (is_above n) ts))
      chosen true rest = refl
      chosen false rest = rest

  listed_map : (o : Option (Ticket B)) → option_map listed_as (option_map (mapped h) o) ≡ option_map listed_as o
  listed_map None = refl
  listed_map (Some t) = ap (λ (b : Bool). Some (t.id, t.service, b)) (by t.reply)
    where
      by : (r : Option B) → is_some (option_map h r) ≡ is_some r
      by None = refl
      by (Some r) = refl

  pub above-mapped : (n : ℕ) (f : Fold B) → open_above n (map_fold h f) ≡ option_map (mapped h) (open_above n f)
  above-mapped n f = above_map n f.tickets

-- what memory lists of a ticket is what its bodies' list says
pub listed_alike : (n : ℕ) (f : Fold Body) (index : Fold Place) → AreAlike f index → option_map listed_as (open_above n index) ≡ option_map listed_as (open_above n f)
listed_alike n f index a =
    ap (λ (i : Fold Place). option_map listed_as (open_above n i)) (sym a.places) ∙ ap (option_map listed_as) (above-mapped place_at n a.both) ∙ listed_map place_at (open_above n a.both)
    ∙ sym (ap (λ (i : Fold Body). option_map listed_as (open_above n i)) (sym a.bodies) ∙ ap (option_map listed_as) (above-mapped body_at n a.both) ∙ listed_map body_at (open_above n a.both))

pub next_alike : (f : Fold Body) (index : Fold Place) → AreAlike f index → index.next ≡ f.next
next_alike f index a = ap (λ (i : Fold Place). i.next) (sym a.places) ∙ ap (λ (i : Fold Body). i.next) a.bodies

none_listed : (o : Option (Ticket Place)) → None ≡ option_map listed_as o → o ≡ None
none_listed None e = refl
none_listed (Some t) e = absurd (none-some (listed_as t) e)

pub none_next : (n : ℕ) (index : Fold Place) → None ≡ option_map listed_as (open_above n index) → open_above n index ≡ None
none_next n index e = none_listed (open_above n index) e
