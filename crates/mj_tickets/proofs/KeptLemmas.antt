-- The list in memory behind each command.
use Rattle.std.proofs.Common.{◌≡◌, ℕ, zero, suc, ◌+◌, ◌^◌, ◌<◌, ◌≤◌, ◌==◌, ◌⊎◌, Bool, true, false, cond, not, ltb, leb, List, [], ◌∷◌, ◌++◌, length, map, take, drop, filter, find, Option, Some, None, is_some, option_map, refl, sym, ap, subst, ◌∙◌, inl, inr, arith, append-nil, length-append}
use Rattle.std.proofs.lemmas.Bool.{eq-eqb, ne_eqb, lt-ltb, le-leb, cases_eq}
use Rattle.std.proofs.lemmas.List.{map-append, take-append-drop}
use Rattle.std.specs.Option.{option_and_then}
use Rattle.std.specs.List.{AllByRecursion, cons_option}
use Rattle.mj_ids.specs.Ids.{number_of}
use Rattle.mj_tickets.specs.declared.entries.Entry.{Entry}
use Rattle.mj_tickets.specs.declared.entries.Standing.{Standing}
use Rattle.mj_tickets.specs.declared.entries.Standing.TheVariants.{Pending, Stored, Closed}
use Rattle.mj_tickets.specs.declared.place.Place.{Place}
use Rattle.mj_tickets.specs.Fold.{Ticket, Fold, RisesTo, number_in, numbered, accepts, stores, stores_in, closes, stored, closed, changed_first, replied, IsNamed}
use Rattle.mj_tickets.specs.Entries.{number_at, numbers_in, ticket, shown, shown_as, stands_pending, tickets_in, index_of, with_standing, AreKept, Rise, IsOpenAt, if_pending, find_pending}
use Rattle.mj_tickets.specs.Laws.{AreNumbered}
use Rattle.mj_tickets.proofs.RisingLemmas.{rises_push, rises_weaker}
use Rattle.std.specs.Str.{bytes_eq}
use Rattle.mj_tickets.proofs.TicketLemmas.{whole, by_whole_id}
use Rattle.mj_tickets.proofs.EntryLemmas.{Others, below_others, above_others, find_open}

-- ---- the tickets of a list of entries

pub tickets-append : (xs ys : List Entry) → tickets_in (xs ++ ys) ≡ tickets_in xs ++ tickets_in ys
tickets-append [] ys = refl
tickets-append (e ∷ xs) ys = ap (cons_option (shown e)) (tickets-append xs ys) ∙ shift (shown e) (tickets_in xs) (tickets_in ys)
  where
    shift : (o : Option (Ticket Place)) (ts us : List (Ticket Place)) → cons_option o (ts ++ us) ≡ cons_option o ts ++ us
    shift None ts us = refl
    shift (Some t) ts us = refl

-- their numbers rise as those of the entries do
pub rises_shown : (low : ℕ) (es : List Entry) (high : ℕ) → RisesTo low (numbers_in es) high → RisesTo low (map number_in (tickets_in es)) high
rises_shown low [] high r = r
rises_shown low (e ∷ es) high r = by_standing e.standing (rises_shown (number_at e) es high r.1)
  where
    by_standing : (s : Standing) → RisesTo (number_at e) (map number_in (tickets_in es)) high → RisesTo low (map number_in (cons_option (shown_as e s) (tickets_in es))) high
    by_standing Pending rest = (r.0, rest)
    by_standing (Stored reply) rest = (r.0, rest)
    by_standing Closed rest = rises_weaker (number_at e) low (map number_in (tickets_in es)) high (omega (arith, r.0)) rest

pub all_named : (es : List Entry) → AllByRecursion IsNamed (tickets_in es)
all_named [] = tt
all_named (e ∷ es) = by_standing e.standing (all_named es)
  where
    by_standing : (s : Standing) → AllByRecursion IsNamed (tickets_in es) → AllByRecursion IsNamed (cons_option (shown_as e s) (tickets_in es))
    by_standing Pending rest = (refl, rest)
    by_standing (Stored reply) rest = (refl, rest)
    by_standing Closed rest = rest

pub are_numbered : (es : List Entry) (highest next closed : ℕ) (f : Fold Place) → AreKept es highest next closed → index_of es highest next ≡ f → AreNumbered f
are_numbered es highest next closed f kept is =
    subst (λ (g : Fold Place). AreNumbered g) is (record { rise = rises_shown 0 es highest kept.rise; above = kept.above; named = all_named es })

-- ---- an accept

pub accepted_kept : (es new : List Entry) (e : Entry) (highest next closed after : ℕ) → AreKept es highest next closed → new ≡ es ++ e ∷ [] → e.standing ≡ Pending
    → highest < number_at e → number_at e < after → after ≤ 2 ^ 62 → AreKept new (number_at e) after closed
accepted_kept es new e highest next closed after kept is pending over under small =
    let numbers : numbers_in new ≡ numbers_in es ++ number_at e ∷ [] = ap numbers_in is ∙ map-append number_at es (e ∷ []) in
    let tickets : tickets_in new ≡ tickets_in es ++ ticket e None ∷ [] = ap tickets_in is ∙ tickets-append es (e ∷ []) ∙ ap (λ (s : Standing). tickets_in es ++ cons_option (shown_as e s) []) pending in
    let count = kept.counted in
    record {
      rise = subst (λ (ns : List ℕ). RisesTo 0 ns (number_at e)) (sym numbers) (rises_push 0 (numbers_in es) highest (number_at e) over kept.rise);
      above = under;
      small = small;
      counted = omega (arith, ap length tickets, length-append (tickets_in es) (ticket e None ∷ []), ap length is, length-append es (e ∷ []), count);
    }

pub accepted_index : (es new : List Entry) (e : Entry) (highest next after : ℕ) (f : Fold Place) → index_of es highest next ≡ f → new ≡ es ++ e ∷ [] → e.standing ≡ Pending
    → highest < number_at e → number_at e ≤ next → after ≡ cond (number_at e == next) (next + 1) next
    → accepts e.id e.service e.body f ≡ Some (index_of new (number_at e) after)
accepted_index es new e highest next after f is more pending over under behind =
    let tickets : tickets_in new ≡ tickets_in es ++ ticket e None ∷ [] = ap tickets_in more ∙ tickets-append es (e ∷ []) ∙ ap (λ (s : Standing). tickets_in es ++ cons_option (shown_as e s) []) pending in
    let one : ltb highest (number_at e) ≡ true = lt-ltb _ _ over in
    let two : leb (number_at e) next ≡ true = le-leb _ _ under in
    subst (λ (g : Fold Place). accepts e.id e.service e.body g ≡ Some (index_of new (number_at e) after)) is (rw (one, two, tickets, behind) refl)

pub record Accepted (es new : List Entry) (id service : List ℕ) (body : Place) (number after closed : ℕ) (f : Fold Place) : Type 0 where
  pub kept : AreKept new number after closed
  pub index : accepts id service body f ≡ Some (index_of new number after)

pub accepted : (es new : List Entry) (id service copy : List ℕ) (body : Place) (number highest next closed after : ℕ) (f : Fold Place) → AreKept es highest next closed → index_of es highest next ≡ f
    → number ≡ number_of id → copy ≡ service → new ≡ es ++ record { id = id; service = copy; body = body; standing = Pending } ∷ []
    → highest < number → number ≤ next → number < 2 ^ 62 → after ≡ cond (number == next) (next + 1) next → Accepted es new id service body number after closed f
accepted es new id service copy body number highest next closed after f kept is same same_service more over under small behind =
    let e : Entry = record { id = id; service = copy; body = body; standing = Pending } in
    let bounds : (number < after) × (after ≤ 2 ^ 62) = after_bounds (cases_eq number next) in
    record {
      kept = subst (λ (n : ℕ). AreKept new n after closed) (sym same) (accepted_kept es new e highest next closed after kept more refl (omega (arith, same, over)) (omega (arith, same, bounds.0)) bounds.1);
      index =
          ap (λ (s : List ℕ). accepts id s body f) (sym same_service)
          ∙ accepted_index es new e highest next after f is more refl (omega (arith, same, over)) (omega (arith, same, under)) (behind ∙ ap (λ (n : ℕ). cond (n == next) (next + 1) next) same)
          ∙ ap (λ (n : ℕ). Some (index_of new n after)) (sym same);
    }
  where
    after_bounds : ((number ≡ next) ⊎ (number ≡ next → ⊥)) → (number < after) × (after ≤ 2 ^ 62)
    after_bounds (inl eq) =
        let t : (number == next) ≡ true = eq-eqb _ _ eq in
        let a : after ≡ next + 1 = behind ∙ ap (λ (b : Bool). cond b (next + 1) next) t in
        (omega arith, omega arith)
    after_bounds (inr ne) =
        let t : (number == next) ≡ false = ne_eqb _ _ ne in
        let a : after ≡ next = behind ∙ ap (λ (b : Bool). cond b (next + 1) next) t in
        let old = kept.small in
        (omega arith, omega arith)

-- ---- a ticket in another standing

with_split : (es : List Entry) (at : ℕ) (e : Entry) (rest : List Entry) (s : Standing) → drop at es ≡ e ∷ rest → with_standing at s es ≡ take at es ++ record e { standing = s } ∷ rest
with_split [] zero e rest s is = cc
with_split [] (suc at) e rest s is = cc
with_split (x ∷ es) zero e rest s is =
    let same : x ≡ e = cc in
    let behind : es ≡ rest = cc in
    ap (λ (y : Entry). record y { standing = s } ∷ es) same ∙ ap (λ (ys : List Entry). record e { standing = s } ∷ ys) behind
with_split (x ∷ es) (suc at) e rest s is = ap (λ (ys : List Entry). x ∷ ys) (with_split es at e rest s is)

numbers-with_standing : (es : List Entry) (at : ℕ) (s : Standing) → numbers_in (with_standing at s es) ≡ numbers_in es
numbers-with_standing [] at s = refl
numbers-with_standing (e ∷ es) zero s = refl
numbers-with_standing (e ∷ es) (suc at) s = ap (λ (ns : List ℕ). number_at e ∷ ns) (numbers-with_standing es at s)

length-with_standing : (es : List Entry) (at : ℕ) (s : Standing) → length (with_standing at s es) ≡ length es
length-with_standing [] at s = refl
length-with_standing (e ∷ es) zero s = refl
length-with_standing (e ∷ es) (suc at) s = ap suc (length-with_standing es at s)

-- the tickets before and behind the one at a place
tickets_at : (n : ℕ) (es : List Entry) (at : ℕ) (p : IsOpenAt n es at) → tickets_in es ≡ tickets_in (take at es) ++ cons_option (shown p.entry) (tickets_in (drop (at + 1) es))
tickets_at n es at p =
    ap tickets_in (sym (take-append-drop at es) ∙ ap (λ (xs : List Entry). take at es ++ xs) p.here) ∙ tickets-append (take at es) (p.entry ∷ drop (at + 1) es)

tickets_put : (n : ℕ) (es : List Entry) (at : ℕ) (p : IsOpenAt n es at) (s : Standing) → tickets_in (with_standing at s es) ≡ tickets_in (take at es) ++ cons_option (shown_as p.entry s) (tickets_in (drop (at + 1) es))
tickets_put n es at p s =
    ap tickets_in (with_split es at p.entry (drop (at + 1) es) s p.here) ∙ tickets-append (take at es) (record p.entry { standing = s } ∷ drop (at + 1) es)

-- of lists of tickets, by the entries that show them
changed_behind : (n : ℕ) (change : Ticket Place → Ticket Place) (front : List Entry) (ts : List (Ticket Place)) → Others n front → changed_first (numbered n) change (tickets_in front ++ ts) ≡ tickets_in front ++ changed_first (numbered n) change ts
changed_behind n change [] ts others = refl
changed_behind n change (e ∷ front) ts others = by_standing e.standing (changed_behind n change front ts others.1)
  where
    other : (number_at e == n) ≡ false
    other = ne_eqb _ _ others.0

    by_standing : (s : Standing) → changed_first (numbered n) change (tickets_in front ++ ts) ≡ tickets_in front ++ changed_first (numbered n) change ts
        → changed_first (numbered n) change (cons_option (shown_as e s) (tickets_in front) ++ ts) ≡ cons_option (shown_as e s) (tickets_in front) ++ changed_first (numbered n) change ts
    by_standing Pending rest = rw other (ap (λ (us : List (Ticket Place)). ticket e None ∷ us) rest)
    by_standing (Stored reply) rest = rw other (ap (λ (us : List (Ticket Place)). ticket e (Some reply) ∷ us) rest)
    by_standing Closed rest = rest

abbrev others_of : ℕ → List (Ticket Place) → List (Ticket Place)
others_of n ts = filter (λ t. not (numbered n t)) ts

kept_behind : (n : ℕ) (front : List Entry) (ts : List (Ticket Place)) → Others n front → others_of n (tickets_in front ++ ts) ≡ tickets_in front ++ others_of n ts
kept_behind n [] ts others = refl
kept_behind n (e ∷ front) ts others = by_standing e.standing (kept_behind n front ts others.1)
  where
    other : (number_at e == n) ≡ false
    other = ne_eqb _ _ others.0

    by_standing : (s : Standing) → others_of n (tickets_in front ++ ts) ≡ tickets_in front ++ others_of n ts
        → others_of n (cons_option (shown_as e s) (tickets_in front) ++ ts) ≡ cons_option (shown_as e s) (tickets_in front) ++ others_of n ts
    by_standing Pending rest = rw other (ap (λ (us : List (Ticket Place)). ticket e None ∷ us) rest)
    by_standing (Stored reply) rest = rw other (ap (λ (us : List (Ticket Place)). ticket e (Some reply) ∷ us) rest)
    by_standing Closed rest = rest

kept_all : (n : ℕ) (es : List Entry) → Others n es → others_of n (tickets_in es) ≡ tickets_in es
kept_all n es others = ap (others_of n) (sym (append-nil (tickets_in es))) ∙ kept_behind n es [] others ∙ append-nil (tickets_in es)

-- ---- a reply is stored

pending_shown : (e : Entry) → stands_pending e.standing ≡ true → shown e ≡ Some (ticket e None)
pending_shown e pending = by_standing e.standing pending
  where
    by_standing : (s : Standing) → stands_pending s ≡ true → shown_as e s ≡ Some (ticket e None)
    by_standing Pending one = refl
    by_standing (Stored reply) one = cc
    by_standing Closed one = cc

stored_tickets : (n : ℕ) (es : List Entry) (at : ℕ) (p : IsOpenAt n es at) (reply : Place) → stands_pending p.entry.standing ≡ true
    → changed_first (numbered n) (replied reply) (tickets_in es) ≡ tickets_in (with_standing at (Stored reply) es)
stored_tickets n es at p reply pending =
    let front = tickets_in (take at es) in
    let rest = tickets_in (drop (at + 1) es) in
    let own : (number_at p.entry == n) ≡ true = eq-eqb _ _ p.number in
    let here : changed_first (numbered n) (replied reply) (ticket p.entry None ∷ rest) ≡ ticket p.entry (Some reply) ∷ rest = rw own refl in
    ap (changed_first (numbered n) (replied reply)) (tickets_at n es at p ∙ ap (λ o. front ++ cons_option o rest) (pending_shown p.entry pending))
    ∙ changed_behind n (replied reply) (take at es) (ticket p.entry None ∷ rest) (below_others n (take at es) p.below)
    ∙ ap (λ (ts : List (Ticket Place)). front ++ ts) here
    ∙ sym (tickets_put n es at p (Stored reply))

pub stored_index : (n : ℕ) (es new : List Entry) (at : ℕ) (highest next : ℕ) (reply : Place) (f : Fold Place) → index_of es highest next ≡ f → (q : (p : IsOpenAt n es at) × (stands_pending p.entry.standing ≡ true)) → new ≡ with_standing at (Stored reply) es
    → stores n reply f ≡ Some (index_of new highest next)
stored_index n es new at highest next reply f is (p, pending) put =
    let found : find (numbered n) (tickets_in es) ≡ Some (ticket p.entry None) = find_open n es at p ∙ pending_shown p.entry pending in
    let tickets = stored_tickets n es at p reply pending ∙ ap tickets_in (sym put) in
    subst (λ (g : Fold Place). stores n reply g ≡ Some (index_of new highest next)) is
    (ap (option_and_then (stores_in n reply (index_of es highest next))) found ∙ ap (λ (ts : List (Ticket Place)). Some (record { tickets = ts; highest = highest; next = next })) tickets)

pub stored_kept : (n : ℕ) (es new : List Entry) (at highest next closed : ℕ) (reply : Place) → AreKept es highest next closed → (q : (p : IsOpenAt n es at) × (stands_pending p.entry.standing ≡ true)) → new ≡ with_standing at (Stored reply) es
    → AreKept new highest next closed
stored_kept n es new at highest next closed reply kept (p, pending) put =
    let s = Stored reply in
    let front = tickets_in (take at es) in
    let rest = tickets_in (drop (at + 1) es) in
    let before = ap length (tickets_at n es at p ∙ ap (λ o. front ++ cons_option o rest) (pending_shown p.entry pending)) ∙ length-append front (ticket p.entry None ∷ rest) in
    let after = ap length (tickets_put n es at p s) ∙ length-append front (ticket p.entry (Some reply) ∷ rest) in
    let count = kept.counted in
    subst (λ (xs : List Entry). AreKept xs highest next closed) (sym put) (record {
      rise = subst (λ (ns : List ℕ). RisesTo 0 ns highest) (sym (numbers-with_standing es at s)) kept.rise;
      above = kept.above;
      small = kept.small;
      counted = omega (arith, before, after, count, length-with_standing es at s);
    })

pub not_pending : (n : ℕ) (f : Fold Place) (ts : List (Ticket Place)) (reply : Place) → f.tickets ≡ ts → find_pending n ts ≡ None → stores n reply f ≡ None
not_pending n f ts reply is none = by_found (find (numbered n) f.tickets) (ap (find_pending n) is ∙ none)
  where
    by_reply : (b : Bool) (t : Ticket Place) → cond b None (Some t) ≡ None → cond b None (Some (stored n reply f)) ≡ None
    by_reply true t e = refl
    by_reply false t e = cc

    by_found : (o : Option (Ticket Place)) → option_and_then if_pending o ≡ None → option_and_then (stores_in n reply f) o ≡ None
    by_found None e = refl
    by_found (Some t) e = by_reply (is_some t.reply) t e

-- ---- a ticket is closed

one_shown : (e : Entry) → ((t : Ticket Place) × (shown e ≡ Some t)) → (t : Ticket Place) × (shown e ≡ Some t) × (t.number ≡ number_at e)
one_shown e (t, is) = (t, is, by_standing e.standing is)
  where
    by_standing : (s : Standing) → shown_as e s ≡ Some t → t.number ≡ number_at e
    by_standing Pending same = let q : ticket e None ≡ t = cc in sym (ap (λ (u : Ticket Place). u.number) q)
    by_standing (Stored reply) same = let q : ticket e (Some reply) ≡ t = cc in sym (ap (λ (u : Ticket Place). u.number) q)
    by_standing Closed same = cc

closed_tickets : (n : ℕ) (es : List Entry) (at : ℕ) (p : IsOpenAt n es at) → others_of n (tickets_in es) ≡ tickets_in (with_standing at Closed es)
closed_tickets n es at p =
    let front = tickets_in (take at es) in
    let rest = tickets_in (drop (at + 1) es) in
    let one = one_shown p.entry p.found in
    let own : (one.0.number == n) ≡ true = eq-eqb _ _ (one.2 ∙ p.number) in
    let here : others_of n (one.0 ∷ rest) ≡ others_of n rest = rw own refl in
    ap (others_of n) (tickets_at n es at p ∙ ap (λ o. front ++ cons_option o rest) one.1)
    ∙ kept_behind n (take at es) (one.0 ∷ rest) (below_others n (take at es) p.below)
    ∙ ap (λ (ts : List (Ticket Place)). front ++ ts) (here ∙ kept_all n (drop (at + 1) es) (above_others n (drop (at + 1) es) p.above))
    ∙ sym (tickets_put n es at p Closed)

pub closed_index : (n : ℕ) (es new : List Entry) (at : ℕ) (highest next : ℕ) (f : Fold Place) → index_of es highest next ≡ f → IsOpenAt n es at → new ≡ with_standing at Closed es
    → closes n f ≡ Some (index_of new highest next)
closed_index n es new at highest next f is p put =
    let one = one_shown p.entry p.found in
    let found : find (numbered n) (tickets_in es) ≡ Some one.0 = find_open n es at p ∙ one.1 in
    let tickets = closed_tickets n es at p ∙ ap tickets_in (sym put) in
    subst (λ (g : Fold Place). closes n g ≡ Some (index_of new highest next)) is
    (ap (option_map (λ (t : Ticket Place). closed n (index_of es highest next))) found ∙ ap (λ (ts : List (Ticket Place)). Some (record { tickets = ts; highest = highest; next = next })) tickets)

pub closed_kept : (n : ℕ) (es new : List Entry) (at highest next count : ℕ) → AreKept es highest next count → IsOpenAt n es at → new ≡ with_standing at Closed es → AreKept new highest next (count + 1)
closed_kept n es new at highest next count kept p put =
    let front = tickets_in (take at es) in
    let rest = tickets_in (drop (at + 1) es) in
    let one = one_shown p.entry p.found in
    let before = ap length (tickets_at n es at p ∙ ap (λ o. front ++ cons_option o rest) one.1) ∙ length-append front (one.0 ∷ rest) in
    let after = ap length (tickets_put n es at p Closed) ∙ length-append front rest in
    let counted = kept.counted in
    subst (λ (xs : List Entry). AreKept xs highest next (count + 1)) (sym put) (record {
      rise = subst (λ (ns : List ℕ). RisesTo 0 ns highest) (sym (numbers-with_standing es at Closed)) kept.rise;
      above = kept.above;
      small = kept.small;
      counted = omega (arith, before, after, counted, length-with_standing es at Closed);
    })

pub not_open : (n : ℕ) (f : Fold Place) (ts : List (Ticket Place)) → f.tickets ≡ ts → find (numbered n) ts ≡ None → closes n f ≡ None
not_open n f ts is none = ap (option_map (λ (t : Ticket Place). closed n f)) (ap (λ (us : List (Ticket Place)). find (numbered n) us) is ∙ none)

-- ---- closed tickets are taken out

abbrev open_ones : List Entry → List Entry
open_ones es = filter (λ e. is_some (shown e)) es

pub taken_tickets : (es : List Entry) → tickets_in (open_ones es) ≡ tickets_in es
taken_tickets [] = refl
taken_tickets (e ∷ es) = by_shown (shown e) (taken_tickets es) refl
  where
    by_shown : (o : Option (Ticket Place)) → tickets_in (open_ones es) ≡ tickets_in es → shown e ≡ o → tickets_in (cond (is_some o) (e ∷ open_ones es) (open_ones es)) ≡ cons_option o (tickets_in es)
    by_shown None rest is = rest
    by_shown (Some t) rest is = ap (λ o. cons_option o (tickets_in (open_ones es))) is ∙ ap (λ (ts : List (Ticket Place)). t ∷ ts) rest

taken_rise : (low : ℕ) (es : List Entry) (high : ℕ) → RisesTo low (numbers_in es) high → RisesTo low (numbers_in (open_ones es)) high
taken_rise low [] high r = r
taken_rise low (e ∷ es) high r = by_shown (is_some (shown e)) (taken_rise (number_at e) es high r.1)
  where
    by_shown : (b : Bool) → RisesTo (number_at e) (numbers_in (open_ones es)) high → RisesTo low (numbers_in (cond b (e ∷ open_ones es) (open_ones es))) high
    by_shown true rest = (r.0, rest)
    by_shown false rest = rises_weaker (number_at e) low (numbers_in (open_ones es)) high (omega (arith, r.0)) rest

taken_count : (es : List Entry) → length (open_ones es) ≡ length (tickets_in es)
taken_count [] = refl
taken_count (e ∷ es) = by_shown (shown e) (taken_count es)
  where
    by_shown : (o : Option (Ticket Place)) → length (open_ones es) ≡ length (tickets_in es) → length (cond (is_some o) (e ∷ open_ones es) (open_ones es)) ≡ length (cons_option o (tickets_in es))
    by_shown None rest = rest
    by_shown (Some t) rest = ap suc rest

pub taken_kept : (es new : List Entry) (highest next closed : ℕ) → AreKept es highest next closed → new ≡ open_ones es → AreKept new highest next 0
taken_kept es new highest next closed kept is =
    subst (λ (xs : List Entry). AreKept xs highest next 0) (sym is) (record {
      rise = taken_rise 0 es highest kept.rise;
      above = kept.above;
      small = kept.small;
      counted = omega (arith, taken_count es, ap length (taken_tickets es));
    })

pub taken_index : (es new : List Entry) (highest next : ℕ) (f : Fold Place) → index_of es highest next ≡ f → new ≡ open_ones es → index_of new highest next ≡ f
taken_index es new highest next f is taken = ap (λ (ts : List (Ticket Place)). record { tickets = ts; highest = highest; next = next }) (ap tickets_in taken ∙ taken_tickets es) ∙ is

-- ---- by the search of an entry

whole_shown : (e : Entry) (id : List ℕ) → bytes_eq e.id id ≡ true → whole id (shown e) ≡ shown e
whole_shown e id same = by_standing e.standing
  where
    by_standing : (s : Standing) → whole id (shown_as e s) ≡ shown_as e s
    by_standing Pending = rw same refl
    by_standing (Stored reply) = rw same refl
    by_standing Closed = refl

whole_other : (e : Entry) (id : List ℕ) → bytes_eq e.id id ≡ false → whole id (shown e) ≡ None
whole_other e id other = by_standing e.standing
  where
    by_standing : (s : Standing) → whole id (shown_as e s) ≡ None
    by_standing Pending = rw other refl
    by_standing (Stored reply) = rw other refl
    by_standing Closed = refl

known : (n : ℕ) (es : List Entry) (id : List ℕ) (o : Option (Ticket Place)) → Rise es → n ≡ number_of id → o ≡ find (numbered n) (tickets_in es) → find (λ t. bytes_eq t.id id) (tickets_in es) ≡ whole id o
known n es id o (high, rise) is found =
    by_whole_id 0 (tickets_in es) high id (all_named es) (rises_shown 0 es high rise) ∙ ap (λ (m : ℕ). whole id (find (numbered m) (tickets_in es))) (sym is) ∙ ap (whole id) (sym found)

pub known_here : (n : ℕ) (es : List Entry) (id : List ℕ) (e : Entry) → Rise es → n ≡ number_of id → shown e ≡ find (numbered n) (tickets_in es) → bytes_eq e.id id ≡ true → shown e ≡ find (λ t. bytes_eq t.id id) (tickets_in es)
known_here n es id e rise is found same = sym (known n es id (shown e) rise is found ∙ whole_shown e id same)

pub known_other : (n : ℕ) (es : List Entry) (id : List ℕ) (e : Entry) → Rise es → n ≡ number_of id → shown e ≡ find (numbered n) (tickets_in es) → bytes_eq e.id id ≡ false → None ≡ find (λ t. bytes_eq t.id id) (tickets_in es)
known_other n es id e rise is found other = sym (known n es id (shown e) rise is found ∙ whole_other e id other)

pub known_none : (n : ℕ) (es : List Entry) (id : List ℕ) → Rise es → n ≡ number_of id → None ≡ find (numbered n) (tickets_in es) → None ≡ find (λ t. bytes_eq t.id id) (tickets_in es)
known_none n es id rise is found = sym (known n es id None rise is found)

pub pending_found : (n : ℕ) (es : List Entry) (at : ℕ) (x : Entry) (p : IsOpenAt n es at) → (at < length es) × (drop at es ≡ x ∷ drop (at + 1) es) → stands_pending x.standing ≡ true → (q : IsOpenAt n es at) × (stands_pending q.entry.standing ≡ true)
pending_found n es at x p is pending =
    let here = p.here in
    let there = is.1 in
    let same : x ≡ p.entry = cc in
    (p, ap (λ (e : Entry). stands_pending e.standing) (sym same) ∙ pending)

pub stored_found : (n : ℕ) (es : List Entry) (at : ℕ) (x : Entry) → IsOpenAt n es at → (at < length es) × (drop at es ≡ x ∷ drop (at + 1) es) → stands_pending x.standing ≡ false → find_pending n (tickets_in es) ≡ None
stored_found n es at x p is stored =
    let here = p.here in
    let there = is.1 in
    let same : x ≡ p.entry = cc in
    ap (option_and_then if_pending) (find_open n es at p) ∙ by_standing p.entry.standing (ap (λ (e : Entry). stands_pending e.standing) (sym same) ∙ stored)
  where
    by_standing : (s : Standing) → stands_pending s ≡ false → option_and_then if_pending (shown_as p.entry s) ≡ None
    by_standing Pending none = cc
    by_standing (Stored reply) none = refl
    by_standing Closed none = refl
