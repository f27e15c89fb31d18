-- The open ticket of a number is found by search.
use Rattle.std.proofs.Common.{◌≡◌, ℕ, zero, suc, ◌+◌, ◌<◌, ◌≤◌, ◌==◌, ltb, leb, true, false, List, [], ◌∷◌, ◌++◌, length, get_or, set, take, drop, find, Option, Some, None, is_some, IfSome, MatchOption, Bor, slice_get, option_copied, refl, sym, ap, subst, ◌∙◌, arith, add-one}
use Rattle.std.proofs.lemmas.Bool.{eq-eqb, ne_eqb, ltb-true, ltb-false, leb-true, leb-false}
use Rattle.std.proofs.lemmas.List.{take-append-drop}
use Rattle.std.proofs.lemmas.Option.{slice_get_within}
use Rattle.std.specs.Option.{option_and_then}
use Rattle.std.specs.List.{AllByRecursion, cons_option}
use Rattle.std.specs.List.Sorted.{IsPartitionPoint}
use Rattle.mj_tickets.specs.declared.entries.Entry.{Entry}
use Rattle.mj_tickets.specs.declared.entries.Standing.{Standing}
use Rattle.mj_tickets.specs.declared.entries.Standing.TheVariants.{Pending, Stored, Closed}
use Rattle.mj_tickets.specs.declared.place.Place.{Place}
use Rattle.mj_tickets.specs.Fold.{Ticket, RisesTo, numbered}
use Rattle.mj_tickets.specs.Entries.{number_at, numbers_in, shown, shown_as, tickets_in, Rise, IsSplit, IsAbove, IsOpenAt, with_standing}
use Rattle.mj_tickets.proofs.RisingLemmas.{all_above}

-- ---- front and rest

all_front : {X : Type 0} (P : X → Type 0) (xs : List X) (at : ℕ) → ((k : ℕ) (d : X) → k < at → P (get_or xs k d)) → at ≤ length xs → AllByRecursion P (take at xs)
all_front P xs zero p within = tt
all_front P [] (suc at) p within = absurd (omega arith)
all_front P (x ∷ xs) (suc at) p within = (p 0 x (omega arith), all_front P xs at (λ k d lt. p (suc k) d (omega arith)) (omega arith))

all_rest : {X : Type 0} (P : X → Type 0) (xs : List X) (at : ℕ) → ((k : ℕ) (d : X) → at ≤ k → k < length xs → P (get_or xs k d)) → AllByRecursion P (drop at xs)
all_rest P [] zero p = tt
all_rest P [] (suc at) p = tt
all_rest P (x ∷ xs) zero p = (p 0 x (omega arith) (omega arith), all_rest P xs zero (λ k d le lt. p (suc k) d (omega arith) (omega arith)))
all_rest P (x ∷ xs) (suc at) p = all_rest P xs at (λ k d le lt. p (suc k) d (omega arith) (omega arith))

pub split : (n : ℕ) (es : List Entry) (at : ℕ) → at ≤ length es → IsPartitionPoint (λ (e : Entry). ltb (number_at e) n ≡ true) (λ (e : Entry). ltb (number_at e) n ≡ false) es at → IsSplit n es at
split n es at within point =
    record {
      within = within;
      below = all_front (λ (e : Entry). number_at e < n) es at (λ k d lt. ltb-true _ _ (point.0 k d (omega arith) lt)) within;
      above = all_rest (λ (e : Entry). n ≤ number_at e) es at (λ k d le lt. ltb-false _ _ (point.1 k d le lt));
    }

pub split_above : (n : ℕ) (es : List Entry) (at : ℕ) → at ≤ length es → IsPartitionPoint (λ (e : Entry). leb (number_at e) n ≡ true) (λ (e : Entry). leb (number_at e) n ≡ false) es at → IsAbove n es (drop at es)
split_above n es at within point =
    record {
      front = take at es;
      whole = sym (take-append-drop at es);
      below = all_front (λ (e : Entry). number_at e ≤ n) es at (λ k d lt. leb-true _ _ (point.0 k d (omega arith) lt)) within;
      above = all_rest (λ (e : Entry). n < number_at e) es at (λ k d le lt. leb-false _ _ (point.1 k d le lt));
    }

-- ---- other numbers

abbrev pub Others : ℕ → List Entry → Type 0
Others n es = AllByRecursion (λ e. number_at e ≡ n → ⊥) es

pub below_others : (n : ℕ) (es : List Entry) → AllByRecursion (λ e. number_at e < n) es → Others n es
below_others n [] all = tt
below_others n (e ∷ es) all = (λ is. omega (arith, is, all.0), below_others n es all.1)

pub above_others : (n : ℕ) (es : List Entry) → AllByRecursion (λ e. n < number_at e) es → Others n es
above_others n [] all = tt
above_others n (e ∷ es) all = (λ is. omega (arith, is, all.0), above_others n es all.1)

-- the test of a ticket that an entry is
pub other_ticket : (n : ℕ) (e : Entry) (s : Standing) (rest : List (Ticket Place)) → (number_at e ≡ n → ⊥) → find (numbered n) (cons_option (shown_as e s) rest) ≡ find (numbered n) rest
other_ticket n e Pending rest other = let no_match : (number_at e == n) ≡ false = ne_eqb _ _ other in rw no_match refl
other_ticket n e (Stored reply) rest other = let no_match : (number_at e == n) ≡ false = ne_eqb _ _ other in rw no_match refl
other_ticket n e Closed rest other = refl

pub find_behind : (n : ℕ) (front es : List Entry) → Others n front → find (numbered n) (tickets_in (front ++ es)) ≡ find (numbered n) (tickets_in es)
find_behind n [] es others = refl
find_behind n (e ∷ front) es others = other_ticket n e e.standing (tickets_in (front ++ es)) others.0 ∙ find_behind n front es others.1

pub find_none : (n : ℕ) (es : List Entry) → Others n es → find (numbered n) (tickets_in es) ≡ None
find_none n [] others = refl
find_none n (e ∷ es) others = other_ticket n e e.standing (tickets_in es) others.0 ∙ find_none n es others.1

-- the ticket of an entry with this number
own_ticket : (n : ℕ) (e : Entry) (s : Standing) (rest : List (Ticket Place)) → number_at e ≡ n → find (numbered n) rest ≡ None → find (numbered n) (cons_option (shown_as e s) rest) ≡ shown_as e s
own_ticket n e Pending rest is none = let same : (number_at e == n) ≡ true = eq-eqb _ _ is in rw same refl
own_ticket n e (Stored reply) rest is none = let same : (number_at e == n) ≡ true = eq-eqb _ _ is in rw same refl
own_ticket n e Closed rest is none = none

-- ---- what stands behind an entry is above it

rest_above : (low : ℕ) (es : List Entry) (high at : ℕ) (e : Entry) (rest : List Entry) → RisesTo low (numbers_in es) high → drop at es ≡ e ∷ rest → AllByRecursion (λ x. number_at e < number_at x) rest
rest_above low [] high zero e rest r is = cc
rest_above low [] high (suc at) e rest r is = cc
rest_above low (x ∷ es) high zero e rest r is =
    let a : x ≡ e = cc in
    let b : es ≡ rest = cc in
    subst (λ (y : Entry). AllByRecursion (λ z. number_at y < number_at z) rest) a (subst (λ (ys : List Entry). AllByRecursion (λ z. number_at x < number_at z) ys) b (numbers (number_at x) es (all_above (number_at x) (numbers_in es) high r.1)))
  where
    numbers : (n : ℕ) (xs : List Entry) → AllByRecursion (λ m. n < m) (numbers_in xs) → AllByRecursion (λ z. n < number_at z) xs
    numbers n [] all = tt
    numbers n (y ∷ ys) all = (all.0, numbers n ys all.1)
rest_above low (x ∷ es) high (suc at) e rest r is = rest_above (number_at x) es high at e rest r.1 is

above_this : (n m : ℕ) (es : List Entry) → n ≤ m → AllByRecursion (λ x. m < number_at x) es → AllByRecursion (λ x. n < number_at x) es
above_this n m [] le all = tt
above_this n m (e ∷ es) le all = (omega (arith, all.0), above_this n m es le all.1)

pub others_behind : (n : ℕ) (es : List Entry) (at : ℕ) (e : Entry) (rest : List Entry) → Rise es → IsSplit n es at → drop at es ≡ e ∷ rest → AllByRecursion (λ x. n < number_at x) rest
others_behind n es at e rest (high, r) s is =
    let behind = subst (AllByRecursion (λ (x : Entry). n ≤ number_at x)) is s.above in
    above_this n (number_at e) rest behind.0 (rest_above 0 es high at e rest r is)

-- ---- what is found

find_split : (n : ℕ) (es : List Entry) (at : ℕ) (rest : List Entry) → AllByRecursion (λ e. number_at e < n) (take at es) → drop at es ≡ rest → find (numbered n) (tickets_in es) ≡ find (numbered n) (tickets_in rest)
find_split n es at rest below is =
    ap (λ (xs : List Entry). find (numbered n) (tickets_in xs)) (sym (take-append-drop at es) ∙ ap (λ (xs : List Entry). take at es ++ xs) is) ∙ find_behind n (take at es) rest (below_others n (take at es) below)

pub none_at_end : (n : ℕ) (es : List Entry) (at : ℕ) → IsSplit n es at → drop at es ≡ [] → find (numbered n) (tickets_in es) ≡ None
none_at_end n es at s is = find_split n es at [] s.below is

pub found_here : (n : ℕ) (es : List Entry) (at : ℕ) (e : Entry) → IsSplit n es at → Rise es → drop at es ≡ e ∷ drop (at + 1) es → number_at e ≡ n → find (numbered n) (tickets_in es) ≡ shown e
found_here n es at e s rise is number =
    let rest = drop (at + 1) es in
    find_split n es at (e ∷ rest) s.below is ∙ own_ticket n e e.standing (tickets_in rest) number (find_none n rest (above_others n rest (others_behind n es at e rest rise s is)))

pub none_here : (n : ℕ) (es : List Entry) (at : ℕ) (e : Entry) → IsSplit n es at → Rise es → drop at es ≡ e ∷ drop (at + 1) es → (number_at e ≡ n → ⊥) → find (numbered n) (tickets_in es) ≡ None
none_here n es at e s rise is other =
    let rest = drop (at + 1) es in
    find_split n es at (e ∷ rest) s.below is ∙ other_ticket n e e.standing (tickets_in rest) other ∙ find_none n rest (above_others n rest (others_behind n es at e rest rise s is))

some_shown : (e : Entry) → is_some (shown e) ≡ true → (t : Ticket Place) × (shown e ≡ Some t)
some_shown e is = some (shown e) is
  where
    some : (o : Option (Ticket Place)) → is_some o ≡ true → (t : Ticket Place) × (o ≡ Some t)
    some None no_one = cc
    some (Some t) one = (t, refl)

none_shown : {A : Type 0} (o : Option A) → is_some o ≡ false → o ≡ None
none_shown None is = refl
none_shown (Some t) is = cc

pub open_at : (n : ℕ) (es : List Entry) (at : ℕ) (e : Entry) → IsSplit n es at → Rise es → (at < length es) × (drop at es ≡ e ∷ drop (at + 1) es) → number_at e ≡ n → is_some (shown e) ≡ true → IsOpenAt n es at
open_at n es at e s rise is number one =
    record {
      entry = e;
      here = is.1;
      within = is.0;
      number = number;
      found = some_shown e one;
      below = s.below;
      above = others_behind n es at e (drop (at + 1) es) rise s is.1;
    }

pub closed_here : (n : ℕ) (es : List Entry) (at : ℕ) (e : Entry) → IsSplit n es at → Rise es → drop at es ≡ e ∷ drop (at + 1) es → number_at e ≡ n → is_some (shown e) ≡ false → find (numbered n) (tickets_in es) ≡ None
closed_here n es at e s rise is number no_one = found_here n es at e s rise is number ∙ none_shown (shown e) no_one

pub find_open : (n : ℕ) (es : List Entry) (at : ℕ) (p : IsOpenAt n es at) → find (numbered n) (tickets_in es) ≡ shown p.entry
find_open n es at p =
    let rest = drop (at + 1) es in
    find_split n es at (p.entry ∷ rest) p.below p.here ∙ own_ticket n p.entry p.entry.standing (tickets_in rest) p.number (find_none n rest (above_others n rest p.above))

-- ---- the entry at a place, and those behind it

rest_none : {X : Type 0} (xs : List X) (at : ℕ) → slice_get xs at ≡ None → drop at xs ≡ []
rest_none [] zero e = refl
rest_none [] (suc at) e = refl
rest_none (x ∷ xs) zero e = cc
rest_none (x ∷ xs) (suc at) e = rest_none xs at e

rest_some : {X : Type 0} (xs : List X) (at : ℕ) (y : X) → slice_get xs at ≡ Some y → drop at xs ≡ y ∷ drop (suc at) xs
rest_some [] at y e = cc
rest_some (x ∷ xs) zero y e = cc
rest_some (x ∷ xs) (suc at) y e = rest_some xs at y e

pub rest_at : {X : Type 0} (r : Option (Bor X)) (xs : List X) (at : ℕ) → option_copied r ≡ slice_get xs at → MatchOption r (drop at xs ≡ []) (λ x. (at < length xs) × (drop at xs ≡ x.now ∷ drop (at + 1) xs))
rest_at None xs at e = rest_none xs at (sym e)
rest_at (Some x) xs at e = (slice_get_within xs at x.now (sym e), rw add-one (rest_some xs at x.now (sym e)))

-- the reference to the entry of an open ticket
pub entry_shown : (n : ℕ) (es : List Entry) (at : ℕ) (r : Option (Bor Entry)) → IsOpenAt n es at → MatchOption r (drop at es ≡ []) (λ x. (at < length es) × (drop at es ≡ x.now ∷ drop (at + 1) es))
    → option_and_then (λ (x : Bor Entry). shown x.now) r ≡ find (numbered n) (tickets_in es)
entry_shown n es at None p is = let here = p.here in cc
entry_shown n es at (Some x) p is =
    let here = p.here in
    let there = is.1 in
    let same : x.now ≡ p.entry = cc in
    ap shown same ∙ sym (find_open n es at p)

pub shown_open : (n : ℕ) (es : List Entry) (at : ℕ) (r : Option (Bor Entry)) → IsOpenAt n es at → MatchOption r (drop at es ≡ []) (λ x. (at < length es) × (drop at es ≡ x.now ∷ drop (at + 1) es))
    → IfSome r (λ (x : Bor Entry). is_some (shown x.now) ≡ true)
shown_open n es at None p is = tt
shown_open n es at (Some x) p is =
    let here = p.here in
    let there = is.1 in
    let same : x.now ≡ p.entry = cc in
    ap is_some (ap shown same ∙ p.found.1)

-- ---- the entry at a place in another standing

pub set_standing : (es : List Entry) (at : ℕ) (x : Entry) (standing : Standing) → at < length es → x ≡ get_or es at x → set es at (record x { standing = standing }) ≡ with_standing at standing es
set_standing [] at x standing within is = refl
set_standing (e ∷ es) zero x standing within is = ap (λ (y : Entry). record y { standing = standing } ∷ es) is
set_standing (e ∷ es) (suc at) x standing within is = ap (λ (ys : List Entry). e ∷ ys) (set_standing es at x standing (omega arith) is)
