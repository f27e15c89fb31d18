-- The first open, and the first pending, of the tickets above a number.
use Rattle.std.proofs.Common.{◌≡◌, ℕ, ◌<◌, ◌≤◌, Bool, true, false, cond, not, ◌&&◌, nat_lt, List, [], ◌∷◌, ◌++◌, find, Option, Some, None, is_some, IfSome, MatchOption, Bor, option_copied, option_map, refl, sym, ap, ◌∙◌}
use Rattle.std.specs.Prelude.{⊤}
use Rattle.std.proofs.lemmas.Bool.{lt-ltb, le-ltb, and_left}
use Rattle.std.specs.Option.{option_and_then}
use Rattle.std.specs.List.{AllByRecursion, cons_option}
use Rattle.mj_tickets.specs.declared.entries.Entry.{Entry}
use Rattle.mj_tickets.specs.declared.entries.Standing.{Standing}
use Rattle.mj_tickets.specs.declared.entries.Standing.TheVariants.{Pending, Stored, Closed}
use Rattle.mj_tickets.specs.declared.place.Place.{Place}
use Rattle.mj_tickets.specs.Fold.{Ticket, is_pending}
use Rattle.mj_tickets.specs.Index.{pending_as, listed_as}
use Rattle.mj_tickets.specs.Entries.{number_at, shown, shown_as, stands_pending, tickets_in, IsAbove}

-- ---- the first that passes a test

-- a test of entries and a test of tickets say the same of an entry
abbrev pub Agrees : (Entry → Bool) → (Ticket Place → Bool) → Entry → Type 0
Agrees test other e = MatchOption (shown e) (test e ≡ false) (λ t. other t ≡ test e)

find_shown : (test : Entry → Bool) (other : Ticket Place → Bool) (es : List Entry) → AllByRecursion (Agrees test other) es → find other (tickets_in es) ≡ option_and_then shown (find test es)
find_shown test other [] all = refl
find_shown test other (e ∷ es) all = by_shown (shown e) (find_shown test other es all.1) refl all.0
  where
    chosen : (b : Bool) (t : Ticket Place) → find other (tickets_in es) ≡ option_and_then shown (find test es) → shown e ≡ Some t
        → cond b (Some t) (find other (tickets_in es)) ≡ option_and_then shown (cond b (Some e) (find test es))
    chosen true t rest is = sym is
    chosen false t rest is = rest

    by_shown : (o : Option (Ticket Place)) → find other (tickets_in es) ≡ option_and_then shown (find test es) → shown e ≡ o → MatchOption o (test e ≡ false) (λ t. other t ≡ test e)
        → find other (cons_option o (tickets_in es)) ≡ option_and_then shown (cond (test e) (Some e) (find test es))
    by_shown None rest is agrees = rw agrees rest
    by_shown (Some t) rest is agrees = rw agrees (chosen (test e) t rest is)

find_past : (other : Ticket Place → Bool) (front es : List Entry) → AllByRecursion (λ e. MatchOption (shown e) ⊤ (λ t. other t ≡ false)) front → find other (tickets_in (front ++ es)) ≡ find other (tickets_in es)
find_past other [] es all = refl
find_past other (e ∷ front) es all = by_shown (shown e) (find_past other front es all.1) all.0
  where
    by_shown : (o : Option (Ticket Place)) → find other (tickets_in (front ++ es)) ≡ find other (tickets_in es) → MatchOption o ⊤ (λ t. other t ≡ false)
        → find other (cons_option o (tickets_in (front ++ es))) ≡ find other (tickets_in es)
    by_shown None rest no_test = rest
    by_shown (Some t) rest no_test = rw no_test rest

find_passes : {X : Type 0} (test : X → Bool) (xs : List X) (y : X) → find test xs ≡ Some y → test y ≡ true
find_passes test [] y e = cc
find_passes test (x ∷ xs) y e = chosen (test x) (λ h. find_passes test xs y h) refl e
  where
    chosen : (b : Bool) → (find test xs ≡ Some y → test y ≡ true) → test x ≡ b → cond b (Some x) (find test xs) ≡ Some y → test y ≡ true
    chosen true rest is h = let same : x ≡ y = cc in sym (ap test same) ∙ is
    chosen false rest is h = rest h

abbrev pub is_open_above : ℕ → Ticket Place → Bool
is_open_above n t = nat_lt n t.number

abbrev pub is_pending_above : ℕ → Ticket Place → Bool
is_pending_above n t = nat_lt n t.number && is_pending t

open_agrees : (n : ℕ) (es : List Entry) → AllByRecursion (λ e. n < number_at e) es → AllByRecursion (Agrees (λ e. is_some (shown e)) (is_open_above n)) es
open_agrees n [] all = tt
open_agrees n (e ∷ es) all = (by_standing e.standing, open_agrees n es all.1)
  where
    by_standing : (s : Standing) → MatchOption (shown_as e s) (is_some (shown_as e s) ≡ false) (λ t. is_open_above n t ≡ is_some (shown_as e s))
    by_standing Pending = lt-ltb _ _ all.0
    by_standing (Stored reply) = lt-ltb _ _ all.0
    by_standing Closed = refl

pending_agrees : (n : ℕ) (es : List Entry) → AllByRecursion (λ e. n < number_at e) es → AllByRecursion (Agrees (λ e. stands_pending e.standing) (is_pending_above n)) es
pending_agrees n [] all = tt
pending_agrees n (e ∷ es) all = (by_standing e.standing, pending_agrees n es all.1)
  where
    above : nat_lt n (number_at e) ≡ true
    above = lt-ltb _ _ all.0

    by_standing : (s : Standing) → MatchOption (shown_as e s) (stands_pending s ≡ false) (λ t. is_pending_above n t ≡ stands_pending s)
    by_standing Pending = rw above refl
    by_standing (Stored reply) = rw above refl
    by_standing Closed = refl

none_below : (n : ℕ) (es : List Entry) → AllByRecursion (λ e. number_at e ≤ n) es → AllByRecursion (λ e. MatchOption (shown e) ⊤ (λ t. (is_open_above n t ≡ false) × (is_pending_above n t ≡ false))) es
none_below n [] all = tt
none_below n (e ∷ es) all = (by_standing e.standing, none_below n es all.1)
  where
    under : nat_lt n (number_at e) ≡ false
    under = le-ltb _ _ all.0

    by_standing : (s : Standing) → MatchOption (shown_as e s) ⊤ (λ t. (is_open_above n t ≡ false) × (is_pending_above n t ≡ false))
    by_standing Pending = (under, and_left _ _ under)
    by_standing (Stored reply) = (under, and_left _ _ under)
    by_standing Closed = tt

open_none : (n : ℕ) (es : List Entry) → AllByRecursion (λ e. number_at e ≤ n) es → AllByRecursion (λ e. MatchOption (shown e) ⊤ (λ t. is_open_above n t ≡ false)) es
open_none n [] all = tt
open_none n (e ∷ es) all = (left (shown e) (none_below n (e ∷ es) all).0, open_none n es all.1)
  where
    left : (o : Option (Ticket Place)) → MatchOption o ⊤ (λ t. (is_open_above n t ≡ false) × (is_pending_above n t ≡ false)) → MatchOption o ⊤ (λ t. is_open_above n t ≡ false)
    left None both = tt
    left (Some t) both = both.0

pending_none : (n : ℕ) (es : List Entry) → AllByRecursion (λ e. number_at e ≤ n) es → AllByRecursion (λ e. MatchOption (shown e) ⊤ (λ t. is_pending_above n t ≡ false)) es
pending_none n [] all = tt
pending_none n (e ∷ es) all = (right (shown e) (none_below n (e ∷ es) all).0, pending_none n es all.1)
  where
    right : (o : Option (Ticket Place)) → MatchOption o ⊤ (λ t. (is_open_above n t ≡ false) × (is_pending_above n t ≡ false)) → MatchOption o ⊤ (λ t. is_pending_above n t ≡ false)
    right None both = tt
    right (Some t) both = both.1

-- the reference that a search gave, and the ticket
copied_shown : (r : Option (Bor Entry)) (o : Option Entry) → option_copied r ≡ o → option_and_then (λ (x : Bor Entry). shown x.now) r ≡ option_and_then shown o
copied_shown None o is = ap (option_and_then shown) is
copied_shown (Some x) o is = ap (option_and_then shown) is

pub open_found : (n : ℕ) (es rest : List Entry) (r : Option (Bor Entry)) → IsAbove n es rest → option_copied r ≡ find (λ e. is_some (shown e)) rest
    → option_and_then (λ (x : Bor Entry). shown x.now) r ≡ find (is_open_above n) (tickets_in es)
open_found n es rest r p is =
    copied_shown r _ is ∙ sym (find_shown (λ e. is_some (shown e)) (is_open_above n) rest (open_agrees n rest p.above)) ∙ sym (find_past (is_open_above n) p.front rest (open_none n p.front p.below))
    ∙ ap (λ (xs : List Entry). find (is_open_above n) (tickets_in xs)) (sym p.whole)

pub pending_found : (n : ℕ) (es rest : List Entry) (r : Option (Bor Entry)) → IsAbove n es rest → option_copied r ≡ find (λ e. stands_pending e.standing) rest
    → option_and_then (λ (x : Bor Entry). shown x.now) r ≡ find (is_pending_above n) (tickets_in es)
pending_found n es rest r p is =
    copied_shown r _ is ∙ sym (find_shown (λ e. stands_pending e.standing) (is_pending_above n) rest (pending_agrees n rest p.above)) ∙ sym (find_past (is_pending_above n) p.front rest (pending_none n p.front p.below))
    ∙ ap (λ (xs : List Entry). find (is_pending_above n) (tickets_in xs)) (sym p.whole)

pub passes : (test : Entry → Bool) (xs : List Entry) (r : Option (Bor Entry)) → option_copied r ≡ find test xs → IfSome r (λ (x : Bor Entry). test x.now ≡ true)
passes test xs None is = tt
passes test xs (Some x) is = find_passes test xs x.now (sym is)

-- what is given of an entry
pub listed_of : (e : Entry) (o : Option (Ticket Place)) → is_some (shown e) ≡ true → shown e ≡ o → Some (e.id, e.service, not (stands_pending e.standing)) ≡ option_map listed_as o
listed_of e o one is = by_standing e.standing one is
  where
    by_standing : (s : Standing) → is_some (shown_as e s) ≡ true → shown_as e s ≡ o → Some (e.id, e.service, not (stands_pending s)) ≡ option_map listed_as o
    by_standing Pending one same = ap (option_map listed_as) same
    by_standing (Stored reply) one same = ap (option_map listed_as) same
    by_standing Closed one same = cc

pub pending_of : (e : Entry) (o : Option (Ticket Place)) → stands_pending e.standing ≡ true → shown e ≡ o → Some (number_at e, e.service) ≡ option_map pending_as o
pending_of e o pending is = by_standing e.standing pending is
  where
    by_standing : (s : Standing) → stands_pending s ≡ true → shown_as e s ≡ o → Some (number_at e, e.service) ≡ option_map pending_as o
    by_standing Pending one same = ap (option_map pending_as) same
    by_standing (Stored reply) one same = cc
    by_standing Closed one same = cc

pub body_shown : (e : Entry) (o : Option (Ticket Place)) → is_some (shown e) ≡ true → shown e ≡ o → Some e.body ≡ option_map (λ (t : Ticket Place). t.body) o
body_shown e o one is = by_standing e.standing one is
  where
    by_standing : (s : Standing) → is_some (shown_as e s) ≡ true → shown_as e s ≡ o → Some e.body ≡ option_map (λ (t : Ticket Place). t.body) o
    by_standing Pending one same = ap (option_map (λ (t : Ticket Place). t.body)) same
    by_standing (Stored reply) one same = ap (option_map (λ (t : Ticket Place). t.body)) same
    by_standing Closed one same = cc
