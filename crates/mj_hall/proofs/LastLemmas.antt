-- Orders that have the last row of each number.
use Rattle.std.proofs.Common.{◌≡◌, ℕ, ◌==◌, Bool, true, false, not, cond, ◌||◌, ◌&&◌, List, Option, Some, None, is_some, IfSome, IfNone, refl, sym, ◌∙◌, ap, subst, arith}
use Rattle.std.proofs.lemmas.Bool.Decides.{nat_tests}
use Rattle.mj_counted.specs.Pairs.{has_pair, same_pair}
use Rattle.mj_chain.specs.Seats.{is_key, is_no_key}

turned_number : (a b : ℕ) → (a == b) ≡ (b == a)
turned_number a b = grind (arith, nat_tests)

pub is_none : (o : Option ℕ) → is_some o ≡ false → is_no_key o ≡ true
is_none None e = refl
is_none (Some k) e = cc

number_is : (a n : ℕ) → (a == n) ≡ true → a ≡ n
number_is a n e = grind (arith, nat_tests)

abbrev Changed : ℕ → ℕ → Option ℕ → List (ℕ × ℕ) → List (ℕ × ℕ) → Type 0
Changed n key prev old new = (p : ℕ × ℕ) → has_pair p new ≡ (((p.0 == n) && is_key p.1 prev) || (not (same_pair p (n, key)) && has_pair p old))

pub stepped_back : (n key : ℕ) (prev : Option ℕ) (old new : List (ℕ × ℕ)) → ((j : ℕ) → has_pair (n, j) old ≡ (key == j)) → Changed n key prev old new
    → (p : ℕ × ℕ) → has_pair p new ≡ cond ((n == p.0) && true) (is_key p.1 prev) (has_pair p old)
stepped_back n key prev old new last changed p = changed p ∙ of (p.0 == n) refl ∙ ap (λ (b : Bool). cond (b && true) (is_key p.1 prev) (has_pair p old)) (turned_number p.0 n)
  where
    known : (p.0 == n) ≡ true → has_pair p old ≡ (key == p.1)
    known e = subst (λ (m : ℕ). has_pair (m, p.1) old ≡ (key == p.1)) (sym (number_is p.0 n e)) (last p.1)

    here : (b c d : Bool) → (b || (not (true && c) && d)) ≡ b → (b || (not c && d)) ≡ b
    here b c d e = e

    gone : (a k : ℕ) (b : Bool) → (b || (not (a == k) && (k == a))) ≡ b
    gone a k true = refl
    gone a k false = grind (arith, nat_tests)

    of : (b : Bool) → (p.0 == n) ≡ b → ((b && is_key p.1 prev) || (not (b && (p.1 == key)) && has_pair p old)) ≡ cond (b && true) (is_key p.1 prev) (has_pair p old)
    of true e = ap (λ (h : Bool). is_key p.1 prev || (not (p.1 == key) && h)) (known e) ∙ gone p.1 key (is_key p.1 prev)
    of false e = refl

removed_some : (n key prev : ℕ) (old after new : List (ℕ × ℕ)) → ((p : ℕ × ℕ) → has_pair p after ≡ (not (same_pair p (n, key)) && has_pair p old)) → ((p : ℕ × ℕ) → has_pair p new ≡ (same_pair p (n, prev) || has_pair p after)) → Changed n key (Some prev) old new
removed_some n key prev old after new removed inserted p =
    inserted p ∙ ap (λ (h : Bool). same_pair p (n, prev) || h) (removed p) ∙ ap (λ (h : Bool). ((p.0 == n) && h) || (not (same_pair p (n, key)) && has_pair p old)) (turned p.1 prev)
  where
    turned : (a b : ℕ) → (a == b) ≡ (b == a)
    turned a b = grind (arith, nat_tests)

pub back_some : (n key prev : ℕ) (was next : Option ℕ) (old after new : List (ℕ × ℕ)) → was ≡ Some prev → is_no_key next ≡ true → (is_no_key next ≡ true → (j : ℕ) → has_pair (n, j) old ≡ (key == j))
    → ((p : ℕ × ℕ) → has_pair p after ≡ (not (same_pair p (n, key)) && has_pair p old)) → ((p : ℕ × ℕ) → has_pair p new ≡ (same_pair p (n, prev) || has_pair p after))
    → (p : ℕ × ℕ) → has_pair p new ≡ cond ((n == p.0) && is_no_key next) (is_key p.1 was) (has_pair p old)
back_some n key prev was next old after new is none last removed inserted p =
    rw (is, none) (stepped_back n key (Some prev) old new (last none) (removed_some n key prev old after new removed inserted) p)

pub back_none : (n key : ℕ) (was next : Option ℕ) (old new : List (ℕ × ℕ)) → was ≡ None → is_no_key next ≡ true → (is_no_key next ≡ true → (j : ℕ) → has_pair (n, j) old ≡ (key == j))
    → ((p : ℕ × ℕ) → has_pair p new ≡ (not (same_pair p (n, key)) && has_pair p old)) → (p : ℕ × ℕ) → has_pair p new ≡ cond ((n == p.0) && is_no_key next) (is_key p.1 was) (has_pair p old)
back_none n key was next old new is none last removed p =
    rw (is, none) (stepped_back n key None old new (last none) (λ q. removed q ∙ ap (λ (h : Bool). h || (not (same_pair q (n, key)) && has_pair q old)) (nothing (q.0 == n))) p)
  where
    nothing : (b : Bool) → false ≡ (b && false)
    nothing true = refl
    nothing false = refl

pub back_free : (n key prev : ℕ) (old after : List (ℕ × ℕ)) → ((j : ℕ) → has_pair (n, j) old ≡ (key == j)) → ((p : ℕ × ℕ) → has_pair p after ≡ (not (same_pair p (n, key)) && has_pair p old)) → has_pair (n, prev) after ≡ false
back_free n key prev old after last removed = removed (n, prev) ∙ ap (λ (h : Bool). not (same_pair (n, prev) (n, key)) && h) (last prev) ∙ gone n prev key
  where
    gone : (n a k : ℕ) → (not ((n == n) && (a == k)) && (k == a)) ≡ false
    gone n a k = grind (arith, nat_tests)

pub back_there : (n key : ℕ) (old : List (ℕ × ℕ)) → ((j : ℕ) → has_pair (n, j) old ≡ (key == j)) → has_pair (n, key) old ≡ true
back_there n key old last = last key ∙ own key
  where
    own : (k : ℕ) → (k == k) ≡ true
    own k = grind (arith, nat_tests)

pub stepped_on : (n key : ℕ) (old after new : List (ℕ × ℕ)) → ((p : ℕ × ℕ) → has_pair p after ≡ (not (p.0 == n) && has_pair p old)) → ((p : ℕ × ℕ) → has_pair p new ≡ (same_pair p (n, key) || has_pair p after))
    → (p : ℕ × ℕ) → has_pair p new ≡ cond (n == p.0) (key == p.1) (has_pair p old)
stepped_on n key old after new removed inserted p =
    inserted p ∙ ap (λ (h : Bool). same_pair p (n, key) || h) (removed p) ∙ of (p.0 == n) ∙ ap (λ (b : Bool). cond b (key == p.1) (has_pair p old)) (turned_number p.0 n)
  where
    turned : (a b : ℕ) → ((a == b) || false) ≡ (b == a)
    turned a b = grind (arith, nat_tests)

    of : (b : Bool) → ((b && (p.1 == key)) || (not b && has_pair p old)) ≡ cond b (key == p.1) (has_pair p old)
    of true = turned p.1 key
    of false = refl

pub dropped_some : (n key : ℕ) (was : Option ℕ) (old new : List (ℕ × ℕ)) → was ≡ Some key → ((j : ℕ) → has_pair (n, j) old ≡ is_key j was) → ((p : ℕ × ℕ) → has_pair p new ≡ (not (same_pair p (n, key)) && has_pair p old))
    → (p : ℕ × ℕ) → has_pair p new ≡ (not (p.0 == n) && has_pair p old)
dropped_some n key was old new is last removed p = removed p ∙ of (p.0 == n) refl
  where
    known : (p.0 == n) ≡ true → has_pair p old ≡ (key == p.1)
    known e = subst (λ (m : ℕ). has_pair (m, p.1) old ≡ (key == p.1)) (sym (number_is p.0 n e)) (last p.1 ∙ ap (is_key p.1) is)

    gone : (a k : ℕ) → (not (a == k) && (k == a)) ≡ false
    gone a k = grind (arith, nat_tests)

    of : (b : Bool) → (p.0 == n) ≡ b → (not (b && (p.1 == key)) && has_pair p old) ≡ (not b && has_pair p old)
    of true e = ap (λ (h : Bool). not (p.1 == key) && h) (known e) ∙ gone p.1 key
    of false e = refl

pub dropped_none : (n : ℕ) (was : Option ℕ) (old : List (ℕ × ℕ)) → was ≡ None → ((j : ℕ) → has_pair (n, j) old ≡ is_key j was) → (p : ℕ × ℕ) → has_pair p old ≡ (not (p.0 == n) && has_pair p old)
dropped_none n was old is last p = of (p.0 == n) refl
  where
    known : (p.0 == n) ≡ true → has_pair p old ≡ false
    known e = subst (λ (m : ℕ). has_pair (m, p.1) old ≡ false) (sym (number_is p.0 n e)) (last p.1 ∙ ap (is_key p.1) is)

    of : (b : Bool) → (p.0 == n) ≡ b → has_pair p old ≡ (not b && has_pair p old)
    of true e = known e
    of false e = refl

-- what is found of a number is its last
pub last_found : (found last : Option ℕ) (n : ℕ) (pairs : List (ℕ × ℕ)) → IfSome found (λ k. has_pair (n, k) pairs ≡ true) → IfNone found ((k : ℕ) → has_pair (n, k) pairs ≡ false) → ((k : ℕ) → has_pair (n, k) pairs ≡ is_key k last) → found ≡ last
last_found None None n pairs some none is = refl
last_found None (Some l) n pairs some none is =
    let own : (l == l) ≡ true = grind (arith, nat_tests) in
    let there : has_pair (n, l) pairs ≡ true = is l ∙ own in
    let missing : has_pair (n, l) pairs ≡ false = none l in
    cc
last_found (Some k) None n pairs some none is =
    let missing : has_pair (n, k) pairs ≡ false = is k in
    let there : has_pair (n, k) pairs ≡ true = some in
    cc
last_found (Some k) (Some l) n pairs some none is =
    let there : has_pair (n, k) pairs ≡ true = some in
    ap (λ (m : ℕ). Some m) (sym (number_is l k (sym (is k) ∙ there)))
