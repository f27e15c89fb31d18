-- Neighbours and ends in a list, once one leaves it or comes behind it.
use Rattle.std.proofs.Common.{◌≡◌, ℕ, ◌==◌, Bool, true, false, not, cond, ◌||◌, List, [], ◌∷◌, ◌++◌, Option, Some, None, refl, sym, ◌∙◌, ap, subst, arith}
use Rattle.std.specs.List.{filter}
use Rattle.std.proofs.lemmas.Bool.{and_parts, and_from, or_parts, not-true, not_from_false}
use Rattle.std.proofs.lemmas.Bool.Decides.{nat_tests}
use Rattle.mj_chain.specs.declared.node.Link.{Link}
use Rattle.mj_chain.specs.declared.node.Ends.{Ends}
use Rattle.mj_chain.specs.Links.{ends_of, followed, link_in, prolonged, relinked, unended}
use Rattle.mj_chain.specs.Seats.{are_distinct, has_key, head_of, is_key, is_no_key, last_from, next_in, prev_from, take_out}

pub other_key : (a j k : ℕ) → (j == k) ≡ false → (a == k) ≡ true → (a == j) ≡ false
other_key a j k e f = grind (arith, nat_tests)

pub same_key : (a k : ℕ) → (a == k) ≡ true → a ≡ k
same_key a k e = grind (arith, nat_tests)

pub own_key : (k : ℕ) → (k == k) ≡ true
own_key k = grind (arith, nat_tests)

pub turned_key : (a k : ℕ) → (a == k) ≡ (k == a)
turned_key a k = grind (arith, nat_tests)

abbrev link_with : Option ℕ → Option ℕ → Link
link_with prev next = record { prev = prev; next = next }

abbrev ends_with : Option ℕ → Option ℕ → Ends
ends_with first last = record { first = first; last = last }

same_link : (p q n m : Option ℕ) → p ≡ q → n ≡ m → link_with p n ≡ link_with q m
same_link p q n m e f = ap (λ (o : Option ℕ). link_with o n) e ∙ ap (link_with q) f

same_ends : (p q n m : Option ℕ) → p ≡ q → n ≡ m → ends_with p n ≡ ends_with q m
same_ends p q n m e f = ap (λ (o : Option ℕ). ends_with o n) e ∙ ap (ends_with q) f

module _ {X : Type 0} (key : X → ℕ) where
  abbrev Apart : X → List X → Type 0
  Apart x xs = (has_key key (key x) xs ≡ false) × (are_distinct key xs ≡ true)

  pub distinct_parts : (x : X) (xs : List X) → are_distinct key (x ∷ xs) ≡ true → Apart x xs
  distinct_parts x xs d = let parts = and_parts (not (has_key key (key x) xs)) (are_distinct key xs) d in (not-true _ parts.0, parts.1)

  has-same : (a k : ℕ) (xs : List X) → (a == k) ≡ true → has_key key a xs ≡ false → has_key key k xs ≡ false
  has-same a k xs e none = subst (λ (n : ℕ). has_key key n xs ≡ false) (same_key a k e) none

  pub out-absent : (k : ℕ) (xs : List X) → has_key key k xs ≡ false → take_out key k xs ≡ xs
  out-absent k [] none = refl
  out-absent k (x ∷ xs) none = let parts = or_parts (key x == k) (has_key key k xs) none in rw parts.0 (ap (λ (ys : List X). x ∷ ys) (out-absent k xs parts.1))

  -- a key that isn't there is nobody's neighbour
  head_not : (j : ℕ) (xs : List X) → has_key key j xs ≡ false → is_key j (head_of key xs) ≡ false
  head_not j [] none = refl
  head_not j (x ∷ xs) none = (or_parts (key x == j) (has_key key j xs) none).0

  pub next_not : (j k : ℕ) (xs : List X) → has_key key j xs ≡ false → is_key j (next_in key k xs) ≡ false
  next_not j k [] none = refl
  next_not j k (x ∷ xs) none = of (key x == k) (next_not j k xs (or_parts (key x == j) (has_key key j xs) none).1)
    where
      of : (b : Bool) → is_key j (next_in key k xs) ≡ false → is_key j (cond b (head_of key xs) (next_in key k xs)) ≡ false
      of true later = head_not j xs (or_parts (key x == j) (has_key key j xs) none).1
      of false later = later

  pub prev_not : (j k : ℕ) (before : Option ℕ) (xs : List X) → is_key j before ≡ false → has_key key j xs ≡ false → is_key j (prev_from key before k xs) ≡ false
  prev_not j k before [] e none = refl
  prev_not j k before (x ∷ xs) e none =
      let parts = or_parts (key x == j) (has_key key j xs) none in
      of (key x == k) (prev_not j k (Some (key x)) xs parts.0 parts.1)
    where
      of : (b : Bool) → is_key j (prev_from key (Some (key x)) k xs) ≡ false → is_key j (cond b before (prev_from key (Some (key x)) k xs)) ≡ false
      of true later = e
      of false later = later

  pub last_not : (j : ℕ) (before : Option ℕ) (xs : List X) → is_key j before ≡ false → has_key key j xs ≡ false → is_key j (last_from key before xs) ≡ false
  last_not j before [] e none = e
  last_not j before (x ∷ xs) e none = let parts = or_parts (key x == j) (has_key key j xs) none in last_not j (Some (key x)) xs parts.0 parts.1

  prev_other : (j k p : ℕ) (xs : List X) → (p == j) ≡ false → is_key j (prev_from key (Some p) k xs) ≡ is_key j (prev_from key None k xs)
  prev_other j k p [] e = refl
  prev_other j k p (x ∷ xs) e = of (key x == k)
    where
      of : (b : Bool) → is_key j (cond b (Some p) (prev_from key (Some (key x)) k xs)) ≡ is_key j (cond b None (prev_from key (Some (key x)) k xs))
      of true = e
      of false = refl

  last_other : (j p : ℕ) (xs : List X) → (p == j) ≡ false → is_key j (last_from key (Some p) xs) ≡ is_key j (last_from key None xs)
  last_other j p [] e = e
  last_other j p (x ∷ xs) e = refl

  some_last : (p : ℕ) (xs : List X) → is_no_key (last_from key (Some p) xs) ≡ false
  some_last p [] = refl
  some_last p (x ∷ xs) = some_last (key x) xs

  some_prev : (p k : ℕ) (xs : List X) → has_key key k xs ≡ true → is_no_key (prev_from key (Some p) k xs) ≡ false
  some_prev p k [] there = cc
  some_prev p k (x ∷ xs) there = of (key x == k) there (λ h. some_prev (key x) k xs h)
    where
      of : (b : Bool) → (b || has_key key k xs) ≡ true → (has_key key k xs ≡ true → is_no_key (prev_from key (Some (key x)) k xs) ≡ false) → is_no_key (cond b (Some p) (prev_from key (Some (key x)) k xs)) ≡ false
      of true h later = refl
      of false h later = later h

  -- the head, behind j, once k has left
  head-out : (j k : ℕ) (xs : List X) → are_distinct key xs ≡ true → has_key key j xs ≡ false → head_of key (take_out key k xs) ≡ cond (is_key j (prev_from key (Some j) k xs)) (next_in key k xs) (head_of key xs)
  head-out j k [] d none = refl
  head-out j k (y ∷ ys) d none = of (key y == k) refl
    where
      apart : Apart y ys
      apart = distinct_parts y ys d

      parts : ((key y == j) ≡ false) × (has_key key j ys ≡ false)
      parts = or_parts (key y == j) (has_key key j ys) none

      of : (b : Bool) → (key y == k) ≡ b → head_of key (take_out key k (y ∷ ys)) ≡ cond (is_key j (prev_from key (Some j) k (y ∷ ys))) (next_in key k (y ∷ ys)) (head_of key (y ∷ ys))
      of true e = rw (e, own_key j) (ap (head_of key) (out-absent k ys (has-same (key y) k ys e apart.0)))
      of false e = rw (e, prev_not j k (Some (key y)) ys parts.0 parts.1) refl

  next-out : (j k : ℕ) (xs : List X) → are_distinct key xs ≡ true → (j == k) ≡ false → next_in key j (take_out key k xs) ≡ cond (is_key j (prev_from key None k xs)) (next_in key k xs) (next_in key j xs)
  next-out j k [] d e = refl
  next-out j k (x ∷ xs) d e = of (key x == k) refl (key x == j) refl (next-out j k xs apart.1 e)
    where
      apart : Apart x xs
      apart = distinct_parts x xs d

      of : (b : Bool) → (key x == k) ≡ b → (c : Bool) → (key x == j) ≡ c → next_in key j (take_out key k xs) ≡ cond (is_key j (prev_from key None k xs)) (next_in key k xs) (next_in key j xs)
          → next_in key j (take_out key k (x ∷ xs)) ≡ cond (is_key j (prev_from key None k (x ∷ xs))) (next_in key k (x ∷ xs)) (next_in key j (x ∷ xs))
      of true f c g later = rw (f, other_key (key x) j k e f) (ap (next_in key j) (out-absent k xs (has-same (key x) k xs f apart.0)))
      of false f true g later = rw (f, g) (subst (λ (n : ℕ). head_of key (take_out key k xs) ≡ cond (is_key j (prev_from key (Some n) k xs)) (next_in key k xs) (head_of key xs)) (sym (same_key (key x) j g)) (head-out j k xs apart.1 (has-same (key x) j xs g apart.0)))
      of false f false g later = rw (f, g, prev_other j k (key x) xs g) later

  head_skipped : (before : Option ℕ) (j p : ℕ) (xs : List X) → prev_from key before j xs ≡ cond (is_key j (head_of key xs)) before (prev_from key (Some p) j xs)
  head_skipped before j p [] = refl
  head_skipped before j p (y ∷ ys) = of (key y == j)
    where
      of : (b : Bool) → cond b before (prev_from key (Some (key y)) j ys) ≡ cond b before (cond b (Some p) (prev_from key (Some (key y)) j ys))
      of true = refl
      of false = refl

  prev-out : (j k : ℕ) (before : Option ℕ) (xs : List X) → are_distinct key xs ≡ true → (j == k) ≡ false → prev_from key before j (take_out key k xs) ≡ cond (is_key j (next_in key k xs)) (prev_from key before k xs) (prev_from key before j xs)
  prev-out j k before [] d e = refl
  prev-out j k before (x ∷ xs) d e = of (key x == k) refl (key x == j) refl (prev-out j k (Some (key x)) xs apart.1 e)
    where
      apart : Apart x xs
      apart = distinct_parts x xs d

      of : (b : Bool) → (key x == k) ≡ b → (c : Bool) → (key x == j) ≡ c → prev_from key (Some (key x)) j (take_out key k xs) ≡ cond (is_key j (next_in key k xs)) (prev_from key (Some (key x)) k xs) (prev_from key (Some (key x)) j xs)
          → prev_from key before j (take_out key k (x ∷ xs)) ≡ cond (is_key j (next_in key k (x ∷ xs))) (prev_from key before k (x ∷ xs)) (prev_from key before j (x ∷ xs))
      of true f c g later = rw (f, other_key (key x) j k e f) (ap (prev_from key before j) (out-absent k xs (has-same (key x) k xs f apart.0)) ∙ head_skipped before j (key x) xs)
      of false f true g later = rw (f, g, next_not j k xs (has-same (key x) j xs g apart.0)) refl
      of false f false g later = rw (f, g) later

  -- the link of j, once k has left
  pub link-out : (j k : ℕ) (xs : List X) → are_distinct key xs ≡ true → (j == k) ≡ false → link_in key j (take_out key k xs) ≡ relinked (link_in key k xs) j (link_in key j xs)
  link-out j k xs d e = same_link _ _ _ _ (prev-out j k None xs d e) (next-out j k xs d e)

  first-out : (k : ℕ) (xs : List X) → are_distinct key xs ≡ true → has_key key k xs ≡ true → head_of key (take_out key k xs) ≡ cond (is_no_key (prev_from key None k xs)) (next_in key k xs) (head_of key xs)
  first-out k [] d there = cc
  first-out k (x ∷ xs) d there = of (key x == k) refl there
    where
      of : (b : Bool) → (key x == k) ≡ b → (b || has_key key k xs) ≡ true → head_of key (take_out key k (x ∷ xs)) ≡ cond (is_no_key (prev_from key None k (x ∷ xs))) (next_in key k (x ∷ xs)) (head_of key (x ∷ xs))
      of true f h = rw f (ap (head_of key) (out-absent k xs (has-same (key x) k xs f (distinct_parts x xs d).0)))
      of false f h = rw (f, some_prev (key x) k xs h) refl

  last_skipped : (before : Option ℕ) (p : ℕ) (xs : List X) → last_from key before xs ≡ cond (is_no_key (head_of key xs)) before (last_from key (Some p) xs)
  last_skipped before p [] = refl
  last_skipped before p (y ∷ ys) = refl

  last-out : (k : ℕ) (before : Option ℕ) (xs : List X) → are_distinct key xs ≡ true → has_key key k xs ≡ true → last_from key before (take_out key k xs) ≡ cond (is_no_key (next_in key k xs)) (prev_from key before k xs) (last_from key before xs)
  last-out k before [] d there = cc
  last-out k before (x ∷ xs) d there = of (key x == k) refl there (λ h. last-out k (Some (key x)) xs (distinct_parts x xs d).1 h)
    where
      of : (b : Bool) → (key x == k) ≡ b → (b || has_key key k xs) ≡ true
          → (has_key key k xs ≡ true → last_from key (Some (key x)) (take_out key k xs) ≡ cond (is_no_key (next_in key k xs)) (prev_from key (Some (key x)) k xs) (last_from key (Some (key x)) xs))
          → last_from key before (take_out key k (x ∷ xs)) ≡ cond (is_no_key (next_in key k (x ∷ xs))) (prev_from key before k (x ∷ xs)) (last_from key before (x ∷ xs))
      of true f h later = rw f (ap (last_from key before) (out-absent k xs (has-same (key x) k xs f (distinct_parts x xs d).0)) ∙ last_skipped before (key x) xs)
      of false f h later = rw f (later h)

  pub ends-out : (k : ℕ) (xs : List X) → are_distinct key xs ≡ true → has_key key k xs ≡ true → ends_of key (take_out key k xs) ≡ unended (link_in key k xs) (ends_of key xs)
  ends-out k xs d there = same_ends _ _ _ _ (first-out k xs d there) (last-out k None xs d there)

  -- one comes behind the last
  prev-append : (j : ℕ) (before : Option ℕ) (xs : List X) (x : X) → (key x == j) ≡ false → prev_from key before j (xs ++ x ∷ []) ≡ prev_from key before j xs
  prev-append j before [] x e = rw e refl
  prev-append j before (y ∷ ys) x e = ap (cond (key y == j) before) (prev-append j (Some (key y)) ys x e)

  head-append : (j : ℕ) (xs : List X) (x : X) → has_key key j xs ≡ false → head_of key (xs ++ x ∷ []) ≡ cond (is_key j (last_from key (Some j) xs)) (Some (key x)) (head_of key xs)
  head-append j [] x none = rw (own_key j) refl
  head-append j (y ∷ ys) x none = let parts = or_parts (key y == j) (has_key key j ys) none in rw (last_not j (Some (key y)) ys parts.0 parts.1) refl

  next-append : (j : ℕ) (xs : List X) (x : X) → are_distinct key xs ≡ true → (key x == j) ≡ false → next_in key j (xs ++ x ∷ []) ≡ cond (is_key j (last_from key None xs)) (Some (key x)) (next_in key j xs)
  next-append j [] x d e = rw e refl
  next-append j (y ∷ ys) x d e = of (key y == j) refl (next-append j ys x (distinct_parts y ys d).1 e)
    where
      of : (b : Bool) → (key y == j) ≡ b → next_in key j (ys ++ x ∷ []) ≡ cond (is_key j (last_from key None ys)) (Some (key x)) (next_in key j ys)
          → next_in key j (y ∷ (ys ++ x ∷ [])) ≡ cond (is_key j (last_from key None (y ∷ ys))) (Some (key x)) (next_in key j (y ∷ ys))
      of true f later = rw f (subst (λ (n : ℕ). head_of key (ys ++ x ∷ []) ≡ cond (is_key j (last_from key (Some n) ys)) (Some (key x)) (head_of key ys)) (sym (same_key (key y) j f)) (head-append j ys x (has-same (key y) j ys f (distinct_parts y ys d).0)))
      of false f later = rw (f, last_other j (key y) ys f) later

  pub link-append : (j : ℕ) (xs : List X) (x : X) → are_distinct key xs ≡ true → (key x == j) ≡ false → link_in key j (xs ++ x ∷ []) ≡ followed (last_from key None xs) (key x) j (link_in key j xs)
  link-append j xs x d e = same_link _ _ _ _ (prev-append j None xs x e) (next-append j xs x d e)

  own_prev : (before : Option ℕ) (xs : List X) (x : X) → has_key key (key x) xs ≡ false → prev_from key before (key x) (xs ++ x ∷ []) ≡ last_from key before xs
  own_prev before [] x none = rw (own_key (key x)) refl
  own_prev before (y ∷ ys) x none = let parts = or_parts (key y == key x) (has_key key (key x) ys) none in rw parts.0 (own_prev (Some (key y)) ys x parts.1)

  own_next : (xs : List X) (x : X) → has_key key (key x) xs ≡ false → next_in key (key x) (xs ++ x ∷ []) ≡ None
  own_next [] x none = rw (own_key (key x)) refl
  own_next (y ∷ ys) x none = let parts = or_parts (key y == key x) (has_key key (key x) ys) none in rw parts.0 (own_next ys x parts.1)

  pub link-own : (xs : List X) (x : X) → has_key key (key x) xs ≡ false → link_in key (key x) (xs ++ x ∷ []) ≡ link_with (last_from key None xs) None
  link-own xs x none = same_link _ _ _ _ (own_prev None xs x none) (own_next xs x none)

  first-append : (xs : List X) (x : X) → head_of key (xs ++ x ∷ []) ≡ cond (is_no_key (last_from key None xs)) (Some (key x)) (head_of key xs)
  first-append [] x = refl
  first-append (y ∷ ys) x = rw (some_last (key y) ys) refl

  last-append : (before : Option ℕ) (xs : List X) (x : X) → last_from key before (xs ++ x ∷ []) ≡ Some (key x)
  last-append before [] x = refl
  last-append before (y ∷ ys) x = last-append (Some (key y)) ys x

  pub ends-append : (xs : List X) (x : X) → ends_of key (xs ++ x ∷ []) ≡ prolonged (key x) (ends_of key xs)
  ends-append xs x = same_ends _ _ _ _ (first-append xs x) (last-append None xs x)

  -- a part of a list whose keys differ
  pub has-filter : (p : X → Bool) (k : ℕ) (xs : List X) → has_key key k xs ≡ false → has_key key k (filter p xs) ≡ false
  has-filter p k [] none = refl
  has-filter p k (x ∷ xs) none = let parts = or_parts (key x == k) (has_key key k xs) none in of (p x) parts.0 (has-filter p k xs parts.1)
    where
      of : (b : Bool) → (key x == k) ≡ false → has_key key k (filter p xs) ≡ false → has_key key k (cond b (x ∷ filter p xs) (filter p xs)) ≡ false
      of true e later = rw e later
      of false e later = later

  pub distinct-filter : (p : X → Bool) (xs : List X) → are_distinct key xs ≡ true → are_distinct key (filter p xs) ≡ true
  distinct-filter p [] d = refl
  distinct-filter p (x ∷ xs) d = let apart = distinct_parts x xs d in of (p x) (has-filter p (key x) xs apart.0) (distinct-filter p xs apart.1)
    where
      of : (b : Bool) → has_key key (key x) (filter p xs) ≡ false → are_distinct key (filter p xs) ≡ true → are_distinct key (cond b (x ∷ filter p xs) (filter p xs)) ≡ true
      of true e later = rw e later
      of false e later = later

  pub distinct-append : (xs : List X) (x : X) → are_distinct key xs ≡ true → has_key key (key x) xs ≡ false → are_distinct key (xs ++ x ∷ []) ≡ true
  distinct-append [] x d none = refl
  distinct-append (y ∷ ys) x d none =
      let apart = distinct_parts y ys d in
      let parts = or_parts (key y == key x) (has_key key (key x) ys) none in
      and_from _ _ (not_from_false _ (absent ys apart.0 (turned_key (key x) (key y) ∙ parts.0))) (distinct-append ys x apart.1 parts.1)
    where
      absent : (zs : List X) → has_key key (key y) zs ≡ false → (key x == key y) ≡ false → has_key key (key y) (zs ++ x ∷ []) ≡ false
      absent [] e f = rw f refl
      absent (z ∷ zs) e f = let parts = or_parts (key z == key y) (has_key key (key y) zs) e in rw parts.0 (absent zs parts.1 f)
