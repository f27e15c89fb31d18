-- Entries in a list by rising number: where one stands, or would stand.
use Rattle.std.proofs.Common.{◌≡◌, ℕ, zero, suc, ◌+◌, ◌≤◌, ◌==◌, nat_le, Bool, true, false, not, cond, ◌||◌, ◌&&◌, T, List, [], ◌∷◌, length, slice_get, slice_set, is_some, Some, refl, sym, ◌∙◌, ap, arith, unwrap_or, None, nat_lt}
use Rattle.std.specs.List.{insert, position, position_or_len}
use Rattle.std.specs.Ordering.{nat_cmp, eq_by_cmp, is_lt}
use Rattle.std.specs.declared.cmp.Ordering.TheVariants.{Less, Equal, Greater}
use Rattle.std.specs.FinMap.Entries.{put, find, is_sorted, below_all}
use Rattle.std.proofs.lemmas.Bool.Decides.{nat_tests}
use Rattle.mj_lease.specs.Entries.{entry_is, has_entry, place_in, without_entry}

cmp_less : (k x : ℕ) → nat_le k x ≡ true → (x == k) ≡ false → nat_cmp k x ≡ Less
cmp_less k x e f = grind (arith, nat_tests)

cmp_equal : (k x : ℕ) → (x == k) ≡ true → nat_cmp k x ≡ Equal
cmp_equal k x e = grind (arith, nat_tests)

cmp_greater : (k x : ℕ) → nat_le k x ≡ false → nat_cmp k x ≡ Greater
cmp_greater k x e = grind (arith, nat_tests)

pub tie : (a b : ℕ) → eq_by_cmp nat_cmp a b ≡ (b == a)
tie a b = grind (arith, nat_tests)

same : (k x : ℕ) → (x == k) ≡ true → x ≡ k
same k x e = grind (arith, nat_tests)

apart : (k x : ℕ) → nat_le k x ≡ false → (x == k) ≡ false
apart k x e = grind (arith, nat_tests)

above : (k x y : ℕ) → nat_le k x ≡ true → T (is_lt (nat_cmp x y)) → (nat_le k y ≡ true) × ((y == k) ≡ false)
above k x y e lt = (grind (arith, nat_tests), grind (arith, nat_tests))

both_hold : (a b : Bool) → T (a && b) → T a × T b
both_hold true b h = (tt, h)
both_hold false b h = absurd h

pub put-there : (k v : ℕ) (es : List (ℕ × ℕ)) → entry_is k (slice_get es (place_in k es)) ≡ true → slice_set es (place_in k es) (k, v) ≡ put nat_cmp k v es
put-there k v [] here = cc
put-there k v (e ∷ es) here =
    elim (nat_le k e.0) as (λ b. nat_le k e.0 ≡ b → entry_is k (slice_get (e ∷ es) (cond b zero (suc (place_in k es)))) ≡ true → slice_set (e ∷ es) (cond b zero (suc (place_in k es))) (k, v) ≡ put nat_cmp k v (e ∷ es)) [
      | true ↦ λ le is. rw (cmp_equal k e.0 is) (ap (λ (x : ℕ). (x, v) ∷ es) (sym (same k e.0 is)))
      | false ↦ λ gt is. rw (cmp_greater k e.0 gt) (ap (λ (xs : List (ℕ × ℕ)). e ∷ xs) (put-there k v es is))
    ] refl here

pub put-missing : (k v : ℕ) (es : List (ℕ × ℕ)) → entry_is k (slice_get es (place_in k es)) ≡ false → insert es (place_in k es) (k, v) ≡ put nat_cmp k v es
put-missing k v [] missing = refl
put-missing k v (e ∷ es) missing =
    elim (nat_le k e.0) as (λ b. nat_le k e.0 ≡ b → entry_is k (slice_get (e ∷ es) (cond b zero (suc (place_in k es)))) ≡ false → insert (e ∷ es) (cond b zero (suc (place_in k es))) (k, v) ≡ put nat_cmp k v (e ∷ es)) [
      | true ↦ λ le is. rw (cmp_less k e.0 le is) refl
      | false ↦ λ gt is. rw (cmp_greater k e.0 gt) (ap (λ (xs : List (ℕ × ℕ)). e ∷ xs) (put-missing k v es is))
    ] refl missing

none_above : (k x : ℕ) (es : List (ℕ × ℕ)) → nat_le k x ≡ true → T (below_all nat_cmp x es) → has_entry k es ≡ false
none_above k x [] le below = refl
none_above k x (e ∷ es) le below =
    let parts : T (is_lt (nat_cmp x e.0)) × T (below_all nat_cmp x es) = both_hold _ _ below in
    rw ((above k x e.0 le parts.0).1) (none_above k x es le parts.1)

pub has-place : (k : ℕ) (es : List (ℕ × ℕ)) → T (is_sorted nat_cmp es) → entry_is k (slice_get es (place_in k es)) ≡ has_entry k es
has-place k [] sorted = refl
has-place k (e ∷ es) sorted =
    let parts : T (below_all nat_cmp e.0 es) × T (is_sorted nat_cmp es) = both_hold _ _ sorted in
    elim (nat_le k e.0) as (λ b. nat_le k e.0 ≡ b → entry_is k (slice_get (e ∷ es) (cond b zero (suc (place_in k es)))) ≡ has_entry k (e ∷ es)) [
      | true ↦ λ le. rw (none_above k e.0 es le parts.0) (or_false (e.0 == k))
      | false ↦ λ gt. rw (apart k e.0 gt) (has-place k es parts.1)
    ] refl
  where
    or_false : (b : Bool) → b ≡ (b || false)
    or_false true = refl
    or_false false = refl

pub place_in-le : (k : ℕ) (es : List (ℕ × ℕ)) → place_in k es ≤ length es
place_in-le k [] = omega arith
place_in-le k (e ∷ es) = elim (nat_le k e.0) as (λ b. cond b zero (suc (place_in k es)) ≤ suc (length es)) [ true ↦ omega arith | false ↦ omega (arith, place_in-le k es) ]

pub place_in-first : (k : ℕ) (es : List (ℕ × ℕ)) → position_or_len (λ e. nat_le k e.0) es ≡ place_in k es
place_in-first k [] = refl
place_in-first k (e ∷ es) =
    elim (nat_le k e.0) as (λ b. cond (not b) (1 + position_or_len (λ e. nat_le k e.0) es) 0 ≡ cond b zero (suc (place_in k es))) [ true ↦ refl | false ↦ omega (arith, place_in-first k es) ]

pub is_some-find : (k : ℕ) (es : List (ℕ × ℕ)) → is_some (find nat_cmp k es) ≡ has_entry k es
is_some-find k [] = refl
is_some-find k (e ∷ es) = rw (tie k e.0) (elim (e.0 == k) as (λ b. is_some (cond b (Some e.1) (find nat_cmp k es)) ≡ (b || has_entry k es)) [ true ↦ refl | false ↦ is_some-find k es ])

pub fewer : (k : ℕ) (es : List (ℕ × ℕ)) → length (without_entry k es) + cond (has_entry k es) 1 0 ≤ length es
fewer k [] = omega arith
fewer k (e ∷ es) =
    elim (e.0 == k) as (λ b. length (cond (not b) (e ∷ without_entry k es) (without_entry k es)) + cond (b || has_entry k es) 1 0 ≤ suc (length es)) [
      | true ↦ no_more (has_entry k es) (fewer k es)
      | false ↦ omega (arith, fewer k es)
    ]
  where
    no_more : (b : Bool) → length (without_entry k es) + cond b 1 0 ≤ length es → length (without_entry k es) + 1 ≤ suc (length es)
    no_more true h = omega arith
    no_more false h = omega arith

-- the place, where it is looked for from the front
pub first-place : (k : ℕ) (es : List (ℕ × ℕ)) → unwrap_or (position (λ e. nat_le k e.0) es) (length es) ≡ place_in k es
first-place k es = of (nat_lt (position_or_len (λ e. nat_le k e.0) es) (length es)) refl
  where
    of : (b : Bool) → nat_lt (position_or_len (λ e. nat_le k e.0) es) (length es) ≡ b → unwrap_or (cond b (Some (position_or_len (λ e. nat_le k e.0) es)) None) (length es) ≡ place_in k es
    of true is = place_in-first k es
    of false is = grind (arith, nat_tests, place_in-first k es, place_in-le k es)

-- what was read at a place, and what that says of the list
pub record Looked (k : ℕ) (es : List (ℕ × ℕ)) (at : ℕ) (found : Bool) : Type 0 where
  pub place : at ≡ place_in k es
  pub entry : entry_is k (slice_get es (place_in k es)) ≡ found

pub looked : (k at : ℕ) (es read read_again : List (ℕ × ℕ)) (answer found : Bool) → read ≡ es → at ≡ place_in k read → read_again ≡ es → answer ≡ entry_is k (slice_get read_again at) → answer ≡ found → Looked k es at found
looked k at es read read_again answer found same_read at_is same_again answer_is is =
    let place : at ≡ place_in k es = at_is ∙ ap (place_in k) same_read in
    record {
      place = place;
      entry = ap (λ (i : ℕ). entry_is k (slice_get es i)) (sym place) ∙ ap (λ (xs : List (ℕ × ℕ)). entry_is k (slice_get xs at)) (sym same_again) ∙ sym answer_is ∙ is;
    }
