-- The pairs that are due stand in front, and their connections by rising number are those of the map.
use Rattle.std.proofs.Common.{◌≡◌, ℕ, zero, suc, ◌+◌, ◌≤◌, ◌<◌, ◌==◌, nat_le, nat_lt, Bool, true, false, not, cond, ◌||◌, ◌&&◌, T, List, [], ◌∷◌, length, drop, map, slice_get, Option, Some, None, is_some, refl, sym, ◌∙◌, ap, arith, rules}
use Rattle.std.specs.List.{filter, list_all, list_any}
use Rattle.std.specs.Option.{IsSome}
use Rattle.std.specs.Ordering.{nat_cmp, eq_by_cmp, is_lt}
use Rattle.std.specs.Cmp.{nat_cmp_total}
use Rattle.std.specs.declared.cmp.Ordering.{Ordering}
use Rattle.std.specs.declared.cmp.Ordering.TheVariants.{Less, Equal, Greater}
use Rattle.std.specs.FinMap as map
use Rattle.std.specs.FinMap.{FinMap}
use Rattle.std.specs.FinMap.Entries.{below_all, by_order, find, is_sorted, put}
use Rattle.std.proofs.lemmas.Bool.{and_from, and_parts}
use Rattle.std.proofs.lemmas.List.{length-map}
use Rattle.std.proofs.lemmas.Bool.Decides.{nat_tests}
use Rattle.mj_counted.specs.Pairs.{has_pair, is_below, is_rising, same_pair}
use Rattle.mj_lease.specs.LeaseMap.{due_of}
use Rattle.mj_due.specs.Leases.{AreLeases, deadline_of, due_pairs, is_deadline}
use Rattle.mj_due.specs.Numbers.{put_all, put_once}
use Rattle.mj_due.proofs.OrderLemmas.{deadline_is}

wrong : (A : Type 0) → true ≡ false → A
wrong A e = cc

own_number : (n : ℕ) → (n == n) ≡ true
own_number n = grind (arith, nat_tests)

number_is : (a n : ℕ) → (a == n) ≡ true → a ≡ n
number_is a n e = grind (arith, nat_tests)

tie : (a b : ℕ) → eq_by_cmp nat_cmp a b ≡ (a == b)
tie a b = grind (arith, nat_tests)

-- what stands somewhere is due
abbrev pub is_due : ℕ → Option (ℕ × ℕ) → Bool
is_due moment None = false
is_due moment (Some p) = nat_le p.0 moment

later_due : (moment a b c d : ℕ) → nat_le a moment ≡ false → is_below (a, c) (b, d) ≡ true → nat_le b moment ≡ false
later_due moment a b c d e f = grind (arith, nat_tests)

none_due : (moment : ℕ) (p : ℕ × ℕ) (ps : List (ℕ × ℕ)) → nat_le p.0 moment ≡ false → list_all (is_below p) ps ≡ true → due_pairs moment ps ≡ []
none_due moment p [] e all = refl
none_due moment p (q ∷ qs) e all =
    let parts = and_parts (is_below p q) (list_all (is_below p) qs) all in
    rw (later_due moment p.0 q.0 p.1 q.1 e parts.0) (none_due moment p qs e parts.1)

none_less : (n : ℕ) → false ≡ nat_lt n 0
none_less n = grind (arith, nat_tests)

-- a pair is due where its place is among as many as are due
pub walk_due : (moment at : ℕ) (ps : List (ℕ × ℕ)) → is_rising ps ≡ true → is_due moment (slice_get ps at) ≡ nat_lt at (length (due_pairs moment ps))
walk_due moment at [] up = none_less at
walk_due moment at (p ∷ ps) up = of at (nat_le p.0 moment) refl (λ n. walk_due moment n ps parts.1)
  where
    parts : (list_all (is_below p) ps ≡ true) × (is_rising ps ≡ true)
    parts = and_parts (list_all (is_below p) ps) (is_rising ps) up

    more : (n m : ℕ) → nat_lt n m ≡ nat_lt (suc n) (suc m)
    more n m = grind (arith, nat_tests)

    none : (n : ℕ) → nat_lt n 0 ≡ nat_lt (suc n) 0
    none n = grind (arith, nat_tests)

    some : (m : ℕ) → true ≡ nat_lt zero (suc m)
    some m = grind (arith, nat_tests)

    of : (n : ℕ) (b : Bool) → nat_le p.0 moment ≡ b → ((m : ℕ) → is_due moment (slice_get ps m) ≡ nat_lt m (length (due_pairs moment ps))) → is_due moment (slice_get (p ∷ ps) n) ≡ nat_lt n (length (cond b (p ∷ due_pairs moment ps) (due_pairs moment ps)))
    of zero true e later = e ∙ some (length (due_pairs moment ps))
    of zero false e later = e ∙ ap (λ (xs : List (ℕ × ℕ)). nat_lt zero (length xs)) (sym (none_due moment p ps e parts.0))
    of (suc n) true e later = later n ∙ more n (length (due_pairs moment ps))
    of (suc n) false e later = later n ∙ ap (λ (xs : List (ℕ × ℕ)). nat_lt n (length xs)) (none_due moment p ps e parts.0) ∙ none n ∙ ap (λ (xs : List (ℕ × ℕ)). nat_lt (suc n) (length xs)) (sym (none_due moment p ps e parts.0))

pub get_due : (moment at : ℕ) (ps : List (ℕ × ℕ)) → is_rising ps ≡ true → at < length (due_pairs moment ps) → slice_get (due_pairs moment ps) at ≡ slice_get ps at
get_due moment at [] up less = refl
get_due moment at (p ∷ ps) up less = of at (nat_le p.0 moment) refl less (λ n h. get_due moment n ps parts.1 h)
  where
    parts : (list_all (is_below p) ps ≡ true) × (is_rising ps ≡ true)
    parts = and_parts (list_all (is_below p) ps) (is_rising ps) up

    of : (n : ℕ) (b : Bool) → nat_le p.0 moment ≡ b → n < length (cond b (p ∷ due_pairs moment ps) (due_pairs moment ps)) → ((m : ℕ) → m < length (due_pairs moment ps) → slice_get (due_pairs moment ps) m ≡ slice_get ps m)
        → slice_get (cond b (p ∷ due_pairs moment ps) (due_pairs moment ps)) n ≡ slice_get (p ∷ ps) n
    of zero true e h later = refl
    of (suc n) true e h later = later n (omega arith)
    of n false e h later =
        let none : length (due_pairs moment ps) ≡ 0 = ap length (none_due moment p ps e parts.0) in
        absurd (omega arith)

-- the numbers as keys of a map
abbrev keys : List (ℕ × ℕ) → List ℕ
keys es = map (λ e. e.0) es

keys-put : (c d : ℕ) (es : List (ℕ × ℕ)) → keys (put nat_cmp c d es) ≡ put_once c (keys es)
keys-put c d [] = refl
keys-put c d (e ∷ es) = of (nat_cmp c e.0) (keys-put c d es)
  where
    of : (o : Ordering) → keys (put nat_cmp c d es) ≡ put_once c (keys es) → keys (by_order o ((c, d) ∷ e ∷ es) ((e.0, d) ∷ es) (e ∷ put nat_cmp c d es)) ≡ by_order o (c ∷ e.0 ∷ keys es) (e.0 ∷ keys es) (e.0 ∷ put_once c (keys es))
    of Less later = refl
    of Equal later = refl
    of Greater later = ap (λ (xs : List ℕ). e.0 ∷ xs) later

abbrev insert_all : FinMap nat_cmp ℕ → List (ℕ × ℕ) → FinMap nat_cmp ℕ
insert_all m [] = m
insert_all m (p ∷ ps) = insert_all (map.insert m p.1 p.0) ps

put_all-keys : (m : FinMap nat_cmp ℕ) (ps : List (ℕ × ℕ)) → put_all (keys (map.entries m)) ps ≡ keys (map.entries (insert_all m ps))
put_all-keys m [] = refl
put_all-keys m (p ∷ ps) =
    ap (λ (xs : List ℕ). put_all xs ps) (sym (ap keys (map.entries-insert nat_cmp_total m p.1 p.0) ∙ keys-put p.1 p.0 (map.entries m))) ∙ put_all-keys (map.insert m p.1 p.0) ps

abbrev any_of : ℕ → List (ℕ × ℕ) → Bool
any_of q ps = list_any (λ p. p.1 == q) ps

-- what was put in agrees with the deadlines that all have
agrees : (full : ℕ → Option ℕ) (m : FinMap nat_cmp ℕ) (seen : ℕ → Bool) (ps : List (ℕ × ℕ)) → ((q : ℕ) → map.get m q ≡ cond (seen q) (full q) None) → ((p : ℕ × ℕ) → has_pair p ps ≡ true → full p.1 ≡ Some p.0) → (q : ℕ)
    → map.get (insert_all m ps) q ≡ cond (seen q || any_of q ps) (full q) None
agrees full m seen [] is all q = is q ∙ ap (λ (b : Bool). cond b (full q) None) (or_false (seen q))
  where
    or_false : (b : Bool) → b ≡ (b || false)
    or_false true = refl
    or_false false = refl
agrees full m seen (p ∷ ps) is all q =
    agrees full (map.insert m p.1 p.0) (λ n. seen n || (p.1 == n)) ps (λ n. map.get-insert nat_cmp_total m p.1 p.0 n ∙ ap (λ (b : Bool). cond b (Some p.0) (map.get m n)) (tie n p.1) ∙ ap (cond (n == p.1) (Some p.0)) (is n) ∙ one n (n == p.1) refl) (λ r e. all r (behind r e)) q
    ∙ ap (λ (b : Bool). cond b (full q) None) (joined (seen q) (p.1 == q) (any_of q ps))
  where
    joined : (a b c : Bool) → ((a || b) || c) ≡ (a || (b || c))
    joined true b c = refl
    joined false b c = refl

    behind : (r : ℕ × ℕ) → has_pair r ps ≡ true → has_pair r (p ∷ ps) ≡ true
    behind r e = ap (λ (b : Bool). same_pair r p || b) e ∙ or_true (same_pair r p)
      where
        or_true : (b : Bool) → (b || true) ≡ true
        or_true true = refl
        or_true false = refl

    own : same_pair p p ≡ true
    own = ap (λ (b : Bool). b && (p.1 == p.1)) (own_number p.0) ∙ own_number p.1

    here : full p.1 ≡ Some p.0
    here = all p (ap (λ (b : Bool). b || has_pair p ps) own)

    turned : (a b : ℕ) → (a == b) ≡ (b == a)
    turned a b = grind (arith, nat_tests)

    one : (n : ℕ) (b : Bool) → (n == p.1) ≡ b → cond b (Some p.0) (cond (seen n) (full n) None) ≡ cond (seen n || (p.1 == n)) (full n) None
    one n true e = sym here ∙ ap full (sym (number_is n p.1 e)) ∙ ap (λ (b : Bool). cond b (full n) None) (sym (ap (λ (b : Bool). seen n || b) (turned p.1 n ∙ e) ∙ or_true (seen n)))
      where
        or_true : (b : Bool) → (b || true) ≡ true
        or_true true = refl
        or_true false = refl
    one n false e = ap (λ (b : Bool). cond b (full n) None) (sym (ap (λ (b : Bool). seen n || b) (turned p.1 n ∙ e) ∙ or_false (seen n)))
      where
        or_false : (b : Bool) → (b || false) ≡ b
        or_false true = refl
        or_false false = refl

-- the entries that are due
abbrev due_entries : ℕ → List (ℕ × ℕ) → List (ℕ × ℕ)
due_entries moment es = filter (λ e. nat_le e.1 moment) es

both_hold : (a b : Bool) → T (a && b) → T a × T b
both_hold true b h = (tt, h)
both_hold false b h = absurd h

hold_both : (a b : Bool) → T a → T b → T (a && b)
hold_both true b p q = q
hold_both false b p q = absurd p

below-filter : (moment x : ℕ) (es : List (ℕ × ℕ)) → T (below_all nat_cmp x es) → T (below_all nat_cmp x (due_entries moment es))
below-filter moment x [] below = tt
below-filter moment x (e ∷ es) below = of (nat_le e.1 moment) (both_hold (is_lt (nat_cmp x e.0)) (below_all nat_cmp x es) below) (λ h. below-filter moment x es h)
  where
    of : (b : Bool) → T (is_lt (nat_cmp x e.0)) × T (below_all nat_cmp x es) → (T (below_all nat_cmp x es) → T (below_all nat_cmp x (due_entries moment es))) → T (below_all nat_cmp x (cond b (e ∷ due_entries moment es) (due_entries moment es)))
    of true parts later = hold_both _ _ parts.0 (later parts.1)
    of false parts later = later parts.1

sorted-filter : (moment : ℕ) (es : List (ℕ × ℕ)) → T (is_sorted nat_cmp es) → T (is_sorted nat_cmp (due_entries moment es))
sorted-filter moment [] sorted = tt
sorted-filter moment (e ∷ es) sorted = of (nat_le e.1 moment) (both_hold (below_all nat_cmp e.0 es) (is_sorted nat_cmp es) sorted) (λ h. sorted-filter moment es h)
  where
    of : (b : Bool) → T (below_all nat_cmp e.0 es) × T (is_sorted nat_cmp es) → (T (is_sorted nat_cmp es) → T (is_sorted nat_cmp (due_entries moment es))) → T (is_sorted nat_cmp (cond b (e ∷ due_entries moment es) (due_entries moment es)))
    of true parts later = hold_both _ _ (below-filter moment e.0 es parts.0) (later parts.1)
    of false parts later = later parts.1

abbrev if_due : ℕ → Option ℕ → Option ℕ
if_due moment None = None
if_due moment (Some d) = cond (nat_le d moment) (Some d) None

not_below : (q x y : ℕ) → (q == x) ≡ true → T (is_lt (nat_cmp x y)) → (q == y) ≡ false
not_below q x y e lt = grind (arith, nat_tests)

none_found : (moment q x : ℕ) (es : List (ℕ × ℕ)) → (q == x) ≡ true → T (below_all nat_cmp x es) → find nat_cmp q (due_entries moment es) ≡ None
none_found moment q x [] e below = refl
none_found moment q x (p ∷ ps) e below = of (nat_le p.1 moment) (both_hold (is_lt (nat_cmp x p.0)) (below_all nat_cmp x ps) below) (λ h. none_found moment q x ps e h)
  where
    of : (b : Bool) → T (is_lt (nat_cmp x p.0)) × T (below_all nat_cmp x ps) → (T (below_all nat_cmp x ps) → find nat_cmp q (due_entries moment ps) ≡ None) → find nat_cmp q (cond b (p ∷ due_entries moment ps) (due_entries moment ps)) ≡ None
    of true parts later = ap (λ (b : Bool). cond b (Some p.1) (find nat_cmp q (due_entries moment ps))) (tie q p.0 ∙ not_below q x p.0 e parts.0) ∙ later parts.1
    of false parts later = later parts.1

find-filter : (moment q : ℕ) (es : List (ℕ × ℕ)) → T (is_sorted nat_cmp es) → find nat_cmp q (due_entries moment es) ≡ if_due moment (find nat_cmp q es)
find-filter moment q [] sorted = refl
find-filter moment q (p ∷ ps) sorted = of (q == p.0) refl (nat_le p.1 moment) refl (both_hold (below_all nat_cmp p.0 ps) (is_sorted nat_cmp ps) sorted) (λ h. find-filter moment q ps h)
  where
    of : (b : Bool) → (q == p.0) ≡ b → (c : Bool) → nat_le p.1 moment ≡ c → T (below_all nat_cmp p.0 ps) × T (is_sorted nat_cmp ps) → (T (is_sorted nat_cmp ps) → find nat_cmp q (due_entries moment ps) ≡ if_due moment (find nat_cmp q ps))
        → find nat_cmp q (cond c (p ∷ due_entries moment ps) (due_entries moment ps)) ≡ if_due moment (find nat_cmp q (p ∷ ps))
    of true e true f parts later =
        ap (λ (b : Bool). cond b (Some p.1) (find nat_cmp q (due_entries moment ps))) (tie q p.0 ∙ e)
        ∙ sym (ap (λ (b : Bool). if_due moment (cond b (Some p.1) (find nat_cmp q ps))) (tie q p.0 ∙ e) ∙ ap (λ (b : Bool). cond b (Some p.1) None) f)
    of true e false f parts later =
        none_found moment q p.0 ps e parts.0 ∙ sym (ap (λ (b : Bool). if_due moment (cond b (Some p.1) (find nat_cmp q ps))) (tie q p.0 ∙ e) ∙ ap (λ (b : Bool). cond b (Some p.1) None) f)
    of false e true f parts later =
        ap (λ (b : Bool). cond b (Some p.1) (find nat_cmp q (due_entries moment ps))) (tie q p.0 ∙ e) ∙ later parts.1 ∙ sym (ap (λ (b : Bool). if_due moment (cond b (Some p.1) (find nat_cmp q ps))) (tie q p.0 ∙ e))
    of false e false f parts later = later parts.1 ∙ sym (ap (λ (b : Bool). if_due moment (cond b (Some p.1) (find nat_cmp q ps))) (tie q p.0 ∙ e))

-- what is among the pairs that are due
due_there : (moment : ℕ) (p : ℕ × ℕ) (ps : List (ℕ × ℕ)) → has_pair p (due_pairs moment ps) ≡ true → has_pair p ps ≡ true
due_there moment p [] e = cc
due_there moment p (r ∷ rs) e = of (nat_le r.0 moment) e (λ h. due_there moment p rs h)
  where
    or_true : (b : Bool) → (b || true) ≡ true
    or_true true = refl
    or_true false = refl

    first : (b : Bool) → (b || has_pair p (due_pairs moment rs)) ≡ true → (has_pair p (due_pairs moment rs) ≡ true → has_pair p rs ≡ true) → (b || has_pair p rs) ≡ true
    first true h later = refl
    first false h later = later h

    of : (b : Bool) → has_pair p (cond b (r ∷ due_pairs moment rs) (due_pairs moment rs)) ≡ true → (has_pair p (due_pairs moment rs) ≡ true → has_pair p rs ≡ true) → (same_pair p r || has_pair p rs) ≡ true
    of true h later = first (same_pair p r) h later
    of false h later = ap (λ (b : Bool). same_pair p r || b) (later h) ∙ or_true (same_pair p r)

there_due : (moment d q : ℕ) (ps : List (ℕ × ℕ)) → has_pair (d, q) ps ≡ true → nat_le d moment ≡ true → any_of q (due_pairs moment ps) ≡ true
there_due moment d q [] e le = cc
there_due moment d q (r ∷ rs) e le = of (nat_le r.0 moment) refl (same_pair (d, q) r) refl e (λ h. there_due moment d q rs h le)
  where
    or_true : (b : Bool) → (b || true) ≡ true
    or_true true = refl
    or_true false = refl

    turned : (a b : ℕ) → (a == b) ≡ true → (b == a) ≡ true
    turned a b f = grind (arith, nat_tests)

    of : (b : Bool) → nat_le r.0 moment ≡ b → (c : Bool) → same_pair (d, q) r ≡ c → (c || has_pair (d, q) rs) ≡ true → (has_pair (d, q) rs ≡ true → any_of q (due_pairs moment rs) ≡ true) → any_of q (cond b (r ∷ due_pairs moment rs) (due_pairs moment rs)) ≡ true
    of true f true g h later = ap (λ (b : Bool). b || any_of q (due_pairs moment rs)) (turned q r.1 (and_parts (d == r.0) (q == r.1) g).1)
    of true f false g h later = ap (λ (b : Bool). (r.1 == q) || b) (later h) ∙ or_true (r.1 == q)
    of false f true g h later = wrong _ (sym (ap (λ (n : ℕ). nat_le n moment) (sym (number_is d r.0 (and_parts (d == r.0) (q == r.1) g).0)) ∙ le) ∙ f)
    of false f false g h later = later h

due_has : (moment q : ℕ) (ps : List (ℕ × ℕ)) → any_of q (due_pairs moment ps) ≡ true → (d : ℕ) × (has_pair (d, q) ps ≡ true) × (nat_le d moment ≡ true)
due_has moment q [] e = cc
due_has moment q (r ∷ rs) e = of (nat_le r.0 moment) refl e (λ h. due_has moment q rs h)
  where
    Found : List (ℕ × ℕ) → Type 0
    Found xs = (d : ℕ) × (has_pair (d, q) xs ≡ true) × (nat_le d moment ≡ true)

    or_true : (b : Bool) → (b || true) ≡ true
    or_true true = refl
    or_true false = refl

    turned : (a b : ℕ) → (a == b) ≡ true → (b == a) ≡ true
    turned a b f = grind (arith, nat_tests)

    further : Found rs → Found (r ∷ rs)
    further found = (found.0, ap (λ (b : Bool). same_pair (found.0, q) r || b) found.1 ∙ or_true (same_pair (found.0, q) r), found.2)

    first : (b : Bool) → (r.1 == q) ≡ b → nat_le r.0 moment ≡ true → (b || any_of q (due_pairs moment rs)) ≡ true → (any_of q (due_pairs moment rs) ≡ true → Found rs) → Found (r ∷ rs)
    first true f le h later = (r.0, ap (λ (b : Bool). (b && (q == r.1)) || has_pair (r.0, q) rs) (own_number r.0) ∙ ap (λ (b : Bool). b || has_pair (r.0, q) rs) (turned r.1 q f), le)
    first false f le h later = further (later h)

    of : (b : Bool) → nat_le r.0 moment ≡ b → any_of q (cond b (r ∷ due_pairs moment rs) (due_pairs moment rs)) ≡ true → (any_of q (due_pairs moment rs) ≡ true → Found rs) → Found (r ∷ rs)
    of true f h later = first (r.1 == q) refl f h later
    of false f h later = further (later h)

none_entries : map.entries (map.empty {X = ℕ} {R = nat_cmp}) ≡ []
none_entries = ap map.entries (sym empty_is) ∙ map.entries-from_sorted nat_cmp [] tt
  where
    empty_is : map.from_sorted {X = ℕ} {R = nat_cmp} [] ≡ map.empty
    empty_is = map.empty_of_len _ (map.len-entries _ ∙ ap length (map.entries-from_sorted nat_cmp [] tt))

-- the connections of those that are due, by rising number
pub due_is : (moment : ℕ) (cs ds : List (ℕ × ℕ)) → AreLeases cs ds → put_all [] (due_pairs moment ds) ≡ due_of moment (map.from_entries cs)
due_is moment cs ds are =
    ap (λ (xs : List (ℕ × ℕ)). put_all (keys xs) (due_pairs moment ds)) (sym none_entries)
    ∙ put_all-keys map.empty (due_pairs moment ds)
    ∙ ap (λ (m : FinMap nat_cmp ℕ). keys (map.entries m)) same
    ∙ ap keys (map.entries-from_sorted nat_cmp (due_entries moment all) (sorted-filter moment all (map.entries_sorted (map.from_entries cs))))
  where
    all : List (ℕ × ℕ)
    all = map.entries {R = nat_cmp} (map.from_entries cs)

    has : (p : ℕ × ℕ) → has_pair p (due_pairs moment ds) ≡ true → deadline_of p.1 cs ≡ Some p.0
    has p e = deadline_is p.0 (deadline_of p.1 cs) (sym (are.deadlines p.1 p.0) ∙ due_there moment p ds e)

    by_deadline : (q : ℕ) (o : Option ℕ) → deadline_of q cs ≡ o → (b : Bool) → any_of q (due_pairs moment ds) ≡ b → cond b o None ≡ if_due moment o
    by_deadline q None e true f = refl
    by_deadline q None e false f = refl
    by_deadline q (Some d) e true f =
        let one = due_has moment q ds f in
        let there : deadline_of q cs ≡ Some one.0 = deadline_is one.0 (deadline_of q cs) (sym (are.deadlines q one.0) ∙ one.1) in
        let equal : one.0 ≡ d = cc in
        ap (λ (b : Bool). cond b (Some d) None) (sym (ap (λ (n : ℕ). nat_le n moment) (sym equal) ∙ one.2))
    by_deadline q (Some d) e false f = late (nat_le d moment) refl
      where
        late : (b : Bool) → nat_le d moment ≡ b → None ≡ cond b (Some d) None
        late true g = wrong _ (sym (there_due moment d q ds (are.deadlines q d ∙ ap (is_deadline d) e ∙ own_number d) g) ∙ f)
        late false g = refl

    same : insert_all map.empty (due_pairs moment ds) ≡ map.from_sorted (due_entries moment all)
    same =
        map.same_map nat_cmp_total map.nat_cmp-IsAntisymmetric _ _
        (λ q. agrees (λ n. deadline_of n cs) map.empty (λ n. false) (due_pairs moment ds) (λ n. map.get-empty nat_cmp n) has q
        ∙ by_deadline q (deadline_of q cs) refl (any_of q (due_pairs moment ds)) refl
        ∙ ap (if_due moment) (sym (map.get-from_entries nat_cmp_total cs q) ∙ map.get-entries (map.from_entries cs) q)
        ∙ sym (find-filter moment q all (map.entries_sorted (map.from_entries cs)))
        ∙ sym (map.get-from_sorted nat_cmp (due_entries moment all) q (sorted-filter moment all (map.entries_sorted (map.from_entries cs)))))

pub some_due : (moment : ℕ) (o : Option (ℕ × ℕ)) → is_due moment o ≡ true → IsSome o
some_due moment None e = wrong _ (sym e)
some_due moment (Some p) e = search rules

-- the pair at a place, and what is behind it
pub drop_get : (xs : List (ℕ × ℕ)) (at : ℕ) (p : ℕ × ℕ) → slice_get xs at ≡ Some p → drop at xs ≡ p ∷ drop (at + 1) xs
drop_get [] at p e = cc
drop_get (x ∷ xs) at p e = of at e (λ n h. drop_get xs n p h)
  where
    shift : (n : ℕ) → suc (n + 1) ≡ suc n + 1
    shift n = omega arith

    of : (n : ℕ) → slice_get (x ∷ xs) n ≡ Some p → ((m : ℕ) → slice_get xs m ≡ Some p → drop m xs ≡ p ∷ drop (m + 1) xs) → drop n (x ∷ xs) ≡ p ∷ drop (n + 1) (x ∷ xs)
    of zero h later =
        let same : x ≡ p = cc in
        ap (λ (q : ℕ × ℕ). q ∷ xs) same
    of (suc n) h later = later n h ∙ ap (λ (m : ℕ). p ∷ drop m (x ∷ xs)) (shift n)

-- each connection has one pair
abbrev are_single : List (ℕ × ℕ) → Bool
are_single [] = true
are_single (p ∷ ps) = not (any_of p.1 ps) && are_single ps

below_has : (p r : ℕ × ℕ) (ps : List (ℕ × ℕ)) → list_all (is_below p) ps ≡ true → has_pair r ps ≡ true → is_below p r ≡ true
below_has p r [] all e = cc
below_has p r (q ∷ qs) all e =
    let parts = and_parts (is_below p q) (list_all (is_below p) qs) all in
    of (same_pair r q) refl e parts.0 (λ h. below_has p r qs parts.1 h)
  where
    of : (b : Bool) → same_pair r q ≡ b → (b || has_pair r qs) ≡ true → is_below p q ≡ true → (has_pair r qs ≡ true → is_below p r ≡ true) → is_below p r ≡ true
    of true f h below later =
        let parts = and_parts (r.0 == q.0) (r.1 == q.1) f in
        let one : r.0 ≡ q.0 = number_is r.0 q.0 parts.0 in
        let two : r.1 ≡ q.1 = number_is r.1 q.1 parts.1 in
        ap (λ (n : ℕ). is_below p (n, r.1)) one ∙ ap (λ (n : ℕ). is_below p (q.0, n)) two ∙ below
    of false f h below later = later h

single_due : (moment : ℕ) (full : ℕ → Option ℕ) (ps : List (ℕ × ℕ)) → is_rising ps ≡ true → ((p : ℕ × ℕ) → has_pair p ps ≡ true → full p.1 ≡ Some p.0) → are_single (due_pairs moment ps) ≡ true
single_due moment full [] up all = refl
single_due moment full (p ∷ ps) up all = of (nat_le p.0 moment) (single_due moment full ps parts.1 (λ r e. all r (behind r e)))
  where
    parts : (list_all (is_below p) ps ≡ true) × (is_rising ps ≡ true)
    parts = and_parts (list_all (is_below p) ps) (is_rising ps) up

    or_true : (b : Bool) → (b || true) ≡ true
    or_true true = refl
    or_true false = refl

    behind : (r : ℕ × ℕ) → has_pair r ps ≡ true → has_pair r (p ∷ ps) ≡ true
    behind r e = ap (λ (b : Bool). same_pair r p || b) e ∙ or_true (same_pair r p)

    own : same_pair p p ≡ true
    own = ap (λ (b : Bool). b && (p.1 == p.1)) (own_number p.0) ∙ own_number p.1

    not_own : (a b : ℕ) → is_below (a, b) (a, b) ≡ false
    not_own a b = grind (arith, nat_tests)

    fresh : (b : Bool) → any_of p.1 (due_pairs moment ps) ≡ b → any_of p.1 (due_pairs moment ps) ≡ false
    fresh true e =
        let one = due_has moment p.1 ps e in
        let there : full p.1 ≡ Some one.0 = all (one.0, p.1) (behind (one.0, p.1) one.1) in
        let here : full p.1 ≡ Some p.0 = all p (ap (λ (b : Bool). b || has_pair p ps) own) in
        let equal : one.0 ≡ p.0 = cc in
        let below : is_below p (p.0, p.1) ≡ true = ap (λ (n : ℕ). is_below p (n, p.1)) (sym equal) ∙ below_has p (one.0, p.1) ps parts.0 one.1 in
        wrong _ (sym below ∙ not_own p.0 p.1)
    fresh false e = e

    of : (b : Bool) → are_single (due_pairs moment ps) ≡ true → are_single (cond b (p ∷ due_pairs moment ps) (due_pairs moment ps)) ≡ true
    of true later = and_from _ _ (ap not (fresh (any_of p.1 (due_pairs moment ps)) refl)) later
    of false later = later

grows : (m : FinMap nat_cmp ℕ) (ps : List (ℕ × ℕ)) → are_single ps ≡ true → ((q : ℕ) → any_of q ps ≡ true → map.contains_key m q ≡ false) → map.len (insert_all m ps) ≡ map.len m + length ps
grows m [] single free = none (map.len m)
  where
    none : (n : ℕ) → n ≡ n + 0
    none n = omega arith
grows m (p ∷ ps) single free =
    grows (map.insert m p.1 p.0) ps parts.1 (λ q e. ap is_some (map.get-insert nat_cmp_total m p.1 p.0 q ∙ ap (λ (b : Bool). cond b (Some p.0) (map.get m q)) (tie q p.1)) ∙ other q e (q == p.1) refl)
    ∙ ap (λ (n : ℕ). n + length ps) (map.len-insert nat_cmp_total m p.1 p.0 ∙ ap (λ (b : Bool). cond b (map.len m) (map.len m + 1)) (free p.1 (ap (λ (b : Bool). b || any_of p.1 ps) (own_number p.1))))
    ∙ shift (map.len m) (length ps)
  where
    parts : (not (any_of p.1 ps) ≡ true) × (are_single ps ≡ true)
    parts = and_parts (not (any_of p.1 ps)) (are_single ps) single

    shift : (a b : ℕ) → (a + 1) + b ≡ a + suc b
    shift a b = omega arith

    not_true : (b : Bool) → not b ≡ true → b ≡ false
    not_true true e = cc
    not_true false e = refl

    or_true : (b : Bool) → (b || true) ≡ true
    or_true true = refl
    or_true false = refl

    other : (q : ℕ) → any_of q ps ≡ true → (b : Bool) → (q == p.1) ≡ b → is_some (cond b (Some p.0) (map.get m q)) ≡ false
    other q e true f = wrong _ (sym e ∙ ap (λ (n : ℕ). any_of n ps) (number_is q p.1 f) ∙ not_true (any_of p.1 ps) parts.0)
    other q e false f = free q (ap (λ (b : Bool). (p.1 == q) || b) e ∙ or_true (p.1 == q))

-- how many are due, by the order and by the map
pub record Many (moment : ℕ) (ds : List (ℕ × ℕ)) (leases : FinMap nat_cmp ℕ) : Type 0 where
  pub due : length (due_pairs moment ds) ≡ length (due_of moment leases)
  pub all : length (due_pairs moment ds) ≤ map.len leases

filter-le : (moment : ℕ) (es : List (ℕ × ℕ)) → length (due_entries moment es) ≤ length es
filter-le moment [] = omega arith
filter-le moment (e ∷ es) = of (nat_le e.1 moment) (filter-le moment es)
  where
    of : (b : Bool) → length (due_entries moment es) ≤ length es → length (cond b (e ∷ due_entries moment es) (due_entries moment es)) ≤ suc (length es)
    of true later = omega arith
    of false later = omega arith

pub many_due : (moment : ℕ) (cs ds : List (ℕ × ℕ)) → is_rising ds ≡ true → AreLeases cs ds → Many moment ds (map.from_entries cs)
many_due moment cs ds up are =
    let all : List (ℕ × ℕ) = map.entries {R = nat_cmp} (map.from_entries cs) in
    let full = λ (p : ℕ × ℕ) (e : has_pair p ds ≡ true). deadline_is p.0 (deadline_of p.1 cs) (sym (are.deadlines p.1 p.0) ∙ e) in
    let long : map.len (insert_all map.empty (due_pairs moment ds)) ≡ map.len (map.empty {X = ℕ} {R = nat_cmp}) + length (due_pairs moment ds) = grows map.empty (due_pairs moment ds) (single_due moment (λ n. deadline_of n cs) ds up full) (λ q e. ap is_some (map.get-empty nat_cmp q)) in
    let none : map.len (map.empty {X = ℕ} {R = nat_cmp}) ≡ 0 = map.len-empty nat_cmp ℕ in
    let is : length (put_all [] (due_pairs moment ds)) ≡ length (due_of moment (map.from_entries cs)) = ap length (due_is moment cs ds are) in
    let built : length (put_all [] (due_pairs moment ds)) ≡ map.len (insert_all map.empty (due_pairs moment ds)) = ap (λ (xs : List (ℕ × ℕ)). length (put_all (keys xs) (due_pairs moment ds))) (sym none_entries) ∙ ap length (put_all-keys map.empty (due_pairs moment ds)) ∙ length-map (map.entries (insert_all map.empty (due_pairs moment ds))) (λ (e : ℕ × ℕ). e.0) ∙ sym (map.len-entries (insert_all map.empty (due_pairs moment ds))) in
    let few : length (due_entries moment all) ≤ length all = filter-le moment all in
    let entries : length (due_of moment (map.from_entries cs)) ≡ length (due_entries moment all) = length-map (due_entries moment all) (λ (e : ℕ × ℕ). e.0) in
    let whole : map.len {R = nat_cmp} (map.from_entries cs) ≡ length all = map.len-entries (map.from_entries cs) in
    record { due = omega arith; all = omega arith }
