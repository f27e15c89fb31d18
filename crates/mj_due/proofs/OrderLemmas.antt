-- Leases in two orders, once one has left or come.
use Rattle.std.proofs.Common.{◌≡◌, ℕ, ◌+◌, ◌≤◌, ◌<◌, ◌⊎◌, inl, inr, ◌==◌, Bool, true, false, not, cond, ◌||◌, ◌&&◌, List, [], ◌∷◌, Option, Some, None, IfSome, IfNone, is_some, refl, sym, ◌∙◌, ap, subst, arith}
use Rattle.std.specs.Ordering.{nat_cmp, eq_by_cmp}
use Rattle.std.specs.Cmp.{nat_cmp_total}
use Rattle.std.specs.FinMap as map
use Rattle.std.proofs.lemmas.Bool.Decides.{nat_tests}
use Rattle.mj_counted.specs.Pairs.{has_pair, same_pair}
use Rattle.mj_lease.specs.LeaseMap.{LeaseMap}
use Rattle.mj_due.specs.Leases.{AreLeases, deadline_of, is_deadline}

number_is : (a n : ℕ) → (a == n) ≡ true → a ≡ n
number_is a n e = grind (arith, nat_tests)

own_number : (n : ℕ) → (n == n) ≡ true
own_number n = grind (arith, nat_tests)

tie : (a b : ℕ) → eq_by_cmp nat_cmp a b ≡ (a == b)
tie a b = grind (arith, nat_tests)

wrong : (A : Type 0) → true ≡ false → A
wrong A e = cc

pub deadline_is : (d : ℕ) (o : Option ℕ) → is_deadline d o ≡ true → o ≡ Some d
deadline_is d None e = cc
deadline_is d (Some x) e = ap (λ (n : ℕ). Some n) (number_is x d e)

-- what is found is there, and of what is there something is found
find_has : (q d : ℕ) (ps : List (ℕ × ℕ)) → deadline_of q ps ≡ Some d → has_pair (q, d) ps ≡ true
find_has q d [] e = cc
find_has q d (p ∷ ps) e = of (q == p.0) (ap (λ (b : Bool). cond b (Some p.1) (deadline_of q ps)) (sym (tie q p.0)) ∙ e) (λ h. find_has q d ps h)
  where
    or_true : (b : Bool) → (b || true) ≡ true
    or_true true = refl
    or_true false = refl

    of : (b : Bool) → cond b (Some p.1) (deadline_of q ps) ≡ Some d → (deadline_of q ps ≡ Some d → has_pair (q, d) ps ≡ true) → ((b && (d == p.1)) || has_pair (q, d) ps) ≡ true
    of true h later =
        let same : p.1 ≡ d = cc in
        ap (λ (b : Bool). b || has_pair (q, d) ps) (subst (λ (n : ℕ). (n == p.1) ≡ true) same (own_number p.1))
    of false h later = later h

has_find : (q d : ℕ) (ps : List (ℕ × ℕ)) → has_pair (q, d) ps ≡ true → is_some (deadline_of q ps) ≡ true
has_find q d [] e = cc
has_find q d (p ∷ ps) e = ap (λ (b : Bool). is_some (cond b (Some p.1) (deadline_of q ps))) (tie q p.0) ∙ of (q == p.0) e (λ h. has_find q d ps h)
  where
    of : (b : Bool) → ((b && (d == p.1)) || has_pair (q, d) ps) ≡ true → (has_pair (q, d) ps ≡ true → is_some (deadline_of q ps) ≡ true) → is_some (cond b (Some p.1) (deadline_of q ps)) ≡ true
    of true h later = refl
    of false h later = later h

-- a connection's pairs decide its deadline
pub decided : (q : ℕ) (ps : List (ℕ × ℕ)) (o : Option ℕ) → ((d : ℕ) → has_pair (q, d) ps ≡ is_deadline d o) → deadline_of q ps ≡ o
decided q ps o is = of (deadline_of q ps) refl o is
  where
    of : (f : Option ℕ) → deadline_of q ps ≡ f → (o : Option ℕ) → ((d : ℕ) → has_pair (q, d) ps ≡ is_deadline d o) → deadline_of q ps ≡ o
    of None e None is = e
    of None e (Some d) is = wrong _ (sym (has_find q d ps (is d ∙ own_number d)) ∙ ap is_some e)
    of (Some d) e o is = e ∙ sym (deadline_is d o (sym (is d) ∙ find_has q d ps e))

pub none_there : (ps : List (ℕ × ℕ)) → ((p : ℕ × ℕ) → has_pair p ps ≡ false) → ps ≡ []
none_there [] none = refl
none_there (p ∷ ps) none =
    let here : same_pair p p ≡ true = ap (λ (b : Bool). b && (p.1 == p.1)) (own_number p.0) ∙ own_number p.1 in
    let there : has_pair p (p ∷ ps) ≡ true = ap (λ (b : Bool). b || has_pair p ps) here in
    wrong _ (sym there ∙ none p)

-- the key that is found of a connection is its deadline
pub if_deadline : (conn : ℕ) (cs ds : List (ℕ × ℕ)) (o : Option ℕ) → AreLeases cs ds → IfSome o (λ key. has_pair (conn, key) cs ≡ true) → IfNone o ((key : ℕ) → has_pair (conn, key) cs ≡ false) → deadline_of conn cs ≡ o
if_deadline conn cs ds None are some none = decided conn cs None none
if_deadline conn cs ds (Some key) are some none = deadline_is key (deadline_of conn cs) (sym (are.conns conn key) ∙ some)

abbrev Removed : ℕ × ℕ → List (ℕ × ℕ) → List (ℕ × ℕ) → Type 0
Removed pair old new = (p : ℕ × ℕ) → has_pair p new ≡ (not (same_pair p pair) && has_pair p old)

abbrev Added : ℕ × ℕ → List (ℕ × ℕ) → List (ℕ × ℕ) → Type 0
Added pair old new = (p : ℕ × ℕ) → has_pair p new ≡ (same_pair p pair || has_pair p old)

module _ (conn d : ℕ) (cs cs_new ds ds_new : List (ℕ × ℕ)) (are : AreLeases cs ds) where
  abbrev left : ℕ → Option ℕ
  left q = cond (q == conn) None (deadline_of q cs)

  abbrev come : ℕ → Option ℕ
  come q = cond (q == conn) (Some d) (deadline_of q cs)

  module _ (was : deadline_of conn cs ≡ Some d) where
    out : (q e : ℕ) (b : Bool) → (q == conn) ≡ b → (not (b && (e == d)) && is_deadline e (deadline_of q cs)) ≡ is_deadline e (cond b None (deadline_of q cs))
    out q e true f = ap (λ (o : Option ℕ). not (e == d) && is_deadline e o) (ap (λ (n : ℕ). deadline_of n cs) (number_is q conn f) ∙ was) ∙ apart e d
      where
        apart : (a b : ℕ) → (not (a == b) && (b == a)) ≡ false
        apart a b = grind (arith, nat_tests)
    out q e false f = refl

    conn_left : Removed (conn, d) cs cs_new → (q e : ℕ) → has_pair (q, e) cs_new ≡ is_deadline e (left q)
    conn_left changed q e = changed (q, e) ∙ ap (λ (b : Bool). not ((q == conn) && (e == d)) && b) (are.conns q e) ∙ out q e (q == conn) refl

    pub changed_out : Removed (conn, d) cs cs_new → (q : ℕ) → deadline_of q cs_new ≡ left q
    changed_out changed q = decided q cs_new (left q) (λ e. conn_left changed q e)

    pub leases_out : Removed (conn, d) cs cs_new → Removed (d, conn) ds ds_new → AreLeases cs_new ds_new
    leases_out changed_conn changed_deadline = record {
      conns = λ q e. conn_left changed_conn q e ∙ ap (is_deadline e) (sym (changed_out changed_conn q));
      deadlines = λ q e.
          changed_deadline (e, q) ∙ ap (λ (b : Bool). not ((e == d) && (q == conn)) && b) (are.deadlines q e) ∙ ap (λ (b : Bool). not b && is_deadline e (deadline_of q cs)) (turned (e == d) (q == conn)) ∙ out q e (q == conn) refl
          ∙ ap (is_deadline e) (sym (changed_out changed_conn q));
    }
      where
        turned : (b c : Bool) → (b && c) ≡ (c && b)
        turned true true = refl
        turned true false = refl
        turned false true = refl
        turned false false = refl

  module _ (none : deadline_of conn cs ≡ None) where
    add : (q e : ℕ) (b : Bool) → (q == conn) ≡ b → ((b && (e == d)) || is_deadline e (deadline_of q cs)) ≡ is_deadline e (cond b (Some d) (deadline_of q cs))
    add q e true f = ap (λ (o : Option ℕ). (e == d) || is_deadline e o) (ap (λ (n : ℕ). deadline_of n cs) (number_is q conn f) ∙ none) ∙ turned e d
      where
        turned : (a b : ℕ) → ((a == b) || false) ≡ (b == a)
        turned a b = grind (arith, nat_tests)
    add q e false f = refl

    conn_come : Added (conn, d) cs cs_new → (q e : ℕ) → has_pair (q, e) cs_new ≡ is_deadline e (come q)
    conn_come changed q e = changed (q, e) ∙ ap (λ (b : Bool). ((q == conn) && (e == d)) || b) (are.conns q e) ∙ add q e (q == conn) refl

    pub changed_in : Added (conn, d) cs cs_new → (q : ℕ) → deadline_of q cs_new ≡ come q
    changed_in changed q = decided q cs_new (come q) (λ e. conn_come changed q e)

    pub leases_in : Added (conn, d) cs cs_new → Added (d, conn) ds ds_new → AreLeases cs_new ds_new
    leases_in changed_conn changed_deadline = record {
      conns = λ q e. conn_come changed_conn q e ∙ ap (is_deadline e) (sym (changed_in changed_conn q));
      deadlines = λ q e.
          changed_deadline (e, q) ∙ ap (λ (b : Bool). ((e == d) && (q == conn)) || b) (are.deadlines q e) ∙ ap (λ (b : Bool). b || is_deadline e (deadline_of q cs)) (turned (e == d) (q == conn)) ∙ add q e (q == conn) refl
          ∙ ap (is_deadline e) (sym (changed_in changed_conn q));
    }
      where
        turned : (b c : Bool) → (b && c) ≡ (c && b)
        turned true true = refl
        turned true false = refl
        turned false true = refl
        turned false false = refl

    pub free_conn : has_pair (conn, d) cs ≡ false
    free_conn = are.conns conn d ∙ ap (is_deadline d) none

    pub free_deadline : has_pair (d, conn) ds ≡ false
    free_deadline = are.deadlines conn d ∙ ap (is_deadline d) none

-- the map of the pairs by connection
pub map_put : (conn d : ℕ) (cs left new : List (ℕ × ℕ)) → ((q : ℕ) → deadline_of q left ≡ cond (q == conn) None (deadline_of q cs)) → ((q : ℕ) → deadline_of q new ≡ cond (q == conn) (Some d) (deadline_of q left))
    → map.from_entries {R = nat_cmp} new ≡ map.insert (map.from_entries cs) conn d
map_put conn d cs left new out come =
    map.same_map nat_cmp_total map.nat_cmp-IsAntisymmetric _ _
    (λ q. map.get-from_entries nat_cmp_total new q ∙ come q ∙ ap (cond (q == conn) (Some d)) (out q) ∙ of (q == conn) (deadline_of q cs)
    ∙ ap (λ (b : Bool). cond b (Some d) (deadline_of q cs)) (sym (tie q conn))
    ∙ ap (cond (eq_by_cmp nat_cmp q conn) (Some d)) (sym (map.get-from_entries nat_cmp_total cs q))
    ∙ sym (map.get-insert nat_cmp_total (map.from_entries cs) conn d q))
  where
    of : (b : Bool) (o : Option ℕ) → cond b (Some d) (cond b None o) ≡ cond b (Some d) o
    of true o = refl
    of false o = refl

pub map_removed : (conn : ℕ) (cs new : List (ℕ × ℕ)) → ((q : ℕ) → deadline_of q new ≡ cond (q == conn) None (deadline_of q cs)) → map.from_entries {R = nat_cmp} new ≡ map.remove (map.from_entries cs) conn
map_removed conn cs new out =
    map.same_map nat_cmp_total map.nat_cmp-IsAntisymmetric _ _
    (λ q. map.get-from_entries nat_cmp_total new q ∙ out q
    ∙ ap (λ (b : Bool). cond b None (deadline_of q cs)) (sym (tie q conn))
    ∙ ap (cond (eq_by_cmp nat_cmp q conn) None) (sym (map.get-from_entries nat_cmp_total cs q))
    ∙ sym (map.get-remove nat_cmp_total (map.from_entries cs) conn q))

pub map_has : (conn : ℕ) (cs : List (ℕ × ℕ)) → map.contains_key {R = nat_cmp} (map.from_entries cs) conn ≡ is_some (deadline_of conn cs)
map_has conn cs = ap is_some (map.get-from_entries nat_cmp_total cs conn)

pub none_changed : (conn : ℕ) (cs : List (ℕ × ℕ)) → deadline_of conn cs ≡ None → (q : ℕ) → deadline_of q cs ≡ cond (q == conn) None (deadline_of q cs)
none_changed conn cs none q = of (q == conn) refl
  where
    of : (b : Bool) → (q == conn) ≡ b → deadline_of q cs ≡ cond b None (deadline_of q cs)
    of true e = ap (λ (n : ℕ). deadline_of n cs) (number_is q conn e) ∙ none
    of false e = refl

pub has_deadline : (conn d : ℕ) (cs ds : List (ℕ × ℕ)) → AreLeases cs ds → deadline_of conn cs ≡ Some d → has_pair (d, conn) ds ≡ true
has_deadline conn d cs ds are was = are.deadlines conn d ∙ ap (is_deadline d) was ∙ own_number d

-- no leases
pub are_none : (cs ds : List (ℕ × ℕ)) → ((p : ℕ × ℕ) → has_pair p cs ≡ false) → ((p : ℕ × ℕ) → has_pair p ds ≡ false) → AreLeases cs ds
are_none cs ds none_conn none_deadline = record { conns = λ q d. none_conn (q, d) ∙ ap (is_deadline d) (sym (nobody q)); deadlines = λ q d. none_deadline (d, q) ∙ ap (is_deadline d) (sym (nobody q)) }
  where
    nobody : (q : ℕ) → deadline_of q cs ≡ None
    nobody q = decided q cs None (λ d. none_conn (q, d))

pub map_none : (cs : List (ℕ × ℕ)) → ((p : ℕ × ℕ) → has_pair p cs ≡ false) → map.from_entries {X = ℕ} {R = nat_cmp} cs ≡ map.empty
map_none cs none = map.same_map nat_cmp_total map.nat_cmp-IsAntisymmetric _ _ (λ q. map.get-from_entries nat_cmp_total cs q ∙ decided q cs None (λ d. none (q, d)) ∙ sym (map.get-empty nat_cmp q))

abbrev pub seen : List (ℕ × ℕ) → ℕ → LeaseMap
seen cs room = record { leases = map.from_entries cs; spare = room }

-- room for one more where the connection has none
pub room_there : (conn room : ℕ) (cs : List (ℕ × ℕ)) (there : Bool) (old : LeaseMap) → seen cs room ≡ old → there ≡ is_some (deadline_of conn cs) → (map.contains_key old.leases conn ≡ true) ⊎ (0 < old.spare) → there ≡ false → 0 < room
room_there conn room cs there old is value either none = subst (λ (m : LeaseMap). (map.contains_key m.leases conn ≡ true) ⊎ (0 < m.spare) → 0 < room) is (λ e. cases e) either
  where
    cases : (map.contains_key {R = nat_cmp} (map.from_entries cs) conn ≡ true) ⊎ (0 < room) → 0 < room
    cases (inl e) = wrong _ (sym e ∙ map_has conn cs ∙ sym value ∙ none)
    cases (inr e) = e

pub spare_put : (conn room left : ℕ) (cs : List (ℕ × ℕ)) (there : Bool) (old : LeaseMap) → seen cs room ≡ old → there ≡ is_some (deadline_of conn cs) → left + cond there 0 1 ≡ room → old.spare ≤ left + cond (map.contains_key old.leases conn) 0 1
spare_put conn room left cs there old is value room_is = subst (λ (m : LeaseMap). m.spare ≤ left + cond (map.contains_key m.leases conn) 0 1) is (rw (map_has conn cs ∙ sym value) (omega arith))

pub spare_removed : (conn room left : ℕ) (cs : List (ℕ × ℕ)) (there : Bool) (old : LeaseMap) → seen cs room ≡ old → there ≡ is_some (deadline_of conn cs) → left ≡ room + cond there 1 0 → old.spare + cond (map.contains_key old.leases conn) 1 0 ≤ left
spare_removed conn room left cs there old is value room_is = subst (λ (m : LeaseMap). m.spare + cond (map.contains_key m.leases conn) 1 0 ≤ left) is (rw (map_has conn cs ∙ sym value) (omega arith))
