-- The map of a list of entries by rising number.
use Rattle.std.proofs.Common.{◌≡◌, ℕ, zero, suc, drop, append-nil, nat_le, ◌∷◌, ◌++◌, Vec, Global, vec_len, vec_capacity, ◌+◌, ◌-◌, ◌≤◌, ◌<◌, ◌==◌, ◌⊎◌, inl, inr, Bool, true, false, not, cond, T, List, [], length, is_some, Option, None, refl, sym, ◌∙◌, ap, subst, arith}
use Rattle.std.specs.Ordering.{nat_cmp, eq_by_cmp}
use Rattle.std.specs.Cmp.{nat_cmp_total}
use Rattle.std.proofs.lemmas.Bool.Decides.{nat_tests}
use Rattle.std.specs.FinMap as map
use Rattle.std.specs.FinMap.Entries.{put, find, is_sorted, is_sorted-put, is_sorted-where_key, find-where_key}
use Rattle.mj_lease.specs.LeaseMap.{LeaseMap, due_of}
use Rattle.mj_lease.specs.Entries.{due_entries, has_entry, numbers, without_entry}
use Rattle.mj_lease.proofs.EntryLemmas.{tie, is_some-find}

pub map_of_none : map.from_sorted {X = ℕ} {R = nat_cmp} [] ≡ map.empty
map_of_none = map.empty_of_len _ (map.len-entries _ ∙ ap length (map.entries-from_sorted nat_cmp [] tt))

pub sorted-put : (k v : ℕ) (es : List (ℕ × ℕ)) → T (is_sorted nat_cmp es) → T (is_sorted nat_cmp (put nat_cmp k v es))
sorted-put k v es sorted = is_sorted-put nat_cmp nat_cmp_total k v es sorted

pub map-put : (k v : ℕ) (es : List (ℕ × ℕ)) → T (is_sorted nat_cmp es) → map.from_sorted {R = nat_cmp} (put nat_cmp k v es) ≡ map.insert (map.from_sorted es) k v
map-put k v es sorted =
    map.same_entries_map _ _
    (map.entries-from_sorted nat_cmp (put nat_cmp k v es) (sorted-put k v es sorted)
    ∙ sym (map.entries-insert nat_cmp_total (map.from_sorted es) k v ∙ ap (put nat_cmp k v) (map.entries-from_sorted nat_cmp es sorted)))

pub sorted-without : (k : ℕ) (es : List (ℕ × ℕ)) → T (is_sorted nat_cmp es) → T (is_sorted nat_cmp (without_entry k es))
sorted-without k es sorted = is_sorted-where_key nat_cmp (λ x. not (x == k)) es sorted

turned : (b : Bool) (o : Option ℕ) → cond (not b) o None ≡ cond b None o
turned true o = refl
turned false o = refl

pub map-without : (k : ℕ) (es : List (ℕ × ℕ)) → T (is_sorted nat_cmp es) → map.from_sorted {R = nat_cmp} (without_entry k es) ≡ map.remove (map.from_sorted es) k
map-without k es sorted =
    map.same_map nat_cmp_total map.nat_cmp-IsAntisymmetric _ _
    (λ q. map.get-from_sorted nat_cmp (without_entry k es) q (sorted-without k es sorted)
    ∙ find-where_key nat_cmp (λ x. not (x == k)) q (λ x e. ap (λ y. not (y == k)) (sym (map.nat_cmp-IsAntisymmetric q x e))) es
    ∙ turned (q == k) (find nat_cmp q es)
    ∙ ap (λ b. cond b None (find nat_cmp q es)) (sym (tie k q) ∙ turn_round k q)
    ∙ sym (map.get-remove nat_cmp_total (map.from_sorted es) k q ∙ ap (cond (eq_by_cmp nat_cmp q k) None) (map.get-from_sorted nat_cmp es q sorted)))
  where
    turn_round : (a b : ℕ) → eq_by_cmp nat_cmp a b ≡ eq_by_cmp nat_cmp b a
    turn_round a b = grind (arith, nat_tests)

pub contains-entry : (k : ℕ) (es : List (ℕ × ℕ)) → T (is_sorted nat_cmp es) → map.contains_key {R = nat_cmp} (map.from_sorted es) k ≡ has_entry k es
contains-entry k es sorted = ap is_some (map.get-from_sorted nat_cmp es k sorted) ∙ is_some-find k es

pub len-entries : (es : List (ℕ × ℕ)) → T (is_sorted nat_cmp es) → map.len {R = nat_cmp} (map.from_sorted es) ≡ length es
len-entries es sorted = map.len-entries _ ∙ ap length (map.entries-from_sorted nat_cmp es sorted)

pub due-entries : (moment : ℕ) (es : List (ℕ × ℕ)) → T (is_sorted nat_cmp es) → due_of moment (map.from_sorted es) ≡ numbers (due_entries moment es)
due-entries moment es sorted = ap (λ (xs : List (ℕ × ℕ)). numbers (due_entries moment xs)) (map.entries-from_sorted nat_cmp es sorted)

-- the view of a list of entries with this much room
abbrev pub seen : List (ℕ × ℕ) → ℕ → LeaseMap
seen es spare = record { leases = map.from_sorted es; spare = spare }

pub has_room : (k : ℕ) (es : List (ℕ × ℕ)) (capacity len : ℕ) (old : LeaseMap) → T (is_sorted nat_cmp es) → seen es (capacity - len) ≡ old
    → (map.contains_key old.leases k ≡ true) ⊎ (0 < old.spare) → (has_entry k es ≡ true) ⊎ (len < capacity)
has_room k es capacity len old sorted is =
    subst (λ (m : LeaseMap). (map.contains_key m.leases k ≡ true) ⊎ (0 < m.spare) → (has_entry k es ≡ true) ⊎ (len < capacity)) is (λ either. cases either)
  where
    cases : (map.contains_key {R = nat_cmp} (map.from_sorted es) k ≡ true) ⊎ (0 < capacity - len) → (has_entry k es ≡ true) ⊎ (len < capacity)
    cases (inl there) = inl (sym (contains-entry k es sorted) ∙ there)
    cases (inr spare) = inr (omega arith)

pub spare-put : (k : ℕ) (es : List (ℕ × ℕ)) (capacity len grown longer : ℕ) (old : LeaseMap) → T (is_sorted nat_cmp es) → seen es (capacity - len) ≡ old
    → longer ≡ len + cond (has_entry k es) 0 1 → capacity ≤ grown → old.spare ≤ grown - longer + cond (map.contains_key old.leases k) 0 1
spare-put k es capacity len grown longer old sorted is added more =
    subst (λ (m : LeaseMap). m.spare ≤ grown - longer + cond (map.contains_key m.leases k) 0 1) is
    (rw (contains-entry k es sorted) (counted (has_entry k es) added))
  where
    counted : (b : Bool) → longer ≡ len + cond b 0 1 → capacity - len ≤ grown - longer + cond b 0 1
    counted true e = omega arith
    counted false e = omega arith

pub spare-without : (k : ℕ) (es : List (ℕ × ℕ)) (capacity len shorter : ℕ) (old : LeaseMap) → T (is_sorted nat_cmp es) → seen es (capacity - len) ≡ old → len ≤ capacity
    → shorter + cond (has_entry k es) 1 0 ≤ len → old.spare + cond (map.contains_key old.leases k) 1 0 ≤ capacity - shorter
spare-without k es capacity len shorter old sorted is fits fewer =
    subst (λ (m : LeaseMap). m.spare + cond (map.contains_key m.leases k) 1 0 ≤ capacity - shorter) is
    (rw (contains-entry k es sorted) (counted (has_entry k es) fewer))
  where
    counted : (b : Bool) → shorter + cond b 1 0 ≤ len → capacity - len + cond b 1 0 ≤ capacity - shorter
    counted true e = omega arith
    counted false e = omega arith

length-numbers : (es : List (ℕ × ℕ)) → length (numbers es) ≡ length es
length-numbers [] = refl
length-numbers (e ∷ es) = ap (λ (n : ℕ). suc n) (length-numbers es)

due-le : (moment : ℕ) (es : List (ℕ × ℕ)) → length (due_entries moment es) ≤ length es
due-le moment [] = omega arith
due-le moment (e ∷ es) =
    elim (nat_le e.1 moment) as (λ b. length (cond b (e ∷ due_entries moment es) (due_entries moment es)) ≤ suc (length es)) [ true ↦ omega (arith, due-le moment es) | false ↦ omega (arith, due-le moment es) ]

-- how many are due, by the entries and by the map
pub record Counted (moment : ℕ) (es : List (ℕ × ℕ)) (old : LeaseMap) : Type 0 where
  pub due : length (due_entries moment es) ≡ length (due_of moment old.leases)
  pub all : length (due_entries moment es) ≤ map.len old.leases

pub counted : (moment : ℕ) (es : List (ℕ × ℕ)) (spare : ℕ) (old : LeaseMap) → T (is_sorted nat_cmp es) → seen es spare ≡ old → Counted moment es old
counted moment es spare old sorted is =
    subst (λ (m : LeaseMap). Counted moment es m) is
    (record {
      due = sym (ap length (due-entries moment es sorted) ∙ length-numbers (due_entries moment es));
      all = omega (arith, due-le moment es, len-entries es sorted);
    })

-- of the entries that are due, those that are left, and what was put so far
pub record IsPut (before now : Vec ℕ Global) (due left : List (ℕ × ℕ)) : Type 0 where
  pub items : now.items ++ numbers left ≡ before.items ++ numbers due
  pub room : vec_len now + length left ≤ vec_capacity now

nothing_left : (n : ℕ) (es : List (ℕ × ℕ)) → length es ≤ n → drop n es ≡ []
nothing_left zero [] h = refl
nothing_left zero (e ∷ es) h = absurd (omega arith)
nothing_left (suc n) [] h = refl
nothing_left (suc n) (e ∷ es) h = nothing_left n es (omega arith)

-- at the end of the list all that are due were put
pub all-put : (moment at spare : ℕ) (es read : List (ℕ × ℕ)) (old : LeaseMap) (before reserved after : List ℕ) → T (is_sorted nat_cmp es) → seen es spare ≡ old → read ≡ es → length read ≤ at
    → after ++ numbers (due_entries moment (drop at read)) ≡ reserved ++ numbers (due_entries moment read) → reserved ≡ before → after ≡ before ++ due_of moment old.leases
all-put moment at spare es read old before reserved after sorted is same end put_is kept =
    sym (append-nil after)
    ∙ ap (λ (xs : List (ℕ × ℕ)). after ++ numbers (due_entries moment xs)) (sym (nothing_left at read end))
    ∙ put_is
    ∙ ap (λ (xs : List ℕ). xs ++ numbers (due_entries moment read)) kept
    ∙ ap (λ (xs : List (ℕ × ℕ)). before ++ numbers (due_entries moment xs)) same
    ∙ ap (λ (xs : List ℕ). before ++ xs) (sym (due-entries moment es sorted) ∙ ap (λ (m : LeaseMap). due_of moment m.leases) is)
