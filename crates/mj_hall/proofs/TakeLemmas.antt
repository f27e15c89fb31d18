-- The first pair of the order is the pair of the flat lists.
use Rattle.std.proofs.Common.{◌≡◌, ℕ, ◌==◌, nat_lt, Bool, true, false, cond, ◌||◌, ◌&&◌, List, [], ◌∷◌, map, Option, Some, None, refl, sym, ◌∙◌, ap, subst, arith}
use Rattle.std.specs.List.{filter, list_all, list_any}
use Rattle.std.specs.Option.{option_map}
use Rattle.std.specs.Str.{bytes_eq}
use Rattle.std.specs.Cmp.Lexicographic.{bytes_decides}
use Rattle.std.proofs.lemmas.Bool.{and_parts, and_from}
use Rattle.std.proofs.lemmas.Bool.Decides.{nat_tests}
use Rattle.mj_counted.specs.declared.index.Index.{Index}
use Rattle.mj_counted.specs.declared.rows.Rows.{Rows}
use Rattle.mj_counted.specs.Names.{key_of}
use Rattle.mj_counted.specs.Pairs.{has_pair, is_below, is_pair}
use Rattle.mj_chain.specs.declared.desk.Desk.{Desk}
use Rattle.mj_chain.specs.Seats.{Seat, are_distinct, found, has_key, seat_key, take_out}
use Rattle.mj_chain.proofs.ListLemmas.{distinct-filter, distinct_parts, out-absent, same_key}
use Rattle.mj_chain.proofs.RowLemmas.{found-key}
use Rattle.mj_queue.specs.declared.request.Request.{Request}
use Rattle.mj_queue.specs.Settling.{given, has_waiter, pair, paired, put_back, serves, take_first}
use Rattle.mj_hall.specs.declared.kept.Queued.{Queued}
use Rattle.mj_hall.specs.declared.kept.Worker.{Worker}
use Rattle.mj_hall.specs.Asking.{of_desk}
use Rattle.mj_hall.specs.Desks.{Desks}
use Rattle.mj_hall.specs.Floor.{labels_rise, requests_of, waiters_of}
use Rattle.mj_hall.specs.Ready.{ReadyBut, first_pair, pair_in}
use Rattle.mj_hall.specs.Serving.{same_bool, workers_at, workers_of}
use Rattle.mj_hall.proofs.ReadyLemmas.{head_found}

number_is : (a n : ℕ) → (a == n) ≡ true → a ≡ n
number_is a n e = grind (arith, nat_tests)

own_number : (n : ℕ) → (n == n) ≡ true
own_number n = grind (arith, nat_tests)

wrong : (A : Type 0) → true ≡ false → A
wrong A e = cc

abbrev with_rest : {Y : Type 0} → Y → List Y → Option (Y × List Y)
with_rest y ys = Some (y, ys)

-- what is found in a list, and in a part of it
module _ {T : Type 0} where
  pub own_found : (s : Seat T) (ss : List (Seat T)) → found s.key (s ∷ ss) ≡ Some s.value
  own_found s ss = rw (own_number s.key) refl

  apart_from : (s : Seat T) (ss : List (Seat T)) (k : ℕ) (v : T) → are_distinct seat_key (s ∷ ss) ≡ true → found k ss ≡ Some v → (s.key == k) ≡ false
  apart_from s ss k v d e = of (s.key == k) refl
    where
      of : (b : Bool) → (s.key == k) ≡ b → (s.key == k) ≡ false
      of true g =
          let there : has_key seat_key s.key ss ≡ true = subst (λ (i : ℕ). has_key seat_key i ss ≡ true) (sym (same_key s.key k g)) (found-key k ss v e) in
          wrong _ (sym there ∙ (distinct_parts seat_key s ss d).0)
      of false g = g

  pub later_found : (s : Seat T) (ss : List (Seat T)) (k : ℕ) (v : T) → are_distinct seat_key (s ∷ ss) ≡ true → found k ss ≡ Some v → found k (s ∷ ss) ≡ Some v
  later_found s ss k v d e = rw (apart_from s ss k v d e) e

  all_at : (q : T → Bool) (k : ℕ) (v : T) (xs : List (Seat T)) → list_all (λ s. q s.value) xs ≡ true → found k xs ≡ Some v → q v ≡ true
  all_at q k v [] all e = cc
  all_at q k v (s ∷ ss) all e = of (s.key == k) e (λ h. all_at q k v ss (and_parts (q s.value) (list_all (λ s. q s.value) ss) all).1 h)
    where
      of : (b : Bool) → cond b (Some s.value) (found k ss) ≡ Some v → (found k ss ≡ Some v → q v ≡ true) → q v ≡ true
      of true h later =
          let same : s.value ≡ v = cc in
          ap q (sym same) ∙ (and_parts (q s.value) (list_all (λ s. q s.value) ss) all).0
      of false h later = later h

  pub found-filter : (q : T → Bool) (k : ℕ) (v : T) (xs : List (Seat T)) → found k xs ≡ Some v → q v ≡ true → found k (filter (λ s. q s.value) xs) ≡ Some v
  found-filter q k v [] e f = cc
  found-filter q k v (s ∷ ss) e f = of (s.key == k) refl e (q s.value) refl (λ h. found-filter q k v ss h f)
    where
      of : (b : Bool) → (s.key == k) ≡ b → cond b (Some s.value) (found k ss) ≡ Some v → (c : Bool) → q s.value ≡ c → (found k ss ≡ Some v → found k (filter (λ s. q s.value) ss) ≡ Some v)
          → found k (cond c (s ∷ filter (λ s. q s.value) ss) (filter (λ s. q s.value) ss)) ≡ Some v
      of true g h true i later = rw g h
      of true g h false i later =
          let same : s.value ≡ v = cc in
          wrong _ (sym f ∙ ap q (sym same) ∙ i)
      of false g h true i later = rw g (later h)
      of false g h false i later = later h

  pub record Kept (q : T → Bool) (k : ℕ) (v : T) (xs : List (Seat T)) : Type 0 where
    pub there : found k xs ≡ Some v
    pub passes : q v ≡ true

  pub filter-found : (q : T → Bool) (k : ℕ) (v : T) (xs : List (Seat T)) → are_distinct seat_key xs ≡ true → found k (filter (λ s. q s.value) xs) ≡ Some v → Kept q k v xs
  filter-found q k v [] d e = cc
  filter-found q k v (s ∷ ss) d e = of (q s.value) refl e (λ h. filter-found q k v ss (distinct_parts seat_key s ss d).1 h)
    where
      rest : Kept q k v ss → Kept q k v (s ∷ ss)
      rest kept = record { there = later_found s ss k v d kept.there; passes = kept.passes }

      first : (b : Bool) → (s.key == k) ≡ b → q s.value ≡ true → cond b (Some s.value) (found k (filter (λ s. q s.value) ss)) ≡ Some v → (found k (filter (λ s. q s.value) ss) ≡ Some v → Kept q k v ss) → Kept q k v (s ∷ ss)
      first true g i h later =
          let same : s.value ≡ v = cc in
          record { there = rw g h; passes = ap q (sym same) ∙ i }
      first false g i h later = rest (later h)

      of : (c : Bool) → q s.value ≡ c → found k (cond c (s ∷ filter (λ s. q s.value) ss) (filter (λ s. q s.value) ss)) ≡ Some v → (found k (filter (λ s. q s.value) ss) ≡ Some v → Kept q k v ss) → Kept q k v (s ∷ ss)
      of true i h later = first (s.key == k) refl i h later
      of false i h later = rest (later h)

  pub filter-filter : (q r : T → Bool) (xs : List (Seat T)) → filter (λ s. q s.value) (filter (λ s. r s.value) xs) ≡ filter (λ s. r s.value && q s.value) xs
  filter-filter q r [] = refl
  filter-filter q r (s ∷ ss) = of (r s.value) (q s.value) refl (filter-filter q r ss)
    where
      of : (b c : Bool) → q s.value ≡ c → filter (λ s. q s.value) (filter (λ s. r s.value) ss) ≡ filter (λ s. r s.value && q s.value) ss
          → filter (λ s. q s.value) (cond b (s ∷ filter (λ s. r s.value) ss) (filter (λ s. r s.value) ss)) ≡ cond (b && c) (s ∷ filter (λ s. r s.value && q s.value) ss) (filter (λ s. r s.value && q s.value) ss)
      of true true e later = rw e (ap (λ (ys : List (Seat T)). s ∷ ys) later)
      of true false e later = rw e later
      of false c e later = later

module _ {T Y : Type 0} (f : T → Y) (p : Y → Bool) where
  abbrev shown : List (Seat T) → List Y
  shown xs = map (λ s. f s.value) xs

  -- the first that passes is the first of those that a test on the rows picks
  first_is : (q : T → Bool) (xs : List (Seat T)) (w : Seat T) (rest : List (Seat T)) → are_distinct seat_key xs ≡ true → ((k : ℕ) (v : T) → found k xs ≡ Some v → p (f v) ≡ q v) → filter (λ s. q s.value) xs ≡ w ∷ rest
      → take_first p (shown xs) ≡ with_rest (f w.value) (shown (take_out seat_key w.key xs))
  first_is q [] w rest d same e = cc
  first_is q (s ∷ ss) w rest d same e = of (q s.value) refl e (λ h. first_is q ss w rest apart.1 (λ k v g. same k v (later_found s ss k v d g)) h)
    where
      apart : (has_key seat_key s.key ss ≡ false) × (are_distinct seat_key ss ≡ true)
      apart = distinct_parts seat_key s ss d

      here : p (f s.value) ≡ q s.value
      here = same s.key s.value (own_found s ss)

      taken : q s.value ≡ true → take_first p (shown (s ∷ ss)) ≡ with_rest (f s.value) (shown (take_out seat_key s.key (s ∷ ss)))
      taken g = rw (here ∙ g, own_number s.key) (ap (λ (ys : List (Seat T)). with_rest (f s.value) (shown ys)) (sym (out-absent seat_key s.key ss apart.0)))

      of : (b : Bool) → q s.value ≡ b → cond b (s ∷ filter (λ s. q s.value) ss) (filter (λ s. q s.value) ss) ≡ w ∷ rest → (filter (λ s. q s.value) ss ≡ w ∷ rest → take_first p (shown ss) ≡ with_rest (f w.value) (shown (take_out seat_key w.key ss)))
          → take_first p (shown (s ∷ ss)) ≡ with_rest (f w.value) (shown (take_out seat_key w.key (s ∷ ss)))
      of true g h later =
          let is : s ≡ w = cc in
          subst (λ (u : Seat T). take_first p (shown (s ∷ ss)) ≡ with_rest (f u.value) (shown (take_out seat_key u.key (s ∷ ss)))) is (taken g)
      of false g h later =
          let other : (s.key == w.key) ≡ false = apart_from s ss w.key w.value d (head_found q ss w rest apart.1 h) in
          rw (here ∙ g, other) (ap (option_map (put_back (f s.value))) (later h))

  -- where none passes none is taken
  none_taken : (xs : List (Seat T)) → are_distinct seat_key xs ≡ true → ((k : ℕ) (v : T) → found k xs ≡ Some v → p (f v) ≡ false) → take_first p (shown xs) ≡ None
  none_taken [] d none = refl
  none_taken (s ∷ ss) d none =
      rw (none s.key s.value (own_found s ss)) (ap (option_map (put_back (f s.value))) (none_taken ss (distinct_parts seat_key s ss d).1 (λ k v g. none k v (later_found s ss k v d g))))

  some_passes : (k : ℕ) (v : T) (xs : List (Seat T)) → found k xs ≡ Some v → p (f v) ≡ true → list_any p (shown xs) ≡ true
  some_passes k v [] e g = cc
  some_passes k v (s ∷ ss) e g = of (s.key == k) e (p (f s.value)) refl (λ h. some_passes k v ss h g)
    where
      of : (b : Bool) → cond b (Some s.value) (found k ss) ≡ Some v → (c : Bool) → p (f s.value) ≡ c → (found k ss ≡ Some v → list_any p (shown ss) ≡ true) → (c || list_any p (shown ss)) ≡ true
      of b h true i later = refl
      of true h false i later =
          let same : s.value ≡ v = cc in
          wrong _ (sym g ∙ ap (λ (u : T). p (f u)) (sym same) ∙ i)
      of false h false i later = later h

  record Passing (xs : List (Seat T)) : Type 0 where
    key : ℕ
    value : T
    there : found key xs ≡ Some value
    passes : p (f value) ≡ true

  passing : (xs : List (Seat T)) → are_distinct seat_key xs ≡ true → list_any p (shown xs) ≡ true → Passing xs
  passing [] d e = cc
  passing (s ∷ ss) d e = of (p (f s.value)) refl e (λ h. passing ss (distinct_parts seat_key s ss d).1 h)
    where
      of : (b : Bool) → p (f s.value) ≡ b → (b || list_any p (shown ss)) ≡ true → (list_any p (shown ss) ≡ true → Passing ss) → Passing (s ∷ ss)
      of true i h later = record { key = s.key; value = s.value; there = own_found s ss; passes = i }
      of false i h later = let found_one = later h in record { key = found_one.key; value = found_one.value; there = later_found s ss found_one.key found_one.value d found_one.there; passes = found_one.passes }

-- the first that passes is the one with the least label
least_first : (p : Request → Bool) (es : List (Seat Queued)) (e : Seat Queued) → are_distinct seat_key es ≡ true → labels_rise es ≡ true → found e.key es ≡ Some e.value → p e.value.request ≡ true
    → ((k : ℕ) (v : Queued) → found k es ≡ Some v → nat_lt v.label e.value.label ≡ true → p v.request ≡ false) → take_first p (requests_of es) ≡ with_rest e.value.request (requests_of (take_out seat_key e.key es))
least_first p [] e d rise at passes others = cc
least_first p (s ∷ ss) e d rise at passes others = of (s.key == e.key) refl at (λ h. least_first p ss e apart.1 parts.1 h passes (λ k v g lt. others k v (later_found s ss k v d g) lt))
  where
    apart : (has_key seat_key s.key ss ≡ false) × (are_distinct seat_key ss ≡ true)
    apart = distinct_parts seat_key s ss d

    parts : (list_all (λ t. nat_lt s.value.label t.value.label) ss ≡ true) × (labels_rise ss ≡ true)
    parts = and_parts (list_all (λ t. nat_lt s.value.label t.value.label) ss) (labels_rise ss) rise

    of : (b : Bool) → (s.key == e.key) ≡ b → cond b (Some s.value) (found e.key ss) ≡ Some e.value → (found e.key ss ≡ Some e.value → take_first p (requests_of ss) ≡ with_rest e.value.request (requests_of (take_out seat_key e.key ss)))
        → take_first p (requests_of (s ∷ ss)) ≡ with_rest e.value.request (requests_of (take_out seat_key e.key (s ∷ ss)))
    of true g h later =
        let same : s.value ≡ e.value = cc in
        let here : p s.value.request ≡ true = ap (λ (v : Queued). p v.request) same ∙ passes in
        let rest : take_out seat_key e.key ss ≡ ss = out-absent seat_key e.key ss (subst (λ (n : ℕ). has_key seat_key n ss ≡ false) (same_key s.key e.key g) apart.0) in
        rw (here, g) (ap (λ (v : Queued). with_rest v.request (requests_of ss)) same ∙ ap (λ (ys : List (Seat Queued)). with_rest e.value.request (requests_of ys)) (sym rest))
    of false g h later =
        let less : nat_lt s.value.label e.value.label ≡ true = all_at (λ (v : Queued). nat_lt s.value.label v.label) e.key e.value ss parts.0 h in
        rw (others s.key s.value (own_found s ss) less, g) (ap (option_map (put_back s.value.request)) (later h))

rise-filter : (q : Queued → Bool) (es : List (Seat Queued)) → labels_rise es ≡ true → labels_rise (filter (λ s. q s.value) es) ≡ true
rise-filter q [] rise = refl
rise-filter q (s ∷ ss) rise = of (q s.value) (rise-filter q ss parts.1)
  where
    parts : (list_all (λ t. nat_lt s.value.label t.value.label) ss ≡ true) × (labels_rise ss ≡ true)
    parts = and_parts (list_all (λ t. nat_lt s.value.label t.value.label) ss) (labels_rise ss) rise

    still : (ys : List (Seat Queued)) → list_all (λ t. nat_lt s.value.label t.value.label) ys ≡ true → list_all (λ t. nat_lt s.value.label t.value.label) (filter (λ s. q s.value) ys) ≡ true
    still [] all = refl
    still (y ∷ ys) all = let both = and_parts (nat_lt s.value.label y.value.label) (list_all (λ t. nat_lt s.value.label t.value.label) ys) all in keep (q y.value) both.0 (still ys both.1)
      where
        keep : (b : Bool) → nat_lt s.value.label y.value.label ≡ true → list_all (λ t. nat_lt s.value.label t.value.label) (filter (λ s. q s.value) ys) ≡ true
            → list_all (λ t. nat_lt s.value.label t.value.label) (cond b (y ∷ filter (λ s. q s.value) ys) (filter (λ s. q s.value) ys)) ≡ true
        keep true e later = and_from _ _ e later
        keep false e later = later

    of : (b : Bool) → labels_rise (filter (λ s. q s.value) ss) ≡ true → labels_rise (cond b (s ∷ filter (λ s. q s.value) ss) (filter (λ s. q s.value) ss)) ≡ true
    of true later = and_from _ _ (still ss parts.0) later
    of false later = later

-- the names of two desks are equal where the desks are
module _ (desks : Rows Desk) (names : Index) (es : List (Seat Queued)) (ws : List (Seat Worker)) (are : Desks desks names es ws) (distinct_es : are_distinct seat_key es ≡ true) (distinct_ws : are_distinct seat_key ws ≡ true) (rise : labels_rise es ≡ true) where
  same_names : (p q : List ℕ) (d : ℕ) → key_of names p ≡ Some d → key_of names q ≡ Some d → bytes_eq p q ≡ true
  same_names p q d e f = (bytes_decides p q).1 (are.one p q d e f)

  same_desks : (p q : List ℕ) (d n : ℕ) → bytes_eq p q ≡ true → key_of names p ≡ Some d → key_of names q ≡ Some n → d ≡ n
  same_desks p q d n g e f =
      let there : key_of names q ≡ Some d = subst (λ (r : List ℕ). key_of names r ≡ Some d) ((bytes_decides p q).0 g) e in
      cc

  pub names_decide : (p q : List ℕ) (m d : ℕ) → key_of names p ≡ Some m → key_of names q ≡ Some d → bytes_eq p q ≡ (m == d)
  names_decide p q m d e f = of (m == d) refl (bytes_eq p q) refl
    where
      of : (b : Bool) → (m == d) ≡ b → (c : Bool) → bytes_eq p q ≡ c → c ≡ b
      of true g true h = refl
      of true g false h = sym h ∙ same_names p q d (e ∙ ap (λ (n : ℕ). Some n) (number_is m d g)) f
      of false g true h =
          let same : m ≡ d = same_desks p q m d h e f in
          let equal : (m == d) ≡ true = subst (λ (n : ℕ). (m == n) ≡ true) same (own_number m) in
          sym equal ∙ g
      of false g false h = refl

  waiting : List (Seat Worker)
  waiting = workers_of false ws

  -- a pair of a desk, with a label that is at most that of a request there
  record PairAt (n label : ℕ) : Type 0 where
    first : ℕ
    is : pair_in es ws n ≡ Some (first, n)
    least : nat_lt label first ≡ false

  pair_some : (k j : ℕ) (u : Worker) (v : Queued) → found k ws ≡ Some u → u.busy ≡ false → found j es ≡ Some v → u.desk ≡ v.desk → PairAt v.desk v.label
  pair_some k j u v at_k idle at_j same = of (workers_at false v.desk ws) refl (of_desk v.desk es) refl
    where
      here : (same_bool false u.busy && (u.desk == v.desk)) ≡ true
      here = ap (λ (b : Bool). same_bool false b && (u.desk == v.desk)) idle ∙ ap (λ (n : ℕ). n == v.desk) same ∙ own_number v.desk

      waits : found k (workers_at false v.desk ws) ≡ Some u
      waits = found-filter (λ (w : Worker). same_bool false w.busy && (w.desk == v.desk)) k u ws at_k here

      asks : found j (of_desk v.desk es) ≡ Some v
      asks = found-filter (λ (e : Queued). e.desk == v.desk) j v es at_j (own_number v.desk)

      of : (xs : List (Seat Worker)) → workers_at false v.desk ws ≡ xs → (ys : List (Seat Queued)) → of_desk v.desk es ≡ ys → PairAt v.desk v.label
      of [] e ys f =
          let there : found k [] ≡ Some u = subst (λ (xs : List (Seat Worker)). found k xs ≡ Some u) e waits in
          cc
      of (x ∷ xs) e [] f =
          let there : found j [] ≡ Some v = subst (λ (ys : List (Seat Queued)). found j ys ≡ Some v) f asks in
          cc
      of (x ∷ xs) e (y ∷ ys) f =
          record {
            first = y.value.label;
            is = ap (λ (zs : List (Seat Worker)). first_pair v.desk zs (of_desk v.desk es)) e ∙ ap (first_pair v.desk (x ∷ xs)) f;
            least = first_least (y.key == j) (subst (λ (zs : List (Seat Queued)). found j zs ≡ Some v) f asks);
          }
        where
          up : labels_rise (y ∷ ys) ≡ true
          up = subst (λ (zs : List (Seat Queued)). labels_rise zs ≡ true) f (rise-filter (λ (e : Queued). e.desk == v.desk) es rise)

          not_less : (n : ℕ) → nat_lt n n ≡ false
          not_less n = grind (arith, nat_tests)

          greater : (n m : ℕ) → nat_lt n m ≡ true → nat_lt m n ≡ false
          greater n m lt = grind (arith, nat_tests)

          first_least : (b : Bool) → cond b (Some y.value) (found j ys) ≡ Some v → nat_lt v.label y.value.label ≡ false
          first_least true h =
              let equal : y.value ≡ v = cc in
              ap (λ (q : Queued). nat_lt v.label q.label) equal ∙ not_less v.label
          first_least false h = greater y.value.label v.label (all_at (λ (q : Queued). nat_lt y.value.label q.label) j v ys (and_parts (list_all (λ t. nat_lt y.value.label t.value.label) ys) (labels_rise ys) up).0 h)

  idle_is : (b : Bool) → same_bool false b ≡ true → b ≡ false
  idle_is true e = cc
  idle_is false e = refl

  -- a request that has a waiting worker has a pair at its desk
  waited_for : (j : ℕ) (v : Queued) → found j es ≡ Some v → has_waiter (waiters_of (workers_of false ws)) v.request ≡ true → PairAt v.desk v.label
  waited_for j v at_j e =
      let one = passing (λ (w : Worker). w.waiter) (serves v.request.service) (workers_of false ws) (distinct-filter seat_key (λ s. same_bool false s.value.busy) ws distinct_ws) e in
      let kept = filter-found (λ (w : Worker). same_bool false w.busy) one.key one.value ws distinct_ws one.there in
      pair_some one.key j one.value v kept.there (idle_is one.value.busy kept.passes) at_j
      (same_desks one.value.waiter.service v.request.service one.value.desk v.desk one.passes (are.served one.key one.value kept.there) (are.asked j v at_j))

  pair_has : (pairs : List (ℕ × ℕ)) → ReadyBut None pairs es ws → (n label : ℕ) → (at : PairAt n label) → has_pair (at.first, n) pairs ≡ true
  pair_has pairs ready n label at = ready (at.first, n) ∙ ap (is_pair (at.first, n)) at.is ∙ both at.first n
    where
      both : (m k : ℕ) → ((m == m) && (k == k)) ≡ true
      both m k = and_from _ _ (own_number m) (own_number k)

  -- where the order is empty there is no pair
  pub no_pair : (pairs : List (ℕ × ℕ)) → ReadyBut None pairs es ws → ((p : ℕ × ℕ) → has_pair p pairs ≡ false) → pair (waiters_of (workers_of false ws)) (requests_of es) ≡ None
  no_pair pairs ready empty = ap (paired (waiters_of (workers_of false ws))) (none_taken (λ (q : Queued). q.request) (has_waiter (waiters_of (workers_of false ws))) es distinct_es (λ k v e. decide k v e (has_waiter (waiters_of (workers_of false ws)) v.request) refl))
    where
      decide : (k : ℕ) (v : Queued) → found k es ≡ Some v → (b : Bool) → has_waiter (waiters_of (workers_of false ws)) v.request ≡ b → has_waiter (waiters_of (workers_of false ws)) v.request ≡ false
      decide k v e true f =
          let at = waited_for k v e f in
          wrong _ (sym (pair_has pairs ready v.desk v.label at) ∙ empty (at.first, v.desk))
      decide k v e false f = f

  -- the least pair of the order is the pair
  pub pair_is : (pairs : List (ℕ × ℕ)) (d : ℕ) (e : Seat Queued) (w : Seat Worker) (later : List (Seat Queued)) (others : List (Seat Worker)) → ReadyBut None pairs es ws → of_desk d es ≡ e ∷ later → workers_at false d ws ≡ w ∷ others
      → ((q : ℕ × ℕ) → is_below q (e.value.label, d) ≡ true → has_pair q pairs ≡ false)
      → pair (waiters_of (workers_of false ws)) (requests_of es) ≡ Some (record { waiter = w.value.waiter; request = e.value.request; waiting = waiters_of (take_out seat_key w.key (workers_of false ws)); requests = requests_of (take_out seat_key e.key es) })
  pair_is pairs d e w later others ready asks waits least =
      ap (paired (waiters_of (workers_of false ws))) (least_first (has_waiter (waiters_of (workers_of false ws))) es e distinct_es rise at_e has none_before)
      ∙ ap (option_map (given (e.value.request, requests_of (take_out seat_key e.key es)))) (first_is (λ (v : Worker). v.waiter) (serves e.value.request.service) (λ (v : Worker). v.desk == d) (workers_of false ws) w others
      (distinct-filter seat_key (λ s. same_bool false s.value.busy) ws distinct_ws) decided (filter-filter (λ (v : Worker). v.desk == d) (λ (v : Worker). same_bool false v.busy) ws ∙ waits))
    where
      at_e : found e.key es ≡ Some e.value
      at_e = head_found (λ (v : Queued). v.desk == d) es e later distinct_es asks

      desk_e : e.value.desk ≡ d
      desk_e = number_is e.value.desk d (filter-found (λ (v : Queued). v.desk == d) e.key e.value es distinct_es (subst (λ (xs : List (Seat Queued)). found e.key xs ≡ Some e.value) (sym asks) (own_found e later))).passes

      named : key_of names e.value.request.service ≡ Some d
      named = are.asked e.key e.value at_e ∙ ap (λ (n : ℕ). Some n) desk_e

      at_w : Kept (λ (v : Worker). same_bool false v.busy && (v.desk == d)) w.key w.value ws
      at_w = filter-found (λ (v : Worker). same_bool false v.busy && (v.desk == d)) w.key w.value ws distinct_ws (subst (λ (xs : List (Seat Worker)). found w.key xs ≡ Some w.value) (sym waits) (own_found w others))

      desk_w : w.value.desk ≡ d
      desk_w = number_is w.value.desk d (and_parts (same_bool false w.value.busy) (w.value.desk == d) at_w.passes).1

      has : has_waiter (waiters_of (workers_of false ws)) e.value.request ≡ true
      has =
          some_passes (λ (v : Worker). v.waiter) (serves e.value.request.service) w.key w.value (workers_of false ws)
          (found-filter (λ (v : Worker). same_bool false v.busy) w.key w.value ws at_w.there (and_parts (same_bool false w.value.busy) (w.value.desk == d) at_w.passes).0)
          (same_names w.value.waiter.service e.value.request.service d (are.served w.key w.value at_w.there ∙ ap (λ (n : ℕ). Some n) desk_w) named)

      lower : (n m k x : ℕ) → nat_lt n m ≡ true → nat_lt n k ≡ false → is_below (k, x) (m, d) ≡ true
      lower n m k x lt ge = grind (arith, nat_tests)

      none_before : (k : ℕ) (v : Queued) → found k es ≡ Some v → nat_lt v.label e.value.label ≡ true → has_waiter (waiters_of (workers_of false ws)) v.request ≡ false
      none_before k v g lt = decide (has_waiter (waiters_of (workers_of false ws)) v.request) refl
        where
          decide : (b : Bool) → has_waiter (waiters_of (workers_of false ws)) v.request ≡ b → has_waiter (waiters_of (workers_of false ws)) v.request ≡ false
          decide true f =
              let at = waited_for k v g f in
              wrong _ (sym (pair_has pairs ready v.desk v.label at) ∙ least (at.first, v.desk) (lower v.label e.value.label at.first v.desk lt at.least))
          decide false f = f

      decided : (k : ℕ) (v : Worker) → found k (workers_of false ws) ≡ Some v → serves e.value.request.service v.waiter ≡ (v.desk == d)
      decided k v g =
          let kept = filter-found (λ (u : Worker). same_bool false u.busy) k v ws distinct_ws g in
          names_decide v.waiter.service e.value.request.service v.desk d (are.served k v kept.there) named
