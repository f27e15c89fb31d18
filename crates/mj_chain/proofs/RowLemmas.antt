-- Rows that are a function of a list: what a row that leaves, or one that comes, changes in them.
use Rattle.std.proofs.Common.{◌≡◌, ℕ, ◌==◌, Bool, true, false, cond, ◌||◌, List, [], ◌∷◌, ◌++◌, append-nil, Option, Some, None, refl, sym, ◌∙◌, ap, subst}
use Rattle.std.specs.List.{filter}
use Rattle.std.specs.Option.{option_map}
use Rattle.std.proofs.lemmas.Bool.{or_parts}
use Rattle.mj_counted.specs.declared.rows.Rows.{Rows}
use Rattle.mj_counted.specs.Rows.{entry}
use Rattle.mj_chain.specs.declared.node.Link.{Link}
use Rattle.mj_chain.specs.declared.node.Node.{Node}
use Rattle.mj_chain.specs.Links.{followed, link_in, relinked}
use Rattle.mj_chain.specs.Nodes.{AreClasses, Classes, IsClass, RowsAre, alike, fresh, joined_by, left_by, node_at}
use Rattle.mj_chain.specs.Seats.{Seat, are_distinct, found, has_key, is_key, last_from, seat_key, take_out}
use Rattle.mj_chain.proofs.ListLemmas.{distinct-filter, distinct_parts, has-filter, last_not, link-append, link-out, link-own, next_not, out-absent, prev_not, same_key, turned_key}

abbrev seat_of : {T : Type 0} → ℕ → T → Seat T
seat_of k v = record { key = k; value = v }

relinked_none : (gone : Link) (j : ℕ) (link : Link) → is_key j gone.prev ≡ false → is_key j gone.next ≡ false → relinked gone j link ≡ link
relinked_none gone j link e f = rw (e, f) refl

followed_none : (last : Option ℕ) (k j : ℕ) (link : Link) → is_key j last ≡ false → followed last k j link ≡ link
followed_none last k j link e = rw e refl

module _ {T : Type 0} where
  pub found-key : (k : ℕ) (xs : List (Seat T)) (v : T) → found k xs ≡ Some v → has_key seat_key k xs ≡ true
  found-key k [] v e = cc
  found-key k (s ∷ ss) v e = of (s.key == k) e (λ h. found-key k ss v h)
    where
      of : (b : Bool) → cond b (Some s.value) (found k ss) ≡ Some v → (found k ss ≡ Some v → has_key seat_key k ss ≡ true) → (b || has_key seat_key k ss) ≡ true
      of true h later = refl
      of false h later = later h

  pub found-absent : (k : ℕ) (xs : List (Seat T)) → has_key seat_key k xs ≡ false → found k xs ≡ None
  found-absent k [] none = refl
  found-absent k (s ∷ ss) none = let parts = or_parts (s.key == k) (has_key seat_key k ss) none in rw parts.0 (found-absent k ss parts.1)

  pub absent-found : (k : ℕ) (xs : List (Seat T)) → found k xs ≡ None → has_key seat_key k xs ≡ false
  absent-found k [] none = refl
  absent-found k (s ∷ ss) none = of (s.key == k) none (λ h. absent-found k ss h)
    where
      of : (b : Bool) → cond b (Some s.value) (found k ss) ≡ None → (found k ss ≡ None → has_key seat_key k ss ≡ false) → (b || has_key seat_key k ss) ≡ false
      of true h later = cc
      of false h later = later h

  -- what is found, once one has left or has come
  pub found-out : (j k : ℕ) (xs : List (Seat T)) → found j (take_out seat_key k xs) ≡ cond (j == k) None (found j xs)
  found-out j k [] = both (j == k)
    where
      both : (b : Bool) → found {T = T} j [] ≡ cond b None (found {T = T} j [])
      both true = refl
      both false = refl
  found-out j k (s ∷ ss) = of (s.key == k) refl (s.key == j) refl (found-out j k ss)
    where
      here : (s.key == k) ≡ true → (s.key == j) ≡ true → (j == k) ≡ true
      here e f = subst (λ (n : ℕ). (n == k) ≡ true) (same_key s.key j f) e

      there : (s.key == k) ≡ false → (s.key == j) ≡ true → (j == k) ≡ false
      there e f = subst (λ (n : ℕ). (n == k) ≡ false) (same_key s.key j f) e

      of : (b : Bool) → (s.key == k) ≡ b → (c : Bool) → (s.key == j) ≡ c → found j (take_out seat_key k ss) ≡ cond (j == k) None (found j ss) → found j (take_out seat_key k (s ∷ ss)) ≡ cond (j == k) None (found j (s ∷ ss))
      of true e true f later = rw e (later ∙ rw (here e f) refl)
      of true e false f later = rw (e, f) later
      of false e true f later = rw (e, f, there e f) refl
      of false e false f later = rw (e, f) later

  pub found-append : (j k : ℕ) (v : T) (xs : List (Seat T)) → has_key seat_key k xs ≡ false → found j (xs ++ seat_of k v ∷ []) ≡ cond (j == k) (Some v) (found j xs)
  found-append j k v [] none = rw (turned_key k j) refl
  found-append j k v (s ∷ ss) none = of (s.key == j) refl (found-append j k v ss parts.1)
    where
      parts : ((s.key == k) ≡ false) × (has_key seat_key k ss ≡ false)
      parts = or_parts (s.key == k) (has_key seat_key k ss) none

      there : (s.key == j) ≡ true → (j == k) ≡ false
      there f = subst (λ (n : ℕ). (n == k) ≡ false) (same_key s.key j f) parts.0

      of : (b : Bool) → (s.key == j) ≡ b → found j (ss ++ seat_of k v ∷ []) ≡ cond (j == k) (Some v) (found j ss) → cond b (Some s.value) (found j (ss ++ seat_of k v ∷ [])) ≡ cond (j == k) (Some v) (cond b (Some s.value) (found j ss))
      of true f later = rw (there f) refl
      of false f later = later

  -- chains
  filter-same : (p q : Seat T → Bool) (xs : List (Seat T)) → ((s : Seat T) → p s ≡ q s) → filter p xs ≡ filter q xs
  filter-same p q [] e = refl
  filter-same p q (s ∷ ss) e = rw (e s, filter-same p q ss e) refl

  pub alike-same : (same : T → T → Bool) → IsClass same → (v w : T) (xs : List (Seat T)) → same v w ≡ true → alike same v xs ≡ alike same w xs
  alike-same same is v w xs e = filter-same (λ s. same v s.value) (λ s. same w s.value) xs (λ s. is.joined v w e s.value)

  pub alike-out : (same : T → T → Bool) (v : T) (k : ℕ) (xs : List (Seat T)) → alike same v (take_out seat_key k xs) ≡ take_out seat_key k (alike same v xs)
  alike-out same v k [] = refl
  alike-out same v k (s ∷ ss) = of (s.key == k) refl (same v s.value) refl (alike-out same v k ss)
    where
      of : (b : Bool) → (s.key == k) ≡ b → (c : Bool) → same v s.value ≡ c → alike same v (take_out seat_key k ss) ≡ take_out seat_key k (alike same v ss) → alike same v (take_out seat_key k (s ∷ ss)) ≡ take_out seat_key k (alike same v (s ∷ ss))
      of true e true f later = rw (e, f, e) later
      of true e false f later = rw (e, f) later
      of false e true f later = rw (e, f, e) (ap (λ (ys : List (Seat T)). s ∷ ys) later)
      of false e false f later = rw (e, f) later

  pub alike-append : (same : T → T → Bool) (v w : T) (k : ℕ) (xs : List (Seat T)) → alike same v (xs ++ seat_of k w ∷ []) ≡ alike same v xs ++ cond (same v w) (seat_of k w ∷ []) []
  alike-append same v w k [] = refl
  alike-append same v w k (s ∷ ss) = of (same v s.value) (alike-append same v w k ss)
    where
      of : (b : Bool) → alike same v (ss ++ seat_of k w ∷ []) ≡ alike same v ss ++ cond (same v w) (seat_of k w ∷ []) []
          → cond b (s ∷ alike same v (ss ++ seat_of k w ∷ [])) (alike same v (ss ++ seat_of k w ∷ [])) ≡ cond b (s ∷ alike same v ss) (alike same v ss) ++ cond (same v w) (seat_of k w ∷ []) []
      of true later = ap (λ (ys : List (Seat T)). s ∷ ys) later
      of false later = later

  -- a key whose value is of another class isn't in the chain
  pub not_in_chain : (same : T → T → Bool) (v w : T) (k : ℕ) (xs : List (Seat T)) → are_distinct seat_key xs ≡ true → found k xs ≡ Some w → same v w ≡ false → has_key seat_key k (alike same v xs) ≡ false
  not_in_chain same v w k [] d is e = refl
  not_in_chain same v w k (s ∷ ss) d is e = of (s.key == k) refl is (same v s.value) refl (λ h. not_in_chain same v w k ss apart.1 h e)
    where
      apart : (has_key seat_key s.key ss ≡ false) × (are_distinct seat_key ss ≡ true)
      apart = distinct_parts seat_key s ss d

      of : (b : Bool) → (s.key == k) ≡ b → cond b (Some s.value) (found k ss) ≡ Some w → (c : Bool) → same v s.value ≡ c → (found k ss ≡ Some w → has_key seat_key k (alike same v ss) ≡ false) → has_key seat_key k (cond c (s ∷ alike same v ss) (alike same v ss)) ≡ false
      of true f h true g later =
          let value : s.value ≡ w = cc in
          let other : same v s.value ≡ false = ap (same v) value ∙ e in
          cc
      of true f h false g later = has-filter seat_key (λ s. same v s.value) k ss (subst (λ (n : ℕ). has_key seat_key n ss ≡ false) (same_key s.key k f) apart.0)
      of false f h true g later = rw f (later h)
      of false f h false g later = later h

  chain-out : (same : T → T → Bool) → IsClass same → (xs : List (Seat T)) (j k : ℕ) (v w : T) → are_distinct seat_key xs ≡ true → found j xs ≡ Some v → found k xs ≡ Some w → (j == k) ≡ false
      → link_in seat_key j (alike same v (take_out seat_key k xs)) ≡ relinked (link_in seat_key k (alike same w xs)) j (link_in seat_key j (alike same v xs))
  chain-out same is xs j k v w d at_j at_k e = ap (link_in seat_key j) (alike-out same v k xs) ∙ of (same v w) refl
    where
      of : (b : Bool) → same v w ≡ b → link_in seat_key j (take_out seat_key k (alike same v xs)) ≡ relinked (link_in seat_key k (alike same w xs)) j (link_in seat_key j (alike same v xs))
      of true f = link-out seat_key j k (alike same v xs) (distinct-filter seat_key (λ s. same v s.value) xs d) e ∙ ap (λ (ys : List (Seat T)). relinked (link_in seat_key k ys) j (link_in seat_key j (alike same v xs))) (alike-same same is v w xs f)
      of false f =
          let absent : has_key seat_key j (alike same w xs) ≡ false = not_in_chain same w v j xs d at_j (is.turned w v ∙ f) in
          ap (link_in seat_key j) (out-absent seat_key k (alike same v xs) (not_in_chain same v w k xs d at_k f))
          ∙ sym (relinked_none (link_in seat_key k (alike same w xs)) j (link_in seat_key j (alike same v xs)) (prev_not seat_key j k None (alike same w xs) refl absent) (next_not seat_key j k (alike same w xs) absent))

  chain-append : (same : T → T → Bool) → IsClass same → (xs : List (Seat T)) (j k : ℕ) (v w : T) → are_distinct seat_key xs ≡ true → found j xs ≡ Some v → (j == k) ≡ false
      → link_in seat_key j (alike same v (xs ++ seat_of k w ∷ [])) ≡ followed (last_from seat_key None (alike same w xs)) k j (link_in seat_key j (alike same v xs))
  chain-append same is xs j k v w d at_j e = ap (link_in seat_key j) (alike-append same v w k xs) ∙ of (same v w) refl
    where
      of : (b : Bool) → same v w ≡ b → link_in seat_key j (alike same v xs ++ cond b (seat_of k w ∷ []) []) ≡ followed (last_from seat_key None (alike same w xs)) k j (link_in seat_key j (alike same v xs))
      of true f = link-append seat_key j (alike same v xs) (seat_of k w) (distinct-filter seat_key (λ s. same v s.value) xs d) (turned_key k j ∙ e) ∙ ap (λ (ys : List (Seat T)). followed (last_from seat_key None ys) k j (link_in seat_key j (alike same v xs))) (alike-same same is v w xs f)
      of false f =
          let absent : has_key seat_key j (alike same w xs) ≡ false = not_in_chain same w v j xs d at_j (is.turned w v ∙ f) in
          ap (link_in seat_key j) (append-nil (alike same v xs))
          ∙ sym (followed_none (last_from seat_key None (alike same w xs)) k j (link_in seat_key j (alike same v xs)) (last_not seat_key j None (alike same w xs) refl absent))

  chain-own : (same : T → T → Bool) → IsClass same → (xs : List (Seat T)) (k : ℕ) (w : T) → has_key seat_key k xs ≡ false → link_in seat_key k (alike same w (xs ++ seat_of k w ∷ [])) ≡ record { prev = last_from seat_key None (alike same w xs); next = None }
  chain-own same is xs k w none =
      ap (link_in seat_key k) (alike-append same w w k xs ∙ ap (λ (b : Bool). alike same w xs ++ cond b (seat_of k w ∷ []) []) (is.own w))
      ∙ link-own seat_key (alike same w xs) (seat_of k w) (has-filter seat_key (λ s. same w s.value) k xs none)

  abbrev node_with : T → Link → Link → Link → Node T
  node_with v a s o = record { value = v; all = a; service = s; origin = o }

  same_node : (v : T) (a b s t o p : Link) → a ≡ b → s ≡ t → o ≡ p → node_with v a s o ≡ node_with v b t p
  same_node v a b s t o p e f g = ap (λ (l : Link). node_with v l s o) e ∙ ap (λ (l : Link). node_with v b l o) f ∙ ap (node_with v b t) g

  -- the rows once row k has left
  pub rows-out : (classes : Classes T) → AreClasses classes → (old new : Rows (Node T)) (xs : List (Seat T)) (k : ℕ) (w : T) → are_distinct seat_key xs ≡ true → found k xs ≡ Some w → RowsAre classes old xs
      → ((j : ℕ) → entry new j ≡ cond (j == k) None (option_map (left_by (node_at classes xs k w) j) (entry old j))) → RowsAre classes new (take_out seat_key k xs)
  rows-out classes are old new xs k w d at_k was changed j = changed j ∙ of (j == k) refl
    where
      later : (o : Option T) → found j xs ≡ o → (j == k) ≡ false → option_map (left_by (node_at classes xs k w) j) (option_map (node_at classes xs j) o) ≡ option_map (node_at classes (take_out seat_key k xs) j) o
      later None f e = refl
      later (Some v) f e =
          ap (λ (n : Node T). Some n) (sym (same_node v _ _ _ _ _ _ (chain-out classes.all are.all xs j k v w d f at_k e) (chain-out classes.service are.service xs j k v w d f at_k e) (chain-out classes.origin are.origin xs j k v w d f at_k e)))

      of : (b : Bool) → (j == k) ≡ b → cond b None (option_map (left_by (node_at classes xs k w) j) (entry old j)) ≡ option_map (node_at classes (take_out seat_key k xs) j) (found j (take_out seat_key k xs))
      of true e =
          let is : found j (take_out seat_key k xs) ≡ None = found-out j k xs ∙ rw e refl in
          ap (option_map (node_at classes (take_out seat_key k xs) j)) (sym is)
      of false e =
          let is : found j (take_out seat_key k xs) ≡ found j xs = found-out j k xs ∙ rw e refl in
          ap (option_map (left_by (node_at classes xs k w) j)) (was j) ∙ later (found j xs) refl e ∙ ap (option_map (node_at classes (take_out seat_key k xs) j)) (sym is)

  -- the rows once row k has come
  pub rows-append : (classes : Classes T) → AreClasses classes → (old new : Rows (Node T)) (xs : List (Seat T)) (k : ℕ) (w : T) → are_distinct seat_key xs ≡ true → has_key seat_key k xs ≡ false → RowsAre classes old xs
      → ((j : ℕ) → entry new j ≡ option_map (joined_by (fresh classes xs w) k j) (cond (j == k) (Some (fresh classes xs w)) (entry old j))) → RowsAre classes new (xs ++ seat_of k w ∷ [])
  rows-append classes are old new xs k w d none was changed j = changed j ∙ of (j == k) refl
    where
      later : (o : Option T) → found j xs ≡ o → (j == k) ≡ false → option_map (joined_by (fresh classes xs w) k j) (option_map (node_at classes xs j) o) ≡ option_map (node_at classes (xs ++ seat_of k w ∷ []) j) o
      later None f e = refl
      later (Some v) f e =
          ap (λ (n : Node T). Some n) (sym (same_node v _ _ _ _ _ _ (chain-append classes.all are.all xs j k v w d f e) (chain-append classes.service are.service xs j k v w d f e) (chain-append classes.origin are.origin xs j k v w d f e)))

      stays : (same : T → T → Bool) (v : T) → (j == k) ≡ true → followed (last_from seat_key None (alike same v xs)) k j (record { prev = last_from seat_key None (alike same v xs); next = None }) ≡ record { prev = last_from seat_key None (alike same v xs); next = None }
      stays same v e =
          let absent : has_key seat_key j xs ≡ false = subst (λ (n : ℕ). has_key seat_key n xs ≡ false) (sym (same_key j k e)) none in
          followed_none (last_from seat_key None (alike same v xs)) k j _ (last_not seat_key j None (alike same v xs) refl (has-filter seat_key (λ s. same v s.value) j xs absent))

      itself : (j == k) ≡ true → Some (joined_by (fresh classes xs w) k j (fresh classes xs w)) ≡ Some (fresh classes xs w)
      itself e = ap (λ (n : Node T). Some n) (same_node w _ _ _ _ _ _ (stays classes.all w e) (stays classes.service w e) (stays classes.origin w e))

      here : (j == k) ≡ true → Some (fresh classes xs w) ≡ Some (node_at classes (xs ++ seat_of k w ∷ []) j w)
      here e =
          ap (λ (n : Node T). Some n) (sym (same_node w _ _ _ _ _ _ (chain-own classes.all are.all xs k w none) (chain-own classes.service are.service xs k w none) (chain-own classes.origin are.origin xs k w none)))
          ∙ ap (λ (n : ℕ). Some (node_at classes (xs ++ seat_of k w ∷ []) n w)) (sym (same_key j k e))

      of : (b : Bool) → (j == k) ≡ b → option_map (joined_by (fresh classes xs w) k j) (cond b (Some (fresh classes xs w)) (entry old j)) ≡ option_map (node_at classes (xs ++ seat_of k w ∷ []) j) (found j (xs ++ seat_of k w ∷ []))
      of true e =
          let is : found j (xs ++ seat_of k w ∷ []) ≡ Some w = found-append j k w xs none ∙ rw e refl in
          itself e ∙ here e ∙ ap (option_map (node_at classes (xs ++ seat_of k w ∷ []) j)) (sym is)
      of false e =
          let is : found j (xs ++ seat_of k w ∷ []) ≡ found j xs = found-append j k w xs none ∙ rw e refl in
          ap (option_map (joined_by (fresh classes xs w) k j)) (was j) ∙ later (found j xs) refl e ∙ ap (option_map (node_at classes (xs ++ seat_of k w ∷ []) j)) (sym is)
