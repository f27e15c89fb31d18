-- The requests of a hall, once one leaves or comes.
use Rattle.std.proofs.Common.{◌≡◌, ℕ, suc, ◌+◌, ◌==◌, Bool, true, false, not, cond, ◌||◌, ◌&&◌, List, [], ◌∷◌, ◌++◌, length, length-append, append-nil, Option, Some, None, IfSome, IfNone, refl, sym, ◌∙◌, ap, subst, arith}
use Rattle.std.specs.List.{filter}
use Rattle.std.specs.Option.{option_map}
use Rattle.std.proofs.lemmas.Bool.Decides.{nat_tests}
use Rattle.mj_counted.specs.declared.rows.Rows.{Rows}
use Rattle.mj_counted.specs.Rows.{entries, entry}
use Rattle.mj_counted.specs.Pairs.{has_pair}
use Rattle.mj_chain.specs.declared.node.Ends.{Ends}
use Rattle.mj_chain.specs.declared.node.Node.{Node}
use Rattle.mj_chain.specs.Nodes.{AreClasses, fresh, joined_by, left_by, node_at}
use Rattle.mj_chain.specs.Seats.{Seat, are_distinct, found, has_key, head_of, is_key, is_no_key, last_from, next_in, prev_from, seat_key, take_out}
use Rattle.mj_chain.proofs.ListLemmas.{distinct-append, distinct-filter, distinct_parts, ends-append, ends-out, out-absent, same_key}
use Rattle.mj_chain.proofs.RowLemmas.{absent-found, alike-append, alike-out, found-key, not_in_chain, rows-append, rows-out}
use Rattle.mj_queue.specs.declared.request.Origin.{Origin}
use Rattle.mj_queue.specs.declared.request.Origin.TheVariants.{Client, Ticket}
use Rattle.mj_hall.specs.declared.kept.Queued.{Queued}
use Rattle.mj_hall.specs.Asking.{Asking, HasLast, has_origin, of_desk, of_origin, queued_classes, same_origin}
use Rattle.mj_hall.proofs.LastLemmas.{last_found}

abbrev seat_of : {T : Type 0} → ℕ → T → Seat T
seat_of k v = record { key = k; value = v }

pub last_is : (make : ℕ → Origin) (origin : Origin) (n : ℕ) (found : Option ℕ) (pairs : List (ℕ × ℕ)) (es : List (Seat Queued)) → origin ≡ make n → IfSome found (λ k. has_pair (n, k) pairs ≡ true) → IfNone found ((k : ℕ) → has_pair (n, k) pairs ≡ false)
    → HasLast make pairs es → found ≡ last_from seat_key None (of_origin origin es)
last_is make origin n found pairs es is some none has =
    last_found found (last_from seat_key None (of_origin (make n) es)) n pairs some none (λ k. has (n, k)) ∙ ap (λ (o : Origin). last_from seat_key None (of_origin o es)) (sym is)

-- the classes
number_is : (a n : ℕ) → (a == n) ≡ true → a ≡ n
number_is a n e = grind (arith, nat_tests)

own_number : (n : ℕ) → (n == n) ≡ true
own_number n = grind (arith, nat_tests)

turned_number : (a b : ℕ) → (a == b) ≡ (b == a)
turned_number a b = grind (arith, nat_tests)

pub same_is : (o p : Origin) → same_origin o p ≡ true → o ≡ p
same_is (Client n) (Client m) e = ap (λ (k : ℕ). Client k) (sym (number_is m n e))
same_is (Client n) (Ticket m) e = cc
same_is (Ticket n) (Client m) e = cc
same_is (Ticket n) (Ticket m) e = ap (λ (k : ℕ). Ticket k) (sym (number_is m n e))

own_origin : (o : Origin) → same_origin o o ≡ true
own_origin (Client n) = own_number n
own_origin (Ticket n) = own_number n

turned_origin : (o p : Origin) → same_origin o p ≡ same_origin p o
turned_origin (Client n) (Client m) = turned_number m n
turned_origin (Client n) (Ticket m) = refl
turned_origin (Ticket n) (Client m) = refl
turned_origin (Ticket n) (Ticket m) = turned_number m n

pub are_classes : AreClasses queued_classes
are_classes = record {
  all = record { own = λ v. refl; turned = λ v w. refl; joined = λ v w e u. refl };
  service = record { own = λ v. own_number v.desk; turned = λ v w. turned_number w.desk v.desk; joined = λ v w e u. ap (λ (n : ℕ). u.desk == n) (sym (number_is w.desk v.desk e)) };
  origin = record { own = λ v. own_origin v.request.origin; turned = λ v w. turned_origin v.request.origin w.request.origin; joined = λ v w e u. ap (λ (o : Origin). same_origin o u.request.origin) (same_is v.request.origin w.request.origin e) };
}

-- lists
module _ {T : Type 0} where
  pub all_pass : (xs : List (Seat T)) → filter (λ s. true) xs ≡ xs
  all_pass [] = refl
  all_pass (s ∷ ss) = ap (λ (ys : List (Seat T)). s ∷ ys) (all_pass ss)

  pub in_chain : (p : T → Bool) (w : T) (k : ℕ) (xs : List (Seat T)) → found k xs ≡ Some w → p w ≡ true → has_key seat_key k (filter (λ s. p s.value) xs) ≡ true
  in_chain p w k [] is e = cc
  in_chain p w k (s ∷ ss) is e = of (s.key == k) refl is (p s.value) refl (λ h. in_chain p w k ss h e)
    where
      or_true : (b : Bool) → (b || true) ≡ true
      or_true true = refl
      or_true false = refl

      of : (b : Bool) → (s.key == k) ≡ b → cond b (Some s.value) (found k ss) ≡ Some w → (c : Bool) → p s.value ≡ c → (found k ss ≡ Some w → has_key seat_key k (filter (λ s. p s.value) ss) ≡ true)
          → has_key seat_key k (cond c (s ∷ filter (λ s. p s.value) ss) (filter (λ s. p s.value) ss)) ≡ true
      of true f h true g later = rw f refl
      of true f h false g later =
          let value : s.value ≡ w = cc in
          let other : p s.value ≡ true = ap p value ∙ e in
          cc
      of false f h true g later = ap (λ (b : Bool). (s.key == k) || b) (later h) ∙ or_true (s.key == k)
      of false f h false g later = later h

  pub length-out : (k : ℕ) (xs : List (Seat T)) → are_distinct seat_key xs ≡ true → has_key seat_key k xs ≡ true → length (take_out seat_key k xs) + 1 ≡ length xs
  length-out k [] d there = cc
  length-out k (s ∷ ss) d there = of (s.key == k) refl there (λ h. length-out k ss apart.1 h)
    where
      apart : (has_key seat_key s.key ss ≡ false) × (are_distinct seat_key ss ≡ true)
      apart = distinct_parts seat_key s ss d

      of : (b : Bool) → (s.key == k) ≡ b → (b || has_key seat_key k ss) ≡ true → (has_key seat_key k ss ≡ true → length (take_out seat_key k ss) + 1 ≡ length ss) → length (cond (not b) (s ∷ take_out seat_key k ss) (take_out seat_key k ss)) + 1 ≡ suc (length ss)
      of true e h later =
          let same : take_out seat_key k ss ≡ ss = out-absent seat_key k ss (subst (λ (n : ℕ). has_key seat_key n ss ≡ false) (same_key s.key k e) apart.0) in
          rw same (omega arith)
      of false e h later = let shorter = later h in omega arith

-- the orders of origins
abbrev asks : Origin → Queued → Queued → Bool
asks o a b = same_origin o b.request.origin

has_last-out : (make : ℕ → Origin) (old new : List (ℕ × ℕ)) (es : List (Seat Queued)) (k : ℕ) (x : Queued) → are_distinct seat_key es ≡ true → found k es ≡ Some x → HasLast make old es
    → ((p : ℕ × ℕ) → has_pair p new ≡ cond (same_origin (make p.0) x.request.origin && is_no_key (next_in seat_key k (of_origin x.request.origin es))) (is_key p.1 (prev_from seat_key None k (of_origin x.request.origin es))) (has_pair p old))
    → HasLast make new (take_out seat_key k es)
has_last-out make old new es k x d at_k was changed p = changed p ∙ of (same_origin (make p.0) x.request.origin) refl
  where
    o : Origin
    o = make p.0

    chain : List (Seat Queued)
    chain = of_origin x.request.origin es

    commutes : of_origin (make p.0) (take_out seat_key k es) ≡ take_out seat_key k (of_origin (make p.0) es)
    commutes = alike-out (asks (make p.0)) x k es

    gone : same_origin (make p.0) x.request.origin ≡ true → last_from seat_key None (take_out seat_key k (of_origin (make p.0) es)) ≡ cond (is_no_key (next_in seat_key k (of_origin x.request.origin es))) (prev_from seat_key None k (of_origin x.request.origin es)) (last_from seat_key None (of_origin (make p.0) es))
    gone e =
        let same : make p.0 ≡ x.request.origin = same_is (make p.0) x.request.origin e in
        subst (λ (q : Origin). last_from seat_key None (take_out seat_key k (of_origin q es)) ≡ cond (is_no_key (next_in seat_key k (of_origin x.request.origin es))) (prev_from seat_key None k (of_origin x.request.origin es)) (last_from seat_key None (of_origin q es))) (sym same)
        (ap (λ (ends : Ends). ends.last) (ends-out seat_key k (of_origin x.request.origin es) (distinct-filter seat_key (λ s. same_origin x.request.origin s.value.request.origin) es d)
        (in_chain (λ (v : Queued). same_origin x.request.origin v.request.origin) x k es at_k (own_origin x.request.origin))))

    pulled : (b : Bool) (u v : Option ℕ) → cond b (is_key p.1 u) (is_key p.1 v) ≡ is_key p.1 (cond b u v)
    pulled true u v = refl
    pulled false u v = refl

    of : (b : Bool) → same_origin (make p.0) x.request.origin ≡ b
        → cond (b && is_no_key (next_in seat_key k (of_origin x.request.origin es))) (is_key p.1 (prev_from seat_key None k (of_origin x.request.origin es))) (has_pair p old) ≡ is_key p.1 (last_from seat_key None (of_origin (make p.0) (take_out seat_key k es)))
    of true e =
        ap (λ (h : Bool). cond (is_no_key (next_in seat_key k (of_origin x.request.origin es))) (is_key p.1 (prev_from seat_key None k (of_origin x.request.origin es))) h) (was p)
        ∙ pulled (is_no_key (next_in seat_key k (of_origin x.request.origin es))) (prev_from seat_key None k (of_origin x.request.origin es)) (last_from seat_key None (of_origin (make p.0) es))
        ∙ ap (is_key p.1) (sym (gone e)) ∙ ap (λ (ys : List (Seat Queued)). is_key p.1 (last_from seat_key None ys)) (sym commutes)
    of false e =
        was p
        ∙ ap (λ (ys : List (Seat Queued)). is_key p.1 (last_from seat_key None ys)) (sym (commutes ∙ out-absent seat_key k (of_origin (make p.0) es) (not_in_chain (asks (make p.0)) x x k es d at_k e)))

has_last-in : (make : ℕ → Origin) (old new : List (ℕ × ℕ)) (es : List (Seat Queued)) (k : ℕ) (x : Queued) → HasLast make old es
    → ((p : ℕ × ℕ) → has_pair p new ≡ cond (same_origin (make p.0) x.request.origin) (k == p.1) (has_pair p old)) → HasLast make new (es ++ seat_of k x ∷ [])
has_last-in make old new es k x was changed p = changed p ∙ of (same_origin (make p.0) x.request.origin) ∙ ap (λ (ys : List (Seat Queued)). is_key p.1 (last_from seat_key None ys)) (sym (alike-append (asks (make p.0)) x x k es))
  where
    of : (b : Bool) → cond b (k == p.1) (has_pair p old) ≡ is_key p.1 (last_from seat_key None (of_origin (make p.0) es ++ cond b (seat_of k x ∷ []) []))
    of true = ap (λ (ends : Ends). is_key p.1 ends.last) (sym (ends-append seat_key (of_origin (make p.0) es) (seat_of k x)))
    of false = was p ∙ ap (λ (ys : List (Seat Queued)). is_key p.1 (last_from seat_key None ys)) (sym (append-nil (of_origin (make p.0) es)))

-- a request leaves
pub node_is : (rows : Rows (Node Queued)) (cs ts : List (ℕ × ℕ)) (es : List (Seat Queued)) (k : ℕ) (x : Queued) → Asking rows cs ts es → found k es ≡ Some x → entry rows k ≡ Some (node_at queued_classes es k x)
node_is rows cs ts es k x a at_k = a.rows k ∙ ap (option_map (node_at queued_classes es k)) at_k

same_some : {A : Type 0} (o : Option A) (x y : A) → o ≡ Some x → o ≡ Some y → x ≡ y
same_some o x y e f = cc

abbrev ChangedBack : (ℕ → Origin) → Node Queued → List (ℕ × ℕ) → List (ℕ × ℕ) → Type 0
ChangedBack make node old new = (p : ℕ × ℕ) → has_pair p new ≡ cond (same_origin (make p.0) node.value.request.origin && is_no_key node.origin.next) (is_key p.1 node.origin.prev) (has_pair p old)

pub asking_out : (old new : Rows (Node Queued)) (cs cs_new ts ts_new : List (ℕ × ℕ)) (es : List (Seat Queued)) (k : ℕ) (x : Queued) (node : Node Queued) → Asking old cs ts es → found k es ≡ Some x → entry old k ≡ Some node
    → ((j : ℕ) → entry new j ≡ cond (j == k) None (option_map (left_by node j) (entry old j))) → entries new + 1 ≡ entries old
    → ChangedBack (λ n. Client n) node cs cs_new → ChangedBack (λ n. Ticket n) node ts ts_new → Asking new cs_new ts_new (take_out seat_key k es)
asking_out old new cs cs_new ts ts_new es k x node a at_k value rows count clients tickets =
    let same : node ≡ node_at queued_classes es k x = same_some (entry old k) node (node_at queued_classes es k x) value (node_is old cs ts es k x a at_k) in
    record {
      distinct = distinct-filter seat_key (λ s. not (s.key == k)) es a.distinct;
      rows = rows-out queued_classes are_classes old new es k x a.distinct at_k a.rows (subst (λ (n : Node Queued). (j : ℕ) → entry new j ≡ cond (j == k) None (option_map (left_by n j) (entry old j))) same rows);
      count = shorter (length-out k es a.distinct (found-key k es x at_k)) a.count count;
      by_client = has_last-out (λ n. Client n) cs cs_new es k x a.distinct at_k a.by_client (subst (λ (n : Node Queued). ChangedBack (λ n. Client n) n cs cs_new) same clients);
      by_ticket = has_last-out (λ n. Ticket n) ts ts_new es k x a.distinct at_k a.by_ticket (subst (λ (n : Node Queued). ChangedBack (λ n. Ticket n) n ts ts_new) same tickets);
    }
  where
    shorter : {l m e n : ℕ} → l + 1 ≡ m → e ≡ m → n + 1 ≡ e → n ≡ l
    shorter p q r = omega arith

-- the last row of an origin, as the orders have it
pub origin_last : (rows : Rows (Node Queued)) (cs ts : List (ℕ × ℕ)) (es : List (Seat Queued)) (origin : Origin) (j : ℕ) → Asking rows cs ts es → has_origin cs ts j origin ≡ is_key j (last_from seat_key None (of_origin origin es))
origin_last rows cs ts es (Client n) j a = a.by_client (n, j)
origin_last rows cs ts es (Ticket n) j a = a.by_ticket (n, j)

-- where nothing is behind a row of an origin it is the last
pub leaving_last : (rows : Rows (Node Queued)) (cs ts : List (ℕ × ℕ)) (es : List (Seat Queued)) (k : ℕ) (x : Queued) (node : Node Queued) → Asking rows cs ts es → found k es ≡ Some x → entry rows k ≡ Some node
    → is_no_key node.origin.next ≡ true → (j : ℕ) → has_origin cs ts j node.value.request.origin ≡ (k == j)
leaving_last rows cs ts es k x node a at_k value none j =
    let same : node ≡ node_at queued_classes es k x = same_some (entry rows k) node (node_at queued_classes es k x) value (node_is rows cs ts es k x a at_k) in
    subst (λ (n : Node Queued). is_no_key n.origin.next ≡ true → has_origin cs ts j n.value.request.origin ≡ (k == j)) (sym same)
    (λ e. origin_last rows cs ts es x.request.origin j a ∙ ap (is_key j) (ends_here (of_origin x.request.origin es) None (in_chain (λ (v : Queued). same_origin x.request.origin v.request.origin) x k es at_k (own_origin x.request.origin)) e)) none
  where
    ends_here : (xs : List (Seat Queued)) (before : Option ℕ) → has_key seat_key k xs ≡ true → is_no_key (next_in seat_key k xs) ≡ true → last_from seat_key before xs ≡ Some k
    ends_here [] before there e = cc
    ends_here (s ∷ ss) before there e = of (s.key == k) refl there e (λ h f. ends_here ss (Some s.key) h f)
      where
        alone : (ys : List (Seat Queued)) → (s.key == k) ≡ true → is_no_key (head_of seat_key ys) ≡ true → last_from seat_key (Some s.key) ys ≡ Some k
        alone [] f g = ap (λ (n : ℕ). Some n) (same_key s.key k f)
        alone (y ∷ ys) f g = cc

        of : (b : Bool) → (s.key == k) ≡ b → (b || has_key seat_key k ss) ≡ true → is_no_key (cond b (head_of seat_key ss) (next_in seat_key k ss)) ≡ true → (has_key seat_key k ss ≡ true → is_no_key (next_in seat_key k ss) ≡ true → last_from seat_key (Some s.key) ss ≡ Some k) → last_from seat_key (Some s.key) ss ≡ Some k
        of true f h g later = alone ss f g
        of false f h g later = later h g

-- a request comes
pub absent_key : (rows : Rows (Node Queued)) (cs ts : List (ℕ × ℕ)) (es : List (Seat Queued)) (k : ℕ) → Asking rows cs ts es → entry rows k ≡ None → has_key seat_key k es ≡ false
absent_key rows cs ts es k a free = absent-found k es (of (found k es) refl)
  where
    of : (o : Option Queued) → found k es ≡ o → found k es ≡ None
    of None e = e
    of (Some v) e =
        let there : entry rows k ≡ Some (node_at queued_classes es k v) = node_is rows cs ts es k v a e in
        cc

abbrev ChangedOn : (ℕ → Origin) → ℕ → Queued → List (ℕ × ℕ) → List (ℕ × ℕ) → Type 0
ChangedOn make k x old new = (p : ℕ × ℕ) → has_pair p new ≡ cond (same_origin (make p.0) x.request.origin) (k == p.1) (has_pair p old)

abbrev coming : Queued → Option ℕ → Option ℕ → Option ℕ → Node Queued
coming x all service origin = record { value = x; all = record { prev = all; next = None }; service = record { prev = service; next = None }; origin = record { prev = origin; next = None } }

pub asking_in : (old new : Rows (Node Queued)) (cs cs_new ts ts_new : List (ℕ × ℕ)) (es : List (Seat Queued)) (k : ℕ) (x : Queued) (all service origin : Option ℕ) → Asking old cs ts es → entry old k ≡ None
    → all ≡ last_from seat_key None es → service ≡ last_from seat_key None (of_desk x.desk es) → origin ≡ last_from seat_key None (of_origin x.request.origin es)
    → ((j : ℕ) → entry new j ≡ option_map (joined_by (coming x all service origin) k j) (cond (j == k) (Some (coming x all service origin)) (entry old j))) → entries new ≡ entries old + 1
    → ChangedOn (λ n. Client n) k x cs cs_new → ChangedOn (λ n. Ticket n) k x ts ts_new → Asking new cs_new ts_new (es ++ seat_of k x ∷ [])
asking_in old new cs cs_new ts ts_new es k x all service origin a free all_is service_is origin_is rows count clients tickets =
    let none : has_key seat_key k es ≡ false = absent_key old cs ts es k a free in
    let whole : all ≡ last_from seat_key None (filter (λ (s : Seat Queued). true) es) = all_is ∙ ap (last_from seat_key None) (sym (all_pass es)) in
    let same : coming x all service origin ≡ fresh queued_classes es x = ap (λ (o : Option ℕ). coming x o service origin) whole ∙ ap (λ (o : Option ℕ). coming x (last_from seat_key None (filter (λ (s : Seat Queued). true) es)) o origin) service_is ∙ ap (coming x (last_from seat_key None (filter (λ (s : Seat Queued). true) es)) (last_from seat_key None (of_desk x.desk es))) origin_is in
    record {
      distinct = distinct-append seat_key es (seat_of k x) a.distinct none;
      rows = rows-append queued_classes are_classes old new es k x a.distinct none a.rows (subst (λ (n : Node Queued). (j : ℕ) → entry new j ≡ option_map (joined_by n k j) (cond (j == k) (Some n) (entry old j))) same rows);
      count = count ∙ ap (λ (n : ℕ). n + 1) a.count ∙ sym (length-append es (seat_of k x ∷ []));
      by_client = has_last-in (λ n. Client n) cs cs_new es k x a.by_client clients;
      by_ticket = has_last-in (λ n. Ticket n) ts ts_new es k x a.by_ticket tickets;
    }
