-- The workers of a hall, once one leaves or comes.
use Rattle.std.proofs.Common.{◌≡◌, ℕ, ◌+◌, ◌==◌, Bool, true, false, not, cond, ◌||◌, ◌&&◌, List, [], ◌∷◌, ◌++◌, length-append, Option, Some, None, IfNone, refl, sym, ◌∙◌, ap, subst, arith}
use Rattle.std.specs.List.{filter}
use Rattle.std.specs.Option.{option_map}
use Rattle.std.proofs.lemmas.Bool.{and_parts}
use Rattle.std.proofs.lemmas.Bool.Decides.{nat_tests}
use Rattle.mj_counted.specs.declared.rows.Rows.{Rows}
use Rattle.mj_counted.specs.Rows.{entries, entry}
use Rattle.mj_counted.specs.Pairs.{has_pair, same_pair}
use Rattle.mj_chain.specs.declared.node.Node.{Node}
use Rattle.mj_chain.specs.Nodes.{AreClasses, fresh, joined_by, left_by, node_at}
use Rattle.mj_chain.specs.Seats.{Seat, are_distinct, found, has_key, last_from, seat_key, take_out}
use Rattle.mj_chain.proofs.ListLemmas.{distinct-append, distinct-filter, distinct_parts, same_key}
use Rattle.mj_chain.proofs.RowLemmas.{absent-found, alike-append, alike-out, found-append, found-key, found-out, rows-append, rows-out}
use Rattle.mj_hall.specs.declared.kept.Worker.{Worker}
use Rattle.mj_hall.specs.Serving.{NoneOf, Serving, is_of_conn, same_bool, worker_classes, workers_at, workers_of}
use Rattle.mj_hall.proofs.AskingLemmas.{length-out}

abbrev seat_of : {T : Type 0} → ℕ → T → Seat T
seat_of k v = record { key = k; value = v }

number_is : (a n : ℕ) → (a == n) ≡ true → a ≡ n
number_is a n e = grind (arith, nat_tests)

own_number : (n : ℕ) → (n == n) ≡ true
own_number n = grind (arith, nat_tests)

turned_number : (a b : ℕ) → (a == b) ≡ (b == a)
turned_number a b = grind (arith, nat_tests)

bool_is : (a b : Bool) → same_bool a b ≡ true → a ≡ b
bool_is true b e = sym e
bool_is false true e = cc
bool_is false false e = refl

own_bool : (a : Bool) → same_bool a a ≡ true
own_bool true = refl
own_bool false = refl

turned_bool : (a b : Bool) → same_bool a b ≡ same_bool b a
turned_bool true true = refl
turned_bool true false = refl
turned_bool false true = refl
turned_bool false false = refl

pub are_classes : AreClasses worker_classes
are_classes = record {
  all = record { own = λ v. own_bool v.busy; turned = λ v w. turned_bool v.busy w.busy; joined = λ v w e u. ap (λ (b : Bool). same_bool b u.busy) (bool_is v.busy w.busy e) };
  service = record {
    own = λ v. ap (λ (b : Bool). b && (v.desk == v.desk)) (own_bool v.busy) ∙ own_number v.desk;
    turned = λ v w. ap (λ (b : Bool). b && (w.desk == v.desk)) (turned_bool v.busy w.busy) ∙ ap (λ (b : Bool). same_bool w.busy v.busy && b) (turned_number w.desk v.desk);
    joined = λ v w e u. both v w u (and_parts (same_bool v.busy w.busy) (w.desk == v.desk) e);
  };
  origin = record { own = λ v. own_number v.waiter.worker; turned = λ v w. turned_number w.waiter.worker v.waiter.worker; joined = λ v w e u. ap (λ (n : ℕ). u.waiter.worker == n) (sym (number_is w.waiter.worker v.waiter.worker e)) };
}
  where
    both : (v w u : Worker) → (same_bool v.busy w.busy ≡ true) × ((w.desk == v.desk) ≡ true) → (same_bool v.busy u.busy && (u.desk == v.desk)) ≡ (same_bool w.busy u.busy && (u.desk == w.desk))
    both v w u parts = ap (λ (b : Bool). same_bool b u.busy && (u.desk == v.desk)) (bool_is v.busy w.busy parts.0) ∙ ap (λ (n : ℕ). same_bool w.busy u.busy && (u.desk == n)) (sym (number_is w.desk v.desk parts.1))

pub node_is : (rows : Rows (Node Worker)) (cs : List (ℕ × ℕ)) (ws : List (Seat Worker)) (k : ℕ) (w : Worker) → Serving rows cs ws → found k ws ≡ Some w → entry rows k ≡ Some (node_at worker_classes ws k w)
node_is rows cs ws k w a at_k = a.rows k ∙ ap (option_map (node_at worker_classes ws k)) at_k

same_some : {A : Type 0} (o : Option A) (x y : A) → o ≡ Some x → o ≡ Some y → x ≡ y
same_some o x y e f = cc

pub absent_key : (rows : Rows (Node Worker)) (cs : List (ℕ × ℕ)) (ws : List (Seat Worker)) (k : ℕ) → Serving rows cs ws → entry rows k ≡ None → has_key seat_key k ws ≡ false
absent_key rows cs ws k a free = absent-found k ws (of (found k ws) refl)
  where
    of : (o : Option Worker) → found k ws ≡ o → found k ws ≡ None
    of None e = e
    of (Some v) e =
        let there : entry rows k ≡ Some (node_at worker_classes ws k v) = node_is rows cs ws k v a e in
        cc

-- who is found of a connection
pub conn_none : (pairs : List (ℕ × ℕ)) (n : ℕ) (o : Option ℕ) → IfNone o ((k : ℕ) → has_pair (n, k) pairs ≡ false) → IfNone o ((rows : Rows (Node Worker)) (ws : List (Seat Worker)) → Serving rows pairs ws → NoneOf n ws)
conn_none pairs n None none = λ r ws a k. sym (a.by_conn (n, k)) ∙ none k
conn_none pairs n (Some k) none = tt

conn_was : (n j k : ℕ) (ws : List (Seat Worker)) → is_of_conn n (found j (take_out seat_key k ws)) ≡ true → is_of_conn n (found j ws) ≡ true
conn_was n j k ws e = of (j == k) (ap (is_of_conn n) (sym (found-out j k ws)) ∙ e)
  where
    of : (b : Bool) → is_of_conn n (cond b None (found j ws)) ≡ true → is_of_conn n (found j ws) ≡ true
    of true f = cc
    of false f = f

-- a worker leaves
pub serving_out : (old new : Rows (Node Worker)) (cs cs_new : List (ℕ × ℕ)) (ws : List (Seat Worker)) (k : ℕ) (w : Worker) (node : Node Worker) → Serving old cs ws → found k ws ≡ Some w → entry old k ≡ Some node
    → ((j : ℕ) → entry new j ≡ cond (j == k) None (option_map (left_by node j) (entry old j))) → entries new + 1 ≡ entries old
    → ((p : ℕ × ℕ) → has_pair p cs_new ≡ (not (same_pair p (node.value.waiter.worker, k)) && has_pair p cs)) → Serving new cs_new (take_out seat_key k ws)
serving_out old new cs cs_new ws k w node a at_k value rows count conns =
    let same : node ≡ node_at worker_classes ws k w = same_some (entry old k) node (node_at worker_classes ws k w) value (node_is old cs ws k w a at_k) in
    record {
      distinct = distinct-filter seat_key (λ s. not (s.key == k)) ws a.distinct;
      rows = rows-out worker_classes are_classes old new ws k w a.distinct at_k a.rows (subst (λ (n : Node Worker). (j : ℕ) → entry new j ≡ cond (j == k) None (option_map (left_by n j) (entry old j))) same rows);
      count = shorter (length-out k ws a.distinct (found-key k ws w at_k)) a.count count;
      by_conn = λ p. conns p ∙ by_conn (ap (λ (n : Node Worker). n.value.waiter.worker) same) p (p.1 == k) refl;
      single = λ n i j e f. a.single n i j (conn_was n i k ws e) (conn_was n j k ws f);
    }
  where
    shorter : {l m e n : ℕ} → l + 1 ≡ m → e ≡ m → n + 1 ≡ e → n ≡ l
    shorter p q r = omega arith

    apart : (m x : ℕ) → (not ((m == x) && true) && (x == m)) ≡ false
    apart m x = grind (arith, nat_tests)

    kept : (b c : Bool) → (not (b && false) && c) ≡ c
    kept true c = refl
    kept false c = refl

    by_conn : node.value.waiter.worker ≡ w.waiter.worker → (p : ℕ × ℕ) (b : Bool) → (p.1 == k) ≡ b → (not ((p.0 == node.value.waiter.worker) && (p.1 == k)) && has_pair p cs) ≡ is_of_conn p.0 (found p.1 (take_out seat_key k ws))
    by_conn number p true e =
        let was : has_pair p cs ≡ (w.waiter.worker == p.0) = a.by_conn p ∙ ap (is_of_conn p.0) (ap (λ (i : ℕ). found i ws) (same_key p.1 k e) ∙ at_k) in
        let gone : found p.1 (take_out seat_key k ws) ≡ None = found-out p.1 k ws ∙ ap (λ (c : Bool). cond c None (found p.1 ws)) e in
        ap (λ (c : Bool). not ((p.0 == node.value.waiter.worker) && c) && has_pair p cs) e ∙ ap (λ (x : ℕ). not ((p.0 == x) && true) && has_pair p cs) number ∙ ap (λ (c : Bool). not ((p.0 == w.waiter.worker) && true) && c) was
        ∙ apart p.0 w.waiter.worker ∙ ap (is_of_conn p.0) (sym gone)
    by_conn number p false e =
        let stays : found p.1 (take_out seat_key k ws) ≡ found p.1 ws = found-out p.1 k ws ∙ ap (λ (c : Bool). cond c None (found p.1 ws)) e in
        ap (λ (c : Bool). not ((p.0 == node.value.waiter.worker) && c) && has_pair p cs) e ∙ kept (p.0 == node.value.waiter.worker) (has_pair p cs) ∙ a.by_conn p ∙ ap (is_of_conn p.0) (sym stays)

-- nobody is left of the connection of one that has left
pub none_left : (rows : Rows (Node Worker)) (cs : List (ℕ × ℕ)) (ws : List (Seat Worker)) (k : ℕ) (w : Worker) → Serving rows cs ws → found k ws ≡ Some w → NoneOf w.waiter.worker (take_out seat_key k ws)
none_left rows cs ws k w a at_k j = ap (is_of_conn w.waiter.worker) (found-out j k ws) ∙ of (j == k) refl
  where
    here : is_of_conn w.waiter.worker (found k ws) ≡ true
    here = ap (is_of_conn w.waiter.worker) at_k ∙ own_number w.waiter.worker

    own : (j == k) ≡ false → is_of_conn w.waiter.worker (found j ws) ≡ true → is_of_conn w.waiter.worker (found j ws) ≡ false
    own e f =
        let same : j ≡ k = a.single w.waiter.worker j k f here in
        let equal : (j == k) ≡ true = subst (λ (n : ℕ). (j == n) ≡ true) same (own_number j) in
        cc

    decide : (b : Bool) → is_of_conn w.waiter.worker (found j ws) ≡ b → (j == k) ≡ false → is_of_conn w.waiter.worker (found j ws) ≡ false
    decide true f e = own e f
    decide false f e = f

    of : (b : Bool) → (j == k) ≡ b → is_of_conn w.waiter.worker (cond b None (found j ws)) ≡ false
    of true e = refl
    of false e = decide (is_of_conn w.waiter.worker (found j ws)) refl e

pub pair_there : (rows : Rows (Node Worker)) (cs : List (ℕ × ℕ)) (ws : List (Seat Worker)) (k : ℕ) (w : Worker) (node : Node Worker) → Serving rows cs ws → found k ws ≡ Some w → entry rows k ≡ Some node → has_pair (node.value.waiter.worker, k) cs ≡ true
pair_there rows cs ws k w node a at_k value =
    let same : node ≡ node_at worker_classes ws k w = same_some (entry rows k) node (node_at worker_classes ws k w) value (node_is rows cs ws k w a at_k) in
    subst (λ (n : Node Worker). has_pair (n.value.waiter.worker, k) cs ≡ true) (sym same) (a.by_conn (w.waiter.worker, k) ∙ ap (is_of_conn w.waiter.worker) at_k ∙ own_number w.waiter.worker)

-- a worker comes
none_pass : (n : ℕ) (ws : List (Seat Worker)) → are_distinct seat_key ws ≡ true → NoneOf n ws → filter (λ s. s.value.waiter.worker == n) ws ≡ []
none_pass n [] d none = refl
none_pass n (s ∷ ss) d none =
    let first : (s.value.waiter.worker == n) ≡ false = ap (is_of_conn n) (sym (head_found (s.key == s.key) (own_number s.key))) ∙ none s.key in
    rw first (none_pass n ss apart.1 (λ k. later k (found k ss) refl))
  where
    apart : (has_key seat_key s.key ss ≡ false) × (are_distinct seat_key ss ≡ true)
    apart = distinct_parts seat_key s ss d

    head_found : (b : Bool) → (s.key == s.key) ≡ true → found s.key (s ∷ ss) ≡ Some s.value
    head_found b e = rw e refl

    other : (k : ℕ) (v : Worker) → found k ss ≡ Some v → (b : Bool) → (s.key == k) ≡ b → found k (s ∷ ss) ≡ found k ss
    other k v e true f =
        let there : has_key seat_key s.key ss ≡ true = subst (λ (i : ℕ). has_key seat_key i ss ≡ true) (sym (same_key s.key k f)) (found-key k ss v e) in
        let missing : has_key seat_key s.key ss ≡ false = apart.0 in
        cc
    other k v e false f = rw f refl

    later : (k : ℕ) (o : Option Worker) → found k ss ≡ o → is_of_conn n (found k ss) ≡ false
    later k None e = ap (is_of_conn n) e
    later k (Some v) e = ap (is_of_conn n) (sym (other k v e (s.key == k) refl)) ∙ none k

abbrev coming : Worker → Option ℕ → Option ℕ → Option ℕ → Node Worker
coming x all service origin = record { value = x; all = record { prev = all; next = None }; service = record { prev = service; next = None }; origin = record { prev = origin; next = None } }

pub serving_in : (old new : Rows (Node Worker)) (cs cs_new : List (ℕ × ℕ)) (ws : List (Seat Worker)) (k : ℕ) (x : Worker) (all service : Option ℕ) → Serving old cs ws → NoneOf x.waiter.worker ws → entry old k ≡ None
    → all ≡ last_from seat_key None (workers_of x.busy ws) → service ≡ last_from seat_key None (workers_at x.busy x.desk ws)
    → ((j : ℕ) → entry new j ≡ option_map (joined_by (coming x all service None) k j) (cond (j == k) (Some (coming x all service None)) (entry old j))) → entries new ≡ entries old + 1
    → ((p : ℕ × ℕ) → has_pair p cs_new ≡ (same_pair p (x.waiter.worker, k) || has_pair p cs)) → Serving new cs_new (ws ++ seat_of k x ∷ [])
serving_in old new cs cs_new ws k x all service a none free all_is service_is rows count conns =
    let absent : has_key seat_key k ws ≡ false = absent_key old cs ws k a free in
    let alone : last_from seat_key None (filter (λ (s : Seat Worker). s.value.waiter.worker == x.waiter.worker) ws) ≡ None = ap (last_from seat_key None) (none_pass x.waiter.worker ws a.distinct none) in
    let same : coming x all service None ≡ fresh worker_classes ws x = ap (λ (o : Option ℕ). coming x o service None) all_is ∙ ap (λ (o : Option ℕ). coming x (last_from seat_key None (workers_of x.busy ws)) o None) service_is ∙ ap (coming x (last_from seat_key None (workers_of x.busy ws)) (last_from seat_key None (workers_at x.busy x.desk ws))) (sym alone) in
    record {
      distinct = distinct-append seat_key ws (seat_of k x) a.distinct absent;
      rows = rows-append worker_classes are_classes old new ws k x a.distinct absent a.rows (subst (λ (n : Node Worker). (j : ℕ) → entry new j ≡ option_map (joined_by n k j) (cond (j == k) (Some n) (entry old j))) same rows);
      count = count ∙ ap (λ (n : ℕ). n + 1) a.count ∙ sym (length-append ws (seat_of k x ∷ []));
      by_conn = λ p. conns p ∙ by_conn absent p (p.1 == k) refl;
      single = λ n i j e f. one absent n i j (i == k) refl (j == k) refl e f;
    }
  where
    by_conn : has_key seat_key k ws ≡ false → (p : ℕ × ℕ) (b : Bool) → (p.1 == k) ≡ b → (((p.0 == x.waiter.worker) && (p.1 == k)) || has_pair p cs) ≡ is_of_conn p.0 (found p.1 (ws ++ seat_of k x ∷ []))
    by_conn absent p true e =
        let is : found p.1 (ws ++ seat_of k x ∷ []) ≡ Some x = found-append p.1 k x ws absent ∙ ap (λ (c : Bool). cond c (Some x) (found p.1 ws)) e in
        let was : has_pair p cs ≡ false = a.by_conn p ∙ ap (λ (i : ℕ). is_of_conn p.0 (found i ws)) (same_key p.1 k e) ∙ missing p.0 absent in
        ap (λ (c : Bool). ((p.0 == x.waiter.worker) && c) || has_pair p cs) e ∙ ap (λ (c : Bool). ((p.0 == x.waiter.worker) && true) || c) was ∙ turned p.0 x.waiter.worker ∙ ap (is_of_conn p.0) (sym is)
      where
        turned : (m y : ℕ) → (((m == y) && true) || false) ≡ (y == m)
        turned m y = grind (arith, nat_tests)

        missing : (n : ℕ) → has_key seat_key k ws ≡ false → is_of_conn n (found k ws) ≡ false
        missing n e = gone (found k ws) refl
          where
            gone : (o : Option Worker) → found k ws ≡ o → is_of_conn n (found k ws) ≡ false
            gone None f = ap (is_of_conn n) f
            gone (Some v) f =
                let there : has_key seat_key k ws ≡ true = found-key k ws v f in
                cc
    by_conn absent p false e =
        let is : found p.1 (ws ++ seat_of k x ∷ []) ≡ found p.1 ws = found-append p.1 k x ws absent ∙ ap (λ (c : Bool). cond c (Some x) (found p.1 ws)) e in
        ap (λ (c : Bool). ((p.0 == x.waiter.worker) && c) || has_pair p cs) e ∙ nothing (p.0 == x.waiter.worker) (has_pair p cs) ∙ a.by_conn p ∙ ap (is_of_conn p.0) (sym is)
      where
        nothing : (b c : Bool) → ((b && false) || c) ≡ c
        nothing true c = refl
        nothing false c = refl

    new_one : has_key seat_key k ws ≡ false → (n i : ℕ) → (i == k) ≡ true → is_of_conn n (found i (ws ++ seat_of k x ∷ [])) ≡ true → n ≡ x.waiter.worker
    new_one absent n i e f =
        let is : found i (ws ++ seat_of k x ∷ []) ≡ Some x = found-append i k x ws absent ∙ ap (λ (c : Bool). cond c (Some x) (found i ws)) e in
        sym (number_is x.waiter.worker n (ap (is_of_conn n) (sym is) ∙ f))

    old_one : has_key seat_key k ws ≡ false → (n i : ℕ) → (i == k) ≡ false → is_of_conn n (found i (ws ++ seat_of k x ∷ [])) ≡ true → is_of_conn n (found i ws) ≡ true
    old_one absent n i e f =
        let is : found i (ws ++ seat_of k x ∷ []) ≡ found i ws = found-append i k x ws absent ∙ ap (λ (c : Bool). cond c (Some x) (found i ws)) e in
        ap (is_of_conn n) (sym is) ∙ f

    clash : (n i : ℕ) → n ≡ x.waiter.worker → is_of_conn n (found i ws) ≡ true → true ≡ false
    clash n i e f = sym f ∙ subst (λ (m : ℕ). is_of_conn m (found i ws) ≡ false) (sym e) (none i)

    one : has_key seat_key k ws ≡ false → (n i j : ℕ) (b : Bool) → (i == k) ≡ b → (c : Bool) → (j == k) ≡ c → is_of_conn n (found i (ws ++ seat_of k x ∷ [])) ≡ true → is_of_conn n (found j (ws ++ seat_of k x ∷ [])) ≡ true → i ≡ j
    one absent n i j true f true h e g = same_key i k f ∙ sym (same_key j k h)
    one absent n i j true f false h e g =
        let wrong : true ≡ false = clash n j (new_one absent n i f e) (old_one absent n j h g) in
        cc
    one absent n i j false f true h e g =
        let wrong : true ≡ false = clash n i (new_one absent n j h g) (old_one absent n i f e) in
        cc
    one absent n i j false f false h e g = a.single n i j (old_one absent n i f e) (old_one absent n j h g)

-- those of one kind, once one of them leaves or comes
pub kind_out : (busy : Bool) (x : Worker) (k : ℕ) (ws : List (Seat Worker)) → workers_of busy (take_out seat_key k ws) ≡ take_out seat_key k (workers_of busy ws)
kind_out busy x k ws = alike-out (λ (a b : Worker). same_bool busy b.busy) x k ws

pub kind_append : (x : Worker) (k : ℕ) (ws : List (Seat Worker)) → workers_of x.busy (ws ++ seat_of k x ∷ []) ≡ workers_of x.busy ws ++ seat_of k x ∷ []
kind_append x k ws = alike-append (λ (a b : Worker). same_bool x.busy b.busy) x x k ws ∙ ap (λ (b : Bool). workers_of x.busy ws ++ cond b (seat_of k x ∷ []) []) (own_bool x.busy)
