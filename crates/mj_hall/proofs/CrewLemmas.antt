-- The workers of a hall, once the one of a connection has left.
use Rattle.std.proofs.Common.{◌≡◌, ℕ, ◌==◌, Bool, true, false, not, cond, ◌&&◌, List, [], ◌∷◌, ◌++◌, Option, Some, None, is_some, refl, sym, ◌∙◌, ap, subst, arith}
use Rattle.std.specs.List.{filter}
use Rattle.std.proofs.lemmas.Bool.Decides.{nat_tests}
use Rattle.mj_counted.specs.declared.index.Index.{Index}
use Rattle.mj_counted.specs.declared.rows.Rows.{Rows}
use Rattle.mj_counted.specs.Names.{key_of}
use Rattle.mj_counted.specs.Rows.{entry}
use Rattle.mj_chain.specs.declared.desk.Desk.{Desk}
use Rattle.mj_chain.specs.declared.node.Node.{Node}
use Rattle.mj_chain.specs.Seats.{Seat, are_distinct, found, seat_key, take_out}
use Rattle.mj_chain.proofs.ListLemmas.{distinct_parts}
use Rattle.mj_chain.proofs.RowLemmas.{alike-out}
use Rattle.mj_queue.specs.Settling.{without_worker}
use Rattle.mj_queue.specs.declared.worker.Waiter.{Waiter}
use Rattle.mj_hall.specs.declared.kept.Queued.{Queued}
use Rattle.mj_hall.specs.declared.kept.Worker.{Worker}
use Rattle.mj_hall.specs.Asking.{of_desk}
use Rattle.mj_hall.specs.Crew.{Crew, without_conn}
use Rattle.mj_hall.specs.Desks.{Desks, desk_of}
use Rattle.mj_hall.specs.Floor.{waiters_of}
use Rattle.mj_hall.specs.Ready.{ReadyBut, first_pair, pair_in}
use Rattle.mj_hall.specs.Serving.{NoneOf, Serving, is_of_conn, same_bool, workers_at, workers_of}
use Rattle.mj_hall.proofs.DeskLemmas.{part-same, part-stays}
use Rattle.mj_hall.proofs.ReadyLemmas.{hidden_stays}
use Rattle.mj_hall.proofs.TakeLemmas.{filter-found, later_found, own_found}

number_is : (a n : ℕ) → (a == n) ≡ true → a ≡ n
number_is a n e = grind (arith, nat_tests)

own_number : (n : ℕ) → (n == n) ≡ true
own_number n = grind (arith, nat_tests)

wrong : (A : Type 0) → true ≡ false → A
wrong A e = cc

-- two tests that say the same of all that is found pick the same
module _ {T : Type 0} (p q : Seat T → Bool) where
  pub filter_same : (xs : List (Seat T)) → are_distinct seat_key xs ≡ true → ((k : ℕ) (v : T) → found k xs ≡ Some v → p (record { key = k; value = v }) ≡ q (record { key = k; value = v })) → filter p xs ≡ filter q xs
  filter_same [] d same = refl
  filter_same (s ∷ ss) d same = rw (same s.key s.value (own_found s ss)) (of (q s) (filter_same ss (distinct_parts seat_key s ss d).1 (λ k v e. same k v (later_found s ss k v d e))))
    where
      of : (b : Bool) → filter p ss ≡ filter q ss → cond b (s ∷ filter p ss) (filter p ss) ≡ cond b (s ∷ filter q ss) (filter q ss)
      of true later = ap (λ (ys : List (Seat T)). s ∷ ys) later
      of false later = later

pub all_stay : {T : Type 0} (xs : List (Seat T)) → filter (λ s. true) xs ≡ xs
all_stay [] = refl
all_stay {T} (s ∷ ss) = ap (λ (ys : List (Seat T)). s ∷ ys) (all_stay ss)

-- where none has the connection all stay
pub without_none : (n : ℕ) (ws : List (Seat Worker)) → are_distinct seat_key ws ≡ true → NoneOf n ws → without_conn n ws ≡ ws
without_none n ws d none =
    filter_same (λ (s : Seat Worker). not (s.value.waiter.worker == n)) (λ s. true) ws d (λ k v e. ap not (ap (is_of_conn n) (sym e) ∙ none k)) ∙ all_stay ws

pub none_without : (n : ℕ) (ws : List (Seat Worker)) → are_distinct seat_key ws ≡ true → NoneOf n (without_conn n ws)
none_without n ws d k = of (found k (without_conn n ws)) refl
  where
    not_true : (b : Bool) → not b ≡ true → b ≡ false
    not_true true e = cc
    not_true false e = refl

    of : (o : Option Worker) → found k (without_conn n ws) ≡ o → is_of_conn n (found k (without_conn n ws)) ≡ false
    of None e = ap (is_of_conn n) e
    of (Some v) e = ap (is_of_conn n) e ∙ not_true (v.waiter.worker == n) (filter-found (λ (w : Worker). not (w.waiter.worker == n)) k v ws d e).passes

-- the flat list without the worker
pub without_waiters : (busy : Bool) (n : ℕ) (ws : List (Seat Worker)) → waiters_of (workers_of busy (without_conn n ws)) ≡ without_worker n (waiters_of (workers_of busy ws))
without_waiters busy n [] = refl
without_waiters busy n (s ∷ ss) = of (s.value.waiter.worker == n) refl (same_bool busy s.value.busy) refl (without_waiters busy n ss)
  where
    of : (b : Bool) → (s.value.waiter.worker == n) ≡ b → (c : Bool) → same_bool busy s.value.busy ≡ c → waiters_of (workers_of busy (without_conn n ss)) ≡ without_worker n (waiters_of (workers_of busy ss))
        → waiters_of (workers_of busy (cond (not b) (s ∷ without_conn n ss) (without_conn n ss))) ≡ without_worker n (waiters_of (cond c (s ∷ workers_of busy ss) (workers_of busy ss)))
    of true e true f later = rw e later
    of true e false f later = later
    of false e true f later = rw (e, f) (ap (λ (xs : List Waiter). s.value.waiter ∷ xs) later)
    of false e false f later = rw f later

-- who leaves, with the desk that was read of it
pub record Going (n k desk : ℕ) (busy : Bool) (places : Rows Desk) (names : Index) (es : List (Seat Queued)) (ws : List (Seat Worker)) : Type 0 where
  pub worker : Worker
  pub at : found k ws ≡ Some worker
  pub conn : worker.waiter.worker ≡ n
  pub post : worker.desk ≡ desk
  pub kind : worker.busy ≡ busy
  pub named : key_of names worker.waiter.service ≡ Some desk
  pub here : entry places desk ≡ Some (desk_of desk es ws)
  pub whole : take_out seat_key k ws ≡ without_conn n ws

pub conn_found : (n k : ℕ) (ws : List (Seat Worker)) → is_of_conn n (found k ws) ≡ true → (w : Worker) × (found k ws ≡ Some w) × (w.waiter.worker ≡ n)
conn_found n k ws e = of (found k ws) refl e
  where
    of : (o : Option Worker) → found k ws ≡ o → is_of_conn n o ≡ true → (w : Worker) × (found k ws ≡ Some w) × (w.waiter.worker ≡ n)
    of None f g = cc
    of (Some v) f g = (v, f, number_is v.waiter.worker n g)

pub out_is_without : (rows : Rows (Node Worker)) (conns : List (ℕ × ℕ)) (ws : List (Seat Worker)) (n k : ℕ) (w : Worker) → Serving rows conns ws → found k ws ≡ Some w → w.waiter.worker ≡ n → take_out seat_key k ws ≡ without_conn n ws
out_is_without rows conns ws n k w a at conn =
    filter_same (λ (s : Seat Worker). not (s.key == k)) (λ s. not (s.value.waiter.worker == n)) ws a.distinct (λ j v e. ap not (of j v e (j == k) refl (v.waiter.worker == n) refl))
  where
    here : is_of_conn n (found k ws) ≡ true
    here = ap (is_of_conn n) at ∙ ap (λ (m : ℕ). m == n) conn ∙ own_number n

    of : (j : ℕ) (v : Worker) → found j ws ≡ Some v → (b : Bool) → (j == k) ≡ b → (c : Bool) → (v.waiter.worker == n) ≡ c → (j == k) ≡ (v.waiter.worker == n)
    of j v e true f true g = f ∙ sym g
    of j v e true f false g =
        let same : j ≡ k = number_is j k f in
        let equal : is_of_conn n (found j ws) ≡ true = subst (λ (i : ℕ). is_of_conn n (found i ws) ≡ true) (sym same) here in
        wrong _ (sym equal ∙ ap (is_of_conn n) e ∙ g)
    of j v e false f true g =
        let same : j ≡ k = a.single n j k (ap (is_of_conn n) e ∙ g) here in
        let equal : (j == k) ≡ true = subst (λ (i : ℕ). (j == i) ≡ true) same (own_number j) in
        wrong _ (sym equal ∙ f)
    of j v e false f false g = f ∙ sym g

same_post : (o : Option (ℕ × Bool)) (p q : ℕ × Bool) → o ≡ Some p → o ≡ Some q → q ≡ p
same_post o p q e f = cc

pub going_at : (rows : Rows (Node Worker)) (conns : List (ℕ × ℕ)) (places : Rows Desk) (names : Index) (es : List (Seat Queued)) (ws : List (Seat Worker)) (n k : ℕ) (read : Option (ℕ × Bool)) (post : ℕ × Bool) → Serving rows conns ws → Desks places names es ws → is_of_conn n (found k ws) ≡ true
    → ((cs : List (ℕ × ℕ)) (xs : List (Seat Worker)) (w : Worker) → Serving rows cs xs → found k xs ≡ Some w → read ≡ Some (w.desk, w.busy)) → read ≡ Some post → Going n k post.0 post.1 places names es ws
going_at rows conns places names es ws n k read post a are there reads is =
    let one = conn_found n k ws there in
    let same : (one.0.desk, one.0.busy) ≡ post = same_post read post (one.0.desk, one.0.busy) is (reads conns ws one.0 a one.1) in
    let desk : one.0.desk ≡ post.0 = ap (λ (p : ℕ × Bool). p.0) same in
    let named : key_of names one.0.waiter.service ≡ Some post.0 = are.served k one.0 one.1 ∙ ap (λ (m : ℕ). Some m) desk in
    record {
      worker = one.0;
      at = one.1;
      conn = one.2;
      post = desk;
      kind = ap (λ (p : ℕ × Bool). p.1) same;
      named = named;
      here = are.each one.0.waiter.service post.0 named;
      whole = out_is_without rows conns ws n k one.0 a one.1 one.2;
    }

-- the other desks see nothing of it
pub hidden_goes : (n k d : ℕ) (busy : Bool) (places : Rows Desk) (names : Index) (pairs : List (ℕ × ℕ)) (es : List (Seat Queued)) (ws : List (Seat Worker)) → are_distinct seat_key ws ≡ true → Going n k d busy places names es ws → ReadyBut (Some d) pairs es ws → ReadyBut (Some d) pairs es (take_out seat_key k ws)
hidden_goes n k d busy places names pairs es ws distinct going ready =
    hidden_stays d pairs es es ws (take_out seat_key k ws) (λ m e. refl)
    (λ m e. part-stays (λ (u : Worker). same_bool false u.busy && (u.desk == m)) k going.worker ws distinct going.at (away going.worker.busy m (subst (λ (i : ℕ). (i == m) ≡ false) (sym going.post) e))) ready
  where
    nothing : (c : Bool) → (c && false) ≡ false
    nothing true = refl
    nothing false = refl

    away : (b : Bool) (m : ℕ) → (going.worker.desk == m) ≡ false → (same_bool false b && (going.worker.desk == m)) ≡ false
    away b m e = ap (λ (c : Bool). same_bool false b && c) e ∙ nothing (same_bool false b)

-- a pair that is left was there before
pub was_pair_worker : (k d : ℕ) (es : List (Seat Queued)) (ws : List (Seat Worker)) (w : Worker) → is_some (pair_in es (take_out seat_key k ws) d) ≡ true → is_some (pair_in es ws d) ≡ true
was_pair_worker k d es ws w e = of (workers_at false d ws) (of_desk d es) (ap (λ (xs : List (Seat Worker)). is_some (first_pair d xs (of_desk d es))) (sym (alike-out (λ (a b : Worker). same_bool false b.busy && (b.desk == d)) w k ws)) ∙ e)
  where
    of : (xs : List (Seat Worker)) (ys : List (Seat Queued)) → is_some (first_pair d (take_out seat_key k xs) ys) ≡ true → is_some (first_pair d xs ys) ≡ true
    of [] ys f = f
    of (x ∷ xs) [] f = none (take_out seat_key k (x ∷ xs)) f
      where
        none : (zs : List (Seat Worker)) → is_some (first_pair d zs []) ≡ true → is_some (first_pair d (x ∷ xs) []) ≡ true
        none [] g = g
        none (z ∷ zs) g = g
    of (x ∷ xs) (y ∷ ys) f = refl

pub was_pair_request : (k d : ℕ) (es : List (Seat Queued)) (ws : List (Seat Worker)) (q : Queued) → is_some (pair_in (take_out seat_key k es) ws d) ≡ true → is_some (pair_in es ws d) ≡ true
was_pair_request k d es ws q e = of (workers_at false d ws) (of_desk d es) (ap (λ (ys : List (Seat Queued)). is_some (first_pair d (workers_at false d ws) ys)) (sym (alike-out (λ (a b : Queued). b.desk == d) q k es)) ∙ e)
  where
    of : (xs : List (Seat Worker)) (ys : List (Seat Queued)) → is_some (first_pair d xs (take_out seat_key k ys)) ≡ true → is_some (first_pair d xs ys) ≡ true
    of [] ys f = f
    of (x ∷ xs) [] f = f
    of (x ∷ xs) (y ∷ ys) f = refl

pub same_some : {A : Type 0} (o : Option A) (x y : A) → o ≡ Some x → o ≡ Some y → x ≡ y
same_some o x y e f = cc

pub crew_same : {requests : Rows (Node Queued)} {workers : Rows (Node Worker)} {conns : List (ℕ × ℕ)} {places : Rows Desk} {names : Index} {pairs : List (ℕ × ℕ)} {a b c d e f : ℕ} {es : List (Seat Queued)} {xs ys : List (Seat Worker)} → xs ≡ ys
    → Crew requests workers conns places names pairs a b c d e f es xs → Crew requests workers conns places names pairs a b c d e f es ys
crew_same {requests} {workers} {conns} {places} {names} {pairs} {a} {b} {c} {d} {e} {f} {es} {xs} {ys} same crew = subst (λ (zs : List (Seat Worker)). Crew requests workers conns places names pairs a b c d e f es zs) same crew

-- the other desks see nothing of one that comes
pub hidden_comes : (k : ℕ) (v : Worker) (pairs : List (ℕ × ℕ)) (es : List (Seat Queued)) (ws : List (Seat Worker)) → ReadyBut (Some v.desk) pairs es ws → ReadyBut (Some v.desk) pairs es (ws ++ record { key = k; value = v } ∷ [])
hidden_comes k v pairs es ws ready =
    hidden_stays v.desk pairs es es ws (ws ++ record { key = k; value = v } ∷ []) (λ m e. refl)
    (λ m e. part-same (λ (u : Worker). same_bool false u.busy && (u.desk == m)) k v ws (ap (λ (c : Bool). same_bool false v.busy && c) e ∙ nothing (same_bool false v.busy))) ready
  where
    nothing : (c : Bool) → (c && false) ≡ false
    nothing true = refl
    nothing false = refl
