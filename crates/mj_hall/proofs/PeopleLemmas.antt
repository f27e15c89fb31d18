-- Who is left at a desk, once somebody has left or come, and which desks are shut.
use Rattle.std.proofs.Common.{◌≡◌, ℕ, ◌==◌, Bool, true, false, cond, ◌||◌, ◌&&◌, List, [], ◌∷◌, ◌++◌, Option, Some, None, is_some, refl, sym, ◌∙◌, ap, subst, arith}
use Rattle.std.specs.List.{filter}
use Rattle.std.specs.Str.{bytes_eq}
use Rattle.std.specs.Cmp.Lexicographic.{bytes_decides}
use Rattle.std.proofs.lemmas.Bool.Decides.{nat_tests}
use Rattle.mj_counted.specs.declared.index.Index.{Index}
use Rattle.mj_counted.specs.declared.rows.Rows.{Rows}
use Rattle.mj_counted.specs.Names.{key_of}
use Rattle.mj_counted.specs.Rows.{entry}
use Rattle.mj_chain.specs.declared.desk.Desk.{Desk}
use Rattle.mj_chain.specs.declared.node.Ends.{Ends}
use Rattle.mj_chain.specs.Links.{ends_of}
use Rattle.mj_chain.specs.Seats.{Seat, are_distinct, found, head_of, is_key, seat_key, take_out}
use Rattle.mj_chain.proofs.RowLemmas.{alike-append}
use Rattle.mj_hall.specs.declared.kept.Queued.{Queued}
use Rattle.mj_hall.specs.declared.kept.Worker.{Worker}
use Rattle.mj_hall.specs.Asking.{of_desk}
use Rattle.mj_hall.specs.Desks.{Desks, PeopledBut, desk_of, is_peopled}
use Rattle.mj_hall.specs.Serving.{same_bool, workers_at}
use Rattle.mj_hall.proofs.DeskLemmas.{part-stays}
use Rattle.mj_hall.proofs.ReadyLemmas.{desk_is}

number_is : (a n : ℕ) → (a == n) ≡ true → a ≡ n
number_is a n e = grind (arith, nat_tests)

own_number : (n : ℕ) → (n == n) ≡ true
own_number n = grind (arith, nat_tests)

turned_number : (a b : ℕ) → (a == b) ≡ (b == a)
turned_number a b = grind (arith, nat_tests)

own_bool : (b : Bool) → same_bool b b ≡ true
own_bool true = refl
own_bool false = refl

wrong : (A : Type 0) → true ≡ false → A
wrong A e = cc

abbrev any : {T : Type 0} → List (Seat T) → Bool
any xs = is_some (head_of seat_key xs)

module _ {T : Type 0} (test : T → Bool) where
  abbrev part : List (Seat T) → List (Seat T)
  part xs = filter (λ s. test s.value) xs

  any_more : (xs ys : List (Seat T)) → any xs ≡ true → any (xs ++ ys) ≡ true
  any_more [] ys e = cc
  any_more (x ∷ xs) ys e = refl

  any_own : (xs : List (Seat T)) (s : Seat T) → any (xs ++ s ∷ []) ≡ true
  any_own [] s = refl
  any_own (x ∷ xs) s = refl

  part_more : (k : ℕ) (v : T) (xs : List (Seat T)) → any (part xs) ≡ true → any (part (xs ++ record { key = k; value = v } ∷ [])) ≡ true
  part_more k v xs e = ap any (alike-append (λ (a b : T). test b) v v k xs) ∙ any_more (part xs) (cond (test v) (record { key = k; value = v } ∷ []) []) e

  part_own : (k : ℕ) (v : T) (xs : List (Seat T)) → test v ≡ true → any (part (xs ++ record { key = k; value = v } ∷ [])) ≡ true
  part_own k v xs e =
      ap any (alike-append (λ (a b : T). test b) v v k xs) ∙ ap (λ (b : Bool). any (part xs ++ cond b (record { key = k; value = v } ∷ []) [])) e ∙ any_own (part xs) (record { key = k; value = v })

three_more : (a b c d e f : Bool) → (a ≡ true → d ≡ true) → (b ≡ true → e ≡ true) → (c ≡ true → f ≡ true) → (a || (b || c)) ≡ true → (d || (e || f)) ≡ true
three_more true b c d e f one two three h = rw (one refl) refl
three_more false true c d e f one two three h = rw (two refl) (or_true d)
  where
    or_true : (x : Bool) → (x || true) ≡ true
    or_true true = refl
    or_true false = refl
three_more false false c d e f one two three h = rw (three h) (or_true d e)
  where
    or_true : (x y : Bool) → (x || (y || true)) ≡ true
    or_true true y = refl
    or_true false true = refl
    or_true false false = refl

-- somebody comes
pub more_request : (k d : ℕ) (x : Queued) (es : List (Seat Queued)) (ws : List (Seat Worker)) → is_peopled (desk_of d es ws) ≡ true → is_peopled (desk_of d (es ++ record { key = k; value = x } ∷ []) ws) ≡ true
more_request k d x es ws e = three_more (any (of_desk d es)) (any (workers_at false d ws)) (any (workers_at true d ws)) (any (of_desk d (es ++ record { key = k; value = x } ∷ []))) (any (workers_at false d ws)) (any (workers_at true d ws)) (part_more (λ (q : Queued). q.desk == d) k x es) (λ h. h) (λ h. h) e

pub own_request : (k : ℕ) (x : Queued) (es : List (Seat Queued)) (ws : List (Seat Worker)) → is_peopled (desk_of x.desk (es ++ record { key = k; value = x } ∷ []) ws) ≡ true
own_request k x es ws = ap (λ (b : Bool). b || (any (workers_at false x.desk ws) || any (workers_at true x.desk ws))) (part_own (λ (q : Queued). q.desk == x.desk) k x es (own_number x.desk))

abbrev at : Bool → ℕ → Worker → Bool
at busy d w = same_bool busy w.busy && (w.desk == d)

pub more_worker : (k d : ℕ) (v : Worker) (es : List (Seat Queued)) (ws : List (Seat Worker)) → is_peopled (desk_of d es ws) ≡ true → is_peopled (desk_of d es (ws ++ record { key = k; value = v } ∷ [])) ≡ true
more_worker k d v es ws e = three_more (any (of_desk d es)) (any (workers_at false d ws)) (any (workers_at true d ws)) (any (of_desk d es)) (any (workers_at false d (ws ++ record { key = k; value = v } ∷ []))) (any (workers_at true d (ws ++ record { key = k; value = v } ∷ []))) (λ h. h) (part_more (at false d) k v ws) (part_more (at true d) k v ws) e

pub own_worker : (k : ℕ) (v : Worker) (es : List (Seat Queued)) (ws : List (Seat Worker)) → is_peopled (desk_of v.desk es (ws ++ record { key = k; value = v } ∷ [])) ≡ true
own_worker k v es ws = of v.busy refl
  where
    here : (b : Bool) → v.busy ≡ b → at b v.desk v ≡ true
    here b e = ap (λ (c : Bool). same_bool b c && (v.desk == v.desk)) e ∙ ap (λ (c : Bool). c && (v.desk == v.desk)) (own_bool b) ∙ own_number v.desk

    waits : (a b c : Bool) → b ≡ true → (a || (b || c)) ≡ true
    waits true b c e = refl
    waits false b c e = ap (λ (x : Bool). x || c) e

    serves : (a b c : Bool) → c ≡ true → (a || (b || c)) ≡ true
    serves true b c e = refl
    serves false true c e = refl
    serves false false c e = e

    of : (b : Bool) → v.busy ≡ b → is_peopled (desk_of v.desk es (ws ++ record { key = k; value = v } ∷ [])) ≡ true
    of false e = waits _ _ _ (part_own (at false v.desk) k v ws (here false e))
    of true e = serves _ _ _ (part_own (at true v.desk) k v ws (here true e))

-- other desks see nothing of one that leaves
abbrev desk_with : Ends → Ends → Ends → Desk
desk_with requests waiting busy = record { requests = requests; waiting = waiting; busy = busy }

pub desk_request_out : (k d : ℕ) (x : Queued) (es : List (Seat Queued)) (ws : List (Seat Worker)) → are_distinct seat_key es ≡ true → found k es ≡ Some x → (x.desk == d) ≡ false → desk_of d (take_out seat_key k es) ws ≡ desk_of d es ws
desk_request_out k d x es ws distinct there e = ap (λ (xs : List (Seat Queued)). desk_with (ends_of seat_key xs) (ends_of seat_key (workers_at false d ws)) (ends_of seat_key (workers_at true d ws))) (part-stays (λ (q : Queued). q.desk == d) k x es distinct there e)

nothing : (c : Bool) → (c && false) ≡ false
nothing true = refl
nothing false = refl

away : (busy : Bool) (d : ℕ) (w : Worker) → (w.desk == d) ≡ false → at busy d w ≡ false
away busy d w e = ap (λ (c : Bool). same_bool busy w.busy && c) e ∙ nothing (same_bool busy w.busy)

pub desk_worker_out : (k d : ℕ) (w : Worker) (es : List (Seat Queued)) (ws : List (Seat Worker)) → are_distinct seat_key ws ≡ true → found k ws ≡ Some w → (w.desk == d) ≡ false → desk_of d es (take_out seat_key k ws) ≡ desk_of d es ws
desk_worker_out k d w es ws distinct there e =
    ap (λ (xs : List (Seat Worker)). desk_with (ends_of seat_key (of_desk d es)) (ends_of seat_key xs) (ends_of seat_key (workers_at true d (take_out seat_key k ws)))) (part-stays (at false d) k w ws distinct there (away false d w e))
    ∙ ap (λ (xs : List (Seat Worker)). desk_with (ends_of seat_key (of_desk d es)) (ends_of seat_key (workers_at false d ws)) (ends_of seat_key xs)) (part-stays (at true d) k w ws distinct there (away true d w e))

-- a pair is taken, and its worker is busy at the same desk
pub pair_people : (desk r k n : ℕ) (x : Queued) (w v : Worker) (names : Index) (es : List (Seat Queued)) (ws : List (Seat Worker)) → are_distinct seat_key es ≡ true → are_distinct seat_key ws ≡ true → found r es ≡ Some x → found k ws ≡ Some w → x.desk ≡ desk → w.desk ≡ desk → v.desk ≡ desk
    → PeopledBut None names es ws → PeopledBut None names (take_out seat_key r es) (take_out seat_key k ws ++ record { key = n; value = v } ∷ [])
pair_people desk r k n x w v names es ws distinct_es distinct_ws asked served x_desk w_desk v_desk people q d e h = of (desk == d) refl
  where
    of : (b : Bool) → (desk == d) ≡ b → is_peopled (desk_of d (take_out seat_key r es) (take_out seat_key k ws ++ record { key = n; value = v } ∷ [])) ≡ true
    of true f = subst (λ (m : ℕ). is_peopled (desk_of m (take_out seat_key r es) (take_out seat_key k ws ++ record { key = n; value = v } ∷ [])) ≡ true) (v_desk ∙ number_is desk d f) (own_worker n v (take_out seat_key r es) (take_out seat_key k ws))
    of false f =
        more_worker n d v (take_out seat_key r es) (take_out seat_key k ws)
        (ap is_peopled (desk_worker_out k d w (take_out seat_key r es) ws distinct_ws served (subst (λ (m : ℕ). (m == d) ≡ false) (sym w_desk) f) ∙ desk_request_out r d x es ws distinct_es asked (subst (λ (m : ℕ). (m == d) ≡ false) (sym x_desk) f)) ∙ people q d e refl)

-- a request comes to a desk that may have been opened for it
pub request_people : (k desk : ℕ) (x : Queued) (names names_new : Index) (es : List (Seat Queued)) (ws : List (Seat Worker)) → x.desk ≡ desk → ((q : List ℕ) (d : ℕ) → key_of names_new q ≡ Some d → (d == desk) ≡ false → key_of names q ≡ Some d)
    → PeopledBut None names es ws → PeopledBut None names_new (es ++ record { key = k; value = x } ∷ []) ws
request_people k desk x names names_new es ws x_desk opened people q d e h = of (d == desk) refl
  where
    of : (b : Bool) → (d == desk) ≡ b → is_peopled (desk_of d (es ++ record { key = k; value = x } ∷ []) ws) ≡ true
    of true f = subst (λ (m : ℕ). is_peopled (desk_of m (es ++ record { key = k; value = x } ∷ []) ws) ≡ true) (x_desk ∙ sym (number_is d desk f)) (own_request k x es ws)
    of false f = more_request k d x es ws (people q d (opened q d e f) refl)

-- a worker comes to a desk that may have been opened for it, while the one that it had may have nobody
pub worker_people : (hidden : Option ℕ) (k desk : ℕ) (v : Worker) (names names_new : Index) (es : List (Seat Queued)) (ws left : List (Seat Worker)) → v.desk ≡ desk → ((q : List ℕ) (d : ℕ) → key_of names_new q ≡ Some d → (d == desk) ≡ false → key_of names q ≡ Some d)
    → ((d : ℕ) → is_key d hidden ≡ false → desk_of d es left ≡ desk_of d es ws) → PeopledBut None names es ws → PeopledBut hidden names_new es (left ++ record { key = k; value = v } ∷ [])
worker_people hidden k desk v names names_new es ws left v_desk opened others people q d e h = of (d == desk) refl
  where
    of : (b : Bool) → (d == desk) ≡ b → is_peopled (desk_of d es (left ++ record { key = k; value = v } ∷ [])) ≡ true
    of true f = subst (λ (m : ℕ). is_peopled (desk_of m es (left ++ record { key = k; value = v } ∷ [])) ≡ true) (v_desk ∙ sym (number_is d desk f)) (own_worker k v es left)
    of false f = more_worker k d v es left (ap is_peopled (others d h) ∙ people q d (opened q d e f) refl)

-- desks that are opened and shut
pub opened_other : (name q : List ℕ) (key d : ℕ) (old new : Index) → ((p : List ℕ) → key_of new p ≡ cond (bytes_eq name p) (Some key) (key_of old p)) → key_of new q ≡ Some d → (d == key) ≡ false → key_of old q ≡ Some d
opened_other name q key d old new changed e apart = of (bytes_eq name q) (sym (changed q) ∙ e)
  where
    of : (b : Bool) → cond b (Some key) (key_of old q) ≡ Some d → key_of old q ≡ Some d
    of true f =
        let same : key ≡ d = cc in
        wrong _ (sym (subst (λ (n : ℕ). (n == key) ≡ true) same (own_number key)) ∙ apart)
    of false f = f

pub no_desk : {desk : Desk} (A : Type 0) → None ≡ Some desk → A
no_desk A e = cc

module _ (desks : Rows Desk) (names : Index) (es : List (Seat Queued)) (ws : List (Seat Worker)) (name : List ℕ) (key : ℕ) (are : Desks desks names es ws) (named : key_of names name ≡ Some key) where
  pub stay_people : (desk : Desk) → Some desk ≡ entry desks key → is_peopled desk ≡ true → PeopledBut (Some key) names es ws → PeopledBut None names es ws
  stay_people desk read some people q d e h = of (key == d) refl
    where
      of : (b : Bool) → (key == d) ≡ b → is_peopled (desk_of d es ws) ≡ true
      of true f = subst (λ (m : ℕ). is_peopled (desk_of m es ws) ≡ true) (number_is key d f) (ap is_peopled (sym (desk_is (entry desks key) key desk es ws read (are.each name key named))) ∙ some)
      of false f = people q d e f

  pub shut_people : (names_new : Index) → ((p : List ℕ) → key_of names_new p ≡ cond (bytes_eq name p) None (key_of names p)) → PeopledBut (Some key) names es ws → PeopledBut None names_new es ws
  shut_people names_new changed people q d e h = of (bytes_eq name q) refl (sym (changed q) ∙ e)
    where
      other : key_of names q ≡ Some d → bytes_eq name q ≡ false → (b : Bool) → (key == d) ≡ b → (key == d) ≡ false
      other f g true i =
          let same : name ≡ q = are.one name q d (named ∙ ap (λ (n : ℕ). Some n) (number_is key d i)) f in
          wrong _ (sym ((bytes_decides name q).1 same) ∙ g)
      other f g false i = i

      of : (b : Bool) → bytes_eq name q ≡ b → cond b None (key_of names q) ≡ Some d → is_peopled (desk_of d es ws) ≡ true
      of true g f = cc
      of false g f = people q d f (other f g (key == d) refl)
