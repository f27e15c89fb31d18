-- Which desks have a pair, once one is hidden, changed, or shown again.
use Rattle.std.proofs.Common.{◌≡◌, ℕ, ◌==◌, Bool, true, false, not, cond, ◌||◌, ◌&&◌, List, [], ◌∷◌, Option, Some, None, refl, sym, ◌∙◌, ap, subst, arith}
use Rattle.std.specs.List.{filter}
use Rattle.std.specs.Option.{option_map}
use Rattle.std.proofs.lemmas.Bool.Decides.{nat_tests}
use Rattle.mj_counted.specs.declared.rows.Rows.{Rows}
use Rattle.mj_counted.specs.Pairs.{has_pair, is_pair, same_pair}
use Rattle.mj_counted.specs.Rows.{entry}
use Rattle.mj_chain.specs.declared.desk.Desk.{Desk}
use Rattle.mj_chain.specs.declared.node.Node.{Node}
use Rattle.mj_chain.specs.Nodes.{RowsAre, node_at}
use Rattle.mj_chain.specs.Seats.{Seat, are_distinct, found, has_key, head_of, seat_key}
use Rattle.mj_chain.proofs.ListLemmas.{distinct_parts, same_key}
use Rattle.mj_chain.proofs.RowLemmas.{found-key}
use Rattle.mj_hall.specs.declared.kept.Queued.{Queued}
use Rattle.mj_hall.specs.declared.kept.Worker.{Worker}
use Rattle.mj_hall.specs.Asking.{of_desk, queued_classes}
use Rattle.mj_hall.specs.Serving.{workers_at}
use Rattle.mj_hall.specs.Desks.{desk_of}
use Rattle.mj_hall.specs.Ready.{ReadyBut, first_pair, pair_in}

number_is : (a n : ℕ) → (a == n) ≡ true → a ≡ n
number_is a n e = grind (arith, nat_tests)

own_number : (n : ℕ) → (n == n) ≡ true
own_number n = grind (arith, nat_tests)

-- the first of a part of the list is found in the list
pub head_found : {T : Type 0} (test : T → Bool) (xs : List (Seat T)) (s : Seat T) (rest : List (Seat T)) → are_distinct seat_key xs ≡ true → filter (λ s. test s.value) xs ≡ s ∷ rest → found s.key xs ≡ Some s.value
head_found test [] s rest d e = cc
head_found test (x ∷ xs) s rest d e = of (test x.value) e (λ h. head_found test xs s rest (distinct_parts seat_key x xs d).1 h)
  where
    later : found s.key xs ≡ Some s.value → (b : Bool) → (x.key == s.key) ≡ b → cond b (Some x.value) (found s.key xs) ≡ Some s.value
    later f true g =
        let there : has_key seat_key s.key xs ≡ true = found-key s.key xs s.value f in
        let missing : has_key seat_key s.key xs ≡ false = subst (λ (n : ℕ). has_key seat_key n xs ≡ false) (same_key x.key s.key g) (distinct_parts seat_key x xs d).0 in
        cc
    later f false g = f

    of : (b : Bool) → cond b (x ∷ filter (λ s. test s.value) xs) (filter (λ s. test s.value) xs) ≡ s ∷ rest → (filter (λ s. test s.value) xs ≡ s ∷ rest → found s.key xs ≡ Some s.value) → found s.key (x ∷ xs) ≡ Some s.value
    of true h rec =
        let same : x ≡ s = cc in
        subst (λ (y : Seat _). found y.key (x ∷ xs) ≡ Some y.value) same (own (own_number x.key))
      where
        own : (x.key == x.key) ≡ true → found x.key (x ∷ xs) ≡ Some x.value
        own g = rw g refl
    of false h rec = later (rec h) (x.key == s.key) refl

-- what is read of a desk
pub no_waiting : (es : List (Seat Queued)) (ws : List (Seat Worker)) (d : ℕ) → head_of seat_key (workers_at false d ws) ≡ None → pair_in es ws d ≡ None
no_waiting es ws d e = of (workers_at false d ws) e
  where
    of : (xs : List (Seat Worker)) → head_of seat_key xs ≡ None → first_pair d xs (of_desk d es) ≡ None
    of [] f = refl
    of (x ∷ xs) f = cc

pub no_request : (es : List (Seat Queued)) (ws : List (Seat Worker)) (d : ℕ) → head_of seat_key (of_desk d es) ≡ None → pair_in es ws d ≡ None
no_request es ws d e = of (workers_at false d ws) (of_desk d es) e
  where
    of : (xs : List (Seat Worker)) (ys : List (Seat Queued)) → head_of seat_key ys ≡ None → first_pair d xs ys ≡ None
    of [] ys f = refl
    of (x ∷ xs) [] f = refl
    of (x ∷ xs) (y ∷ ys) f = cc

abbrev labelled : ℕ → ℕ → Option (ℕ × ℕ)
labelled d label = Some (label, d)

pub some_pair : (rows : Rows (Node Queued)) (es : List (Seat Queued)) (ws : List (Seat Worker)) (d w r : ℕ) (node : Option (Node Queued)) → are_distinct seat_key es ≡ true → RowsAre queued_classes rows es
    → head_of seat_key (workers_at false d ws) ≡ Some w → head_of seat_key (of_desk d es) ≡ Some r → node ≡ entry rows r → pair_in es ws d ≡ option_map (λ (n : Node Queued). (n.value.label, d)) node
some_pair rows es ws d w r node distinct are waits asks node_is = of (workers_at false d ws) waits (of_desk d es) refl asks
  where
    of : (xs : List (Seat Worker)) → head_of seat_key xs ≡ Some w → (ys : List (Seat Queued)) → of_desk d es ≡ ys → head_of seat_key ys ≡ Some r → first_pair d xs ys ≡ option_map (λ (n : Node Queued). (n.value.label, d)) node
    of [] f ys e g = cc
    of (x ∷ xs) f [] e g = cc
    of (x ∷ xs) f (y ∷ ys) e g =
        let key : y.key ≡ r = cc in
        let at : found r es ≡ Some y.value = subst (λ (n : ℕ). found n es ≡ Some y.value) key (head_found (λ (v : Queued). v.desk == d) es y ys distinct e) in
        let is : node ≡ Some (node_at queued_classes es r y.value) = node_is ∙ are r ∙ ap (option_map (node_at queued_classes es r)) at in
        ap (option_map (λ (n : Node Queued). (n.value.label, d))) (sym is)

-- hidden and shown
pub hidden_some : (d label : ℕ) (old new : List (ℕ × ℕ)) (es : List (Seat Queued)) (ws : List (Seat Worker)) → pair_in es ws d ≡ labelled d label → ((p : ℕ × ℕ) → has_pair p new ≡ (not (same_pair p (label, d)) && has_pair p old))
    → ReadyBut None old es ws → ReadyBut (Some d) new es ws
hidden_some d label old new es ws is changed was p = changed p ∙ ap (λ (b : Bool). not (same_pair p (label, d)) && b) (was p) ∙ of (d == p.1) refl
  where
    none : (b : Bool) → (not b && b) ≡ false
    none true = refl
    none false = refl

    other : (m n l x : ℕ) → (n == m) ≡ false → not ((x == l) && (m == n)) ≡ true
    other m n l x e = grind (arith, nat_tests)

    of : (b : Bool) → (d == p.1) ≡ b → (not (same_pair p (label, d)) && is_pair p (pair_in es ws p.1)) ≡ (not b && is_pair p (pair_in es ws p.1))
    of true e =
        let same : d ≡ p.1 = number_is d p.1 e in
        let here : pair_in es ws p.1 ≡ labelled d label = subst (λ (n : ℕ). pair_in es ws n ≡ labelled d label) same is in
        ap (λ (o : Option (ℕ × ℕ)). not (same_pair p (label, d)) && is_pair p o) here ∙ none (same_pair p (label, d))
    of false e = ap (λ (b : Bool). b && is_pair p (pair_in es ws p.1)) (other p.1 d label p.0 e)

pub hidden_none : (d : ℕ) (old : List (ℕ × ℕ)) (es : List (Seat Queued)) (ws : List (Seat Worker)) → pair_in es ws d ≡ None → ReadyBut None old es ws → ReadyBut (Some d) old es ws
hidden_none d old es ws is was p = was p ∙ of (d == p.1) refl
  where
    of : (b : Bool) → (d == p.1) ≡ b → is_pair p (pair_in es ws p.1) ≡ (not b && is_pair p (pair_in es ws p.1))
    of true e =
        let here : pair_in es ws p.1 ≡ None = subst (λ (n : ℕ). pair_in es ws n ≡ None) (number_is d p.1 e) is in
        ap (is_pair p) here
    of false e = refl

pub shown_some : (d label : ℕ) (old new : List (ℕ × ℕ)) (es : List (Seat Queued)) (ws : List (Seat Worker)) → pair_in es ws d ≡ labelled d label → ((p : ℕ × ℕ) → has_pair p new ≡ (same_pair p (label, d) || has_pair p old))
    → ReadyBut (Some d) old es ws → ReadyBut None new es ws
shown_some d label old new es ws is changed was p = changed p ∙ ap (λ (b : Bool). same_pair p (label, d) || b) (was p) ∙ of (d == p.1) refl
  where
    or_false : (b : Bool) → (b || false) ≡ b
    or_false true = refl
    or_false false = refl

    other : (m n l x : ℕ) → (n == m) ≡ false → ((x == l) && (m == n)) ≡ false
    other m n l x e = grind (arith, nat_tests)

    of : (b : Bool) → (d == p.1) ≡ b → (same_pair p (label, d) || (not b && is_pair p (pair_in es ws p.1))) ≡ is_pair p (pair_in es ws p.1)
    of true e =
        let same : d ≡ p.1 = number_is d p.1 e in
        let here : pair_in es ws p.1 ≡ labelled d label = subst (λ (n : ℕ). pair_in es ws n ≡ labelled d label) same is in
        or_false (same_pair p (label, d)) ∙ ap (is_pair p) (sym here)
    of false e = ap (λ (b : Bool). b || is_pair p (pair_in es ws p.1)) (other p.1 d label p.0 e)

pub shown_none : (d : ℕ) (old : List (ℕ × ℕ)) (es : List (Seat Queued)) (ws : List (Seat Worker)) → pair_in es ws d ≡ None → ReadyBut (Some d) old es ws → ReadyBut None old es ws
shown_none d old es ws is was p = was p ∙ of (d == p.1) refl
  where
    of : (b : Bool) → (d == p.1) ≡ b → (not b && is_pair p (pair_in es ws p.1)) ≡ is_pair p (pair_in es ws p.1)
    of true e =
        let here : pair_in es ws p.1 ≡ None = subst (λ (n : ℕ). pair_in es ws n ≡ None) (number_is d p.1 e) is in
        ap (is_pair p) (sym here)
    of false e = refl

-- a hidden desk isn't there
pub hidden_free : (d label : ℕ) (old : List (ℕ × ℕ)) (es : List (Seat Queued)) (ws : List (Seat Worker)) → ReadyBut (Some d) old es ws → has_pair (label, d) old ≡ false
hidden_free d label old es ws was = was (label, d) ∙ ap (λ (b : Bool). not b && is_pair (label, d) (pair_in es ws d)) (own_number d)

-- a change at the hidden desk leaves all others as they were
pub hidden_stays : (d : ℕ) (old : List (ℕ × ℕ)) (es later : List (Seat Queued)) (ws served : List (Seat Worker)) → ((n : ℕ) → (d == n) ≡ false → of_desk n later ≡ of_desk n es) → ((n : ℕ) → (d == n) ≡ false → workers_at false n served ≡ workers_at false n ws)
    → ReadyBut (Some d) old es ws → ReadyBut (Some d) old later served
hidden_stays d old es later ws served asked waited was p = was p ∙ of (d == p.1) refl
  where
    of : (b : Bool) → (d == p.1) ≡ b → (not b && is_pair p (pair_in es ws p.1)) ≡ (not b && is_pair p (pair_in later served p.1))
    of true e = refl
    of false e =
        ap (λ (ys : List (Seat Queued)). is_pair p (first_pair p.1 (workers_at false p.1 ws) ys)) (sym (asked p.1 e))
        ∙ ap (λ (xs : List (Seat Worker)). is_pair p (first_pair p.1 xs (of_desk p.1 later))) (sym (waited p.1 e))

-- what is read of a desk that stands for its lines
pub desk_is : (o : Option Desk) (d : ℕ) (read : Desk) (es : List (Seat Queued)) (ws : List (Seat Worker)) → Some read ≡ o → o ≡ Some (desk_of d es ws) → read ≡ desk_of d es ws
desk_is o d read es ws e f = cc
