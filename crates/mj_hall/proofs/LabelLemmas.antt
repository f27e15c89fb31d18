-- What of a list of requests doesn't depend on their labels.
use Rattle.std.proofs.Common.{◌≡◌, ℕ, suc, ◌+◌, ◌==◌, ◌≤◌, nat_lt, Bool, true, false, not, cond, ◌||◌, ◌&&◌, List, [], ◌∷◌, ◌++◌, map, length, length-append, append_assoc, append-nil, Option, Some, None, is_some, unwrap_or, ◌<◌, refl, sym, ◌∙◌, ap, subst, arith}
use Rattle.std.specs.List.{filter, list_all}
use Rattle.std.specs.Option.{option_map}
use Rattle.std.proofs.lemmas.Bool.Decides.{nat_tests}
use Rattle.std.proofs.lemmas.Bool.{and_from}
use Rattle.mj_counted.specs.declared.index.Index.{Index}
use Rattle.mj_counted.specs.declared.rows.Rows.{Rows}
use Rattle.mj_counted.specs.Names.{key_of}
use Rattle.mj_counted.specs.Rows.{entry}
use Rattle.mj_chain.specs.declared.desk.Desk.{Desk}
use Rattle.mj_chain.specs.declared.node.Ends.{Ends}
use Rattle.mj_chain.specs.declared.node.Link.{Link}
use Rattle.mj_chain.specs.declared.node.Node.{Node}
use Rattle.mj_chain.specs.Links.{ends_of, link_in}
use Rattle.mj_chain.specs.Nodes.{RowsAre, alike, node_at}
use Rattle.mj_chain.specs.Seats.{Seat, are_distinct, found, has_key, head_of, last_from, next_in, prev_from, seat_key}
use Rattle.mj_chain.proofs.ListLemmas.{distinct_parts, same_key}
use Rattle.mj_chain.proofs.RowLemmas.{not_in_chain}
use Rattle.mj_queue.specs.declared.request.Request.{Request}
use Rattle.mj_hall.specs.declared.kept.Queued.{Queued}
use Rattle.mj_hall.specs.declared.kept.Worker.{Worker}
use Rattle.mj_hall.specs.Asking.{of_desk, queued_classes}
use Rattle.mj_hall.specs.Desks.{Desks, desk_of}
use Rattle.mj_hall.specs.Ends.{EndsAre, ends_from}
use Rattle.mj_hall.specs.Floor.{labels_below, labels_rise, requests_of}
use Rattle.mj_hall.specs.Labels.{Marked, node_with, numbered, relabelled, seat_with, with_label}
use Rattle.mj_hall.specs.Ready.{ReadyBut, first_pair}
use Rattle.mj_hall.specs.Serving.{workers_at}
use Rattle.mj_hall.proofs.ReadyLemmas.{hidden_stays}
use Rattle.mj_hall.proofs.WalkLemmas.{before_differs, found_mid, next_mid}

own_number : (n : ℕ) → (n == n) ≡ true
own_number n = grind (arith, nat_tests)

number_is : (a n : ℕ) → (a == n) ≡ true → a ≡ n
number_is a n e = grind (arith, nat_tests)

-- the list with all labels 0
abbrev pub bare : List (Seat Queued) → List (Seat Queued)
bare es = map (λ s. seat_with 0 s) es

pub bare-key : (k : ℕ) (es : List (Seat Queued)) → has_key seat_key k (bare es) ≡ has_key seat_key k es
bare-key k [] = refl
bare-key k (s ∷ ss) = ap (λ (b : Bool). (s.key == k) || b) (bare-key k ss)

pub bare-distinct : (es : List (Seat Queued)) → are_distinct seat_key (bare es) ≡ are_distinct seat_key es
bare-distinct [] = refl
bare-distinct (s ∷ ss) = ap (λ (b : Bool). not b && are_distinct seat_key (bare ss)) (bare-key s.key ss) ∙ ap (λ (b : Bool). not (has_key seat_key s.key ss) && b) (bare-distinct ss)

bare-head : (es : List (Seat Queued)) → head_of seat_key (bare es) ≡ head_of seat_key es
bare-head [] = refl
bare-head (s ∷ ss) = refl

bare-last : (before : Option ℕ) (es : List (Seat Queued)) → last_from seat_key before (bare es) ≡ last_from seat_key before es
bare-last before [] = refl
bare-last before (s ∷ ss) = bare-last (Some s.key) ss

bare-next : (k : ℕ) (es : List (Seat Queued)) → next_in seat_key k (bare es) ≡ next_in seat_key k es
bare-next k [] = refl
bare-next k (s ∷ ss) = ap (λ (o : Option ℕ). cond (s.key == k) o (next_in seat_key k (bare ss))) (bare-head ss) ∙ ap (cond (s.key == k) (head_of seat_key ss)) (bare-next k ss)

bare-prev : (before : Option ℕ) (k : ℕ) (es : List (Seat Queued)) → prev_from seat_key before k (bare es) ≡ prev_from seat_key before k es
bare-prev before k [] = refl
bare-prev before k (s ∷ ss) = ap (cond (s.key == k) before) (bare-prev (Some s.key) k ss)

bare-length : (es : List (Seat Queued)) → length (bare es) ≡ length es
bare-length [] = refl
bare-length (s ∷ ss) = ap suc (bare-length ss)

bare-requests : (es : List (Seat Queued)) → requests_of (bare es) ≡ requests_of es
bare-requests [] = refl
bare-requests (s ∷ ss) = ap (λ (rs : List Request). s.value.request ∷ rs) (bare-requests ss)

bare-filter : (t : Queued → Bool) → ((l : ℕ) (q : Queued) → t (with_label l q) ≡ t q) → (es : List (Seat Queued)) → filter (λ s. t s.value) (bare es) ≡ bare (filter (λ s. t s.value) es)
bare-filter t same [] = refl
bare-filter t same (s ∷ ss) = ap (λ (b : Bool). cond b (seat_with 0 s ∷ filter (λ s. t s.value) (bare ss)) (filter (λ s. t s.value) (bare ss))) (same 0 s.value) ∙ of (t s.value) (bare-filter t same ss)
  where
    of : (b : Bool) → filter (λ s. t s.value) (bare ss) ≡ bare (filter (λ s. t s.value) ss) → cond b (seat_with 0 s ∷ filter (λ s. t s.value) (bare ss)) (filter (λ s. t s.value) (bare ss)) ≡ bare (cond b (s ∷ filter (λ s. t s.value) ss) (filter (λ s. t s.value) ss))
    of true later = ap (λ (ys : List (Seat Queued)). seat_with 0 s ∷ ys) later
    of false later = later

bare-found : (k : ℕ) (es : List (Seat Queued)) → found k (bare es) ≡ option_map (with_label 0) (found k es)
bare-found k [] = refl
bare-found k (s ∷ ss) = of (s.key == k) (bare-found k ss)
  where
    of : (b : Bool) → found k (bare ss) ≡ option_map (with_label 0) (found k ss) → cond b (Some (with_label 0 s.value)) (found k (bare ss)) ≡ option_map (with_label 0) (cond b (Some s.value) (found k ss))
    of true later = refl
    of false later = later

pub bare-append : (xs ys : List (Seat Queued)) → bare (xs ++ ys) ≡ bare xs ++ bare ys
bare-append [] ys = refl
bare-append (x ∷ xs) ys = ap (λ (zs : List (Seat Queued)). seat_with 0 x ∷ zs) (bare-append xs ys)

pub bare-relabelled : (k l : ℕ) (es : List (Seat Queued)) → bare (relabelled k l es) ≡ bare es
bare-relabelled k l [] = refl
bare-relabelled k l (s ∷ ss) = ap (λ (zs : List (Seat Queued)). seat_with 0 s ∷ zs) (bare-relabelled k l ss)

pub bare-numbered : (n : ℕ) (es : List (Seat Queued)) → bare (numbered n es) ≡ bare es
bare-numbered n [] = refl
bare-numbered n (s ∷ ss) = ap (λ (zs : List (Seat Queued)). seat_with 0 s ∷ zs) (bare-numbered (suc n) ss)

abbrev linked : Option ℕ → Option ℕ → Link
linked p n = record { prev = p; next = n }

abbrev ended : Option ℕ → Option ℕ → Ends
ended f l = record { first = f; last = l }

-- two lists that are the same but for their labels
module _ (xs ys : List (Seat Queued)) (same : bare xs ≡ bare ys) where
  pub same-distinct : are_distinct seat_key xs ≡ are_distinct seat_key ys
  same-distinct = sym (bare-distinct xs) ∙ ap (are_distinct seat_key) same ∙ bare-distinct ys

  pub same-length : length xs ≡ length ys
  same-length = sym (bare-length xs) ∙ ap length same ∙ bare-length ys

  pub same-requests : requests_of xs ≡ requests_of ys
  same-requests = sym (bare-requests xs) ∙ ap requests_of same ∙ bare-requests ys

  pub same-last : last_from seat_key None xs ≡ last_from seat_key None ys
  same-last = sym (bare-last None xs) ∙ ap (last_from seat_key None) same ∙ bare-last None ys

  pub same-head : head_of seat_key xs ≡ head_of seat_key ys
  same-head = sym (bare-head xs) ∙ ap (head_of seat_key) same ∙ bare-head ys

  pub same-link : (k : ℕ) → link_in seat_key k xs ≡ link_in seat_key k ys
  same-link k = own xs ∙ ap (link_in seat_key k) same ∙ sym (own ys)
    where
      own : (zs : List (Seat Queued)) → link_in seat_key k zs ≡ link_in seat_key k (bare zs)
      own zs = ap (λ (o : Option ℕ). linked o (next_in seat_key k zs)) (sym (bare-prev None k zs)) ∙ ap (linked (prev_from seat_key None k (bare zs))) (sym (bare-next k zs))

  pub same-ends : ends_of seat_key xs ≡ ends_of seat_key ys
  same-ends = ap (λ (o : Option ℕ). ended o (last_from seat_key None xs)) same-head ∙ ap (ended (head_of seat_key ys)) same-last

  pub same-found : (k : ℕ) → option_map (with_label 0) (found k xs) ≡ option_map (with_label 0) (found k ys)
  same-found k = sym (bare-found k xs) ∙ ap (found k) same ∙ bare-found k ys

  pub same-filter : (t : Queued → Bool) → ((l : ℕ) (q : Queued) → t (with_label l q) ≡ t q) → bare (filter (λ s. t s.value) xs) ≡ bare (filter (λ s. t s.value) ys)
  same-filter t free = sym (bare-filter t free xs) ∙ ap (filter (λ s. t s.value)) same ∙ bare-filter t free ys

  pub same-none : (d : ℕ) (vs : List (Seat Worker)) → is_some (first_pair d vs xs) ≡ is_some (first_pair d vs ys)
  same-none d vs = own xs ∙ ap (λ (zs : List (Seat Queued)). is_some (first_pair d vs zs)) same ∙ sym (own ys)
    where
      own : (zs : List (Seat Queued)) → is_some (first_pair d vs zs) ≡ is_some (first_pair d vs (bare zs))
      own zs = of vs zs
        where
          of : (us : List (Seat Worker)) (zs : List (Seat Queued)) → is_some (first_pair d us zs) ≡ is_some (first_pair d us (bare zs))
          of [] zs = refl
          of (u ∷ us) [] = refl
          of (u ∷ us) (z ∷ zs) = refl

-- the rows, once one has another label
node_labelled : (xs ys : List (Seat Queued)) → bare xs ≡ bare ys → (j m : ℕ) (v : Queued) → node_at queued_classes ys j (with_label m v) ≡ node_with m (node_at queued_classes xs j v)
node_labelled xs ys same j m v =
    ap (λ (l : Link). noded l (link_in seat_key j (of_desk v.desk ys)) (link_in seat_key j (alike queued_classes.origin v ys))) (link (λ q. true) (λ l q. refl))
    ∙ ap (λ (l : Link). noded (link_in seat_key j (alike queued_classes.all v xs)) l (link_in seat_key j (alike queued_classes.origin v ys))) (link (λ q. q.desk == v.desk) (λ l q. refl))
    ∙ ap (noded (link_in seat_key j (alike queued_classes.all v xs)) (link_in seat_key j (of_desk v.desk xs))) (link (queued_classes.origin v) (λ l q. refl))
  where
    noded : Link → Link → Link → Node Queued
    noded a s o = record { value = with_label m v; all = a; service = s; origin = o }

    link : (t : Queued → Bool) → ((l : ℕ) (q : Queued) → t (with_label l q) ≡ t q) → link_in seat_key j (filter (λ s. t s.value) ys) ≡ link_in seat_key j (filter (λ s. t s.value) xs)
    link t free = sym (same-link (filter (λ s. t s.value) xs) (filter (λ s. t s.value) ys) (same-filter xs ys same t free) j)

relabelled-found : (k l j : ℕ) (es : List (Seat Queued)) → found j (relabelled k l es) ≡ option_map (λ (v : Queued). with_label (cond (j == k) l v.label) v) (found j es)
relabelled-found k l j [] = refl
relabelled-found k l j (s ∷ ss) = of (s.key == j) refl (relabelled-found k l j ss)
  where
    of : (b : Bool) → (s.key == j) ≡ b → found j (relabelled k l ss) ≡ option_map (λ (v : Queued). with_label (cond (j == k) l v.label) v) (found j ss)
        → cond b (Some (with_label (cond (s.key == k) l s.value.label) s.value)) (found j (relabelled k l ss)) ≡ option_map (λ (v : Queued). with_label (cond (j == k) l v.label) v) (cond b (Some s.value) (found j ss))
    of true e later = ap (λ (n : ℕ). Some (with_label (cond (n == k) l s.value.label) s.value)) (same_key s.key j e)
    of false e later = later

pub rows_relabelled : (old new : Rows (Node Queued)) (k l : ℕ) (es : List (Seat Queued)) → RowsAre queued_classes old es → ((j : ℕ) → entry new j ≡ cond (j == k) (option_map (node_with l) (entry old j)) (entry old j)) → RowsAre queued_classes new (relabelled k l es)
rows_relabelled old new k l es are changed j =
    changed j
    ∙ ap (λ (o : Option (Node Queued)). cond (j == k) (option_map (node_with l) o) o) (are j)
    ∙ of (found j es)
    ∙ ap (option_map (node_at queued_classes (relabelled k l es) j)) (sym (relabelled-found k l j es))
  where
    same : bare es ≡ bare (relabelled k l es)
    same = sym (bare-relabelled k l es)

    some : (v : Queued) (b : Bool) → cond b (Some (node_with l (node_at queued_classes es j v))) (Some (node_at queued_classes es j v)) ≡ Some (node_at queued_classes (relabelled k l es) j (with_label (cond b l v.label) v))
    some v true = ap (λ (n : Node Queued). Some n) (sym (node_labelled es (relabelled k l es) same j l v))
    some v false = ap (λ (n : Node Queued). Some n) (sym (node_labelled es (relabelled k l es) same j v.label v))

    nothing : Option (Node Queued)
    nothing = None

    none : (b : Bool) → cond b nothing nothing ≡ nothing
    none true = refl
    none false = refl

    of : (o : Option Queued) → cond (j == k) (option_map (node_with l) (option_map (node_at queued_classes es j) o)) (option_map (node_at queued_classes es j) o) ≡ option_map (node_at queued_classes (relabelled k l es) j) (option_map (λ (v : Queued). with_label (cond (j == k) l v.label) v) o)
    of None = none (j == k)
    of (Some v) = some v (j == k)

pub desk_bare : (xs ys : List (Seat Queued)) (ws : List (Seat Worker)) (d : ℕ) → bare xs ≡ bare ys → desk_of d xs ws ≡ desk_of d ys ws
desk_bare xs ys ws d same = ap (λ (ends : Ends). record { requests = ends; waiting = ends_of seat_key (workers_at false d ws); busy = ends_of seat_key (workers_at true d ws) }) (same-ends (of_desk d xs) (of_desk d ys) (same-filter xs ys same (λ q. q.desk == d) (λ l q. refl)))

pub desks_bare : (places : Rows Desk) (names : Index) (xs ys : List (Seat Queued)) (ws : List (Seat Worker)) → bare xs ≡ bare ys → Desks places names xs ws → Desks places names ys ws
desks_bare places names xs ys ws same are = record {
  each = λ q d e. are.each q d e ∙ ap (λ (desk : Desk). Some desk) (desk_bare xs ys ws d same);
  one = are.one;
  asked = λ k e f. asked k e (found k xs) refl (same-found xs ys same k ∙ ap (option_map (with_label 0)) f);
  served = are.served;
}
  where
    asked : (k : ℕ) (e : Queued) (o : Option Queued) → found k xs ≡ o → option_map (with_label 0) (found k xs) ≡ Some (with_label 0 e) → key_of names e.request.service ≡ Some e.desk
    asked k e None f g =
        let none : option_map (with_label 0) (found k xs) ≡ None = ap (option_map (with_label 0)) f in
        cc
    asked k e (Some x) f g =
        let there : option_map (with_label 0) (found k xs) ≡ Some (with_label 0 x) = ap (option_map (with_label 0)) f in
        let bare_same : with_label 0 x ≡ with_label 0 e = cc in
        subst (λ (q : Queued). key_of names q.request.service ≡ Some q.desk) bare_same (are.asked k x f)

relabelled-absent : (k l : ℕ) (es : List (Seat Queued)) → has_key seat_key k es ≡ false → relabelled k l es ≡ es
relabelled-absent k l [] none = refl
relabelled-absent k l (s ∷ ss) none = of (s.key == k) none (λ e. relabelled-absent k l ss e)
  where
    of : (b : Bool) → (b || has_key seat_key k ss) ≡ false → (has_key seat_key k ss ≡ false → relabelled k l ss ≡ ss) → seat_with (cond b l s.value.label) s ∷ relabelled k l ss ≡ s ∷ ss
    of true e later = cc
    of false e later = ap (λ (ys : List (Seat Queued)). s ∷ ys) (later e)

relabelled-filter : (t : Queued → Bool) → ((l : ℕ) (q : Queued) → t (with_label l q) ≡ t q) → (k l : ℕ) (es : List (Seat Queued)) → filter (λ s. t s.value) (relabelled k l es) ≡ relabelled k l (filter (λ s. t s.value) es)
relabelled-filter t free k l [] = refl
relabelled-filter t free k l (s ∷ ss) =
    ap (λ (b : Bool). cond b (one ∷ filter (λ s. t s.value) (relabelled k l ss)) (filter (λ s. t s.value) (relabelled k l ss))) (free (cond (s.key == k) l s.value.label) s.value) ∙ of (t s.value) (relabelled-filter t free k l ss)
  where
    one : Seat Queued
    one = seat_with (cond (s.key == k) l s.value.label) s

    of : (b : Bool) → filter (λ s. t s.value) (relabelled k l ss) ≡ relabelled k l (filter (λ s. t s.value) ss) → cond b (one ∷ filter (λ s. t s.value) (relabelled k l ss)) (filter (λ s. t s.value) (relabelled k l ss)) ≡ relabelled k l (cond b (s ∷ filter (λ s. t s.value) ss) (filter (λ s. t s.value) ss))
    of true later = ap (λ (ys : List (Seat Queued)). one ∷ ys) later
    of false later = later

pub relabelled-append : (k l : ℕ) (xs ys : List (Seat Queued)) → relabelled k l (xs ++ ys) ≡ relabelled k l xs ++ relabelled k l ys
relabelled-append k l [] ys = refl
relabelled-append k l (x ∷ xs) ys = ap (λ (zs : List (Seat Queued)). seat_with (cond (x.key == k) l x.value.label) x ∷ zs) (relabelled-append k l xs ys)

-- the other desks see nothing of it
pub hidden_labels : (k l d : ℕ) (x : Queued) (pairs : List (ℕ × ℕ)) (es : List (Seat Queued)) (ws : List (Seat Worker)) → are_distinct seat_key es ≡ true → found k es ≡ Some x → x.desk ≡ d → ReadyBut (Some d) pairs es ws → ReadyBut (Some d) pairs (relabelled k l es) ws
hidden_labels k l d x pairs es ws distinct at place ready =
    hidden_stays d pairs es (relabelled k l es) ws ws
    (λ m e. relabelled-filter (λ q. q.desk == m) (λ n q. refl) k l es ∙ relabelled-absent k l (of_desk m es) (not_in_chain (λ (a b : Queued). b.desk == m) x x k es distinct at (subst (λ (i : ℕ). (i == m) ≡ false) (sym place) e))) (λ m e. refl) ready

-- all requests numbered up to a place
pub record Counted (requests : Rows (Node Queued)) (pairs : List (ℕ × ℕ)) (places : Rows Desk) (names : Index) (es : List (Seat Queued)) (ws : List (Seat Worker)) (key label : ℕ) : Type 0 where
  pub before : List (Seat Queued)
  pub after : List (Seat Queued)
  pub whole : before ++ after ≡ es
  pub done : length before ≡ label
  pub marked : Marked requests pairs places names (numbered 0 before ++ after) ws
  pub next : (s : Seat Queued) (rest : List (Seat Queued)) → after ≡ s ∷ rest → key ≡ s.key

numbered-append : (n : ℕ) (xs ys : List (Seat Queued)) → numbered n (xs ++ ys) ≡ numbered n xs ++ numbered (n + length xs) ys
numbered-append n [] ys = ap (λ (m : ℕ). numbered m ys) (none n)
  where
    none : (m : ℕ) → m ≡ m + 0
    none m = omega arith
numbered-append n (x ∷ xs) ys = ap (λ (zs : List (Seat Queued)). seat_with n x ∷ zs) (numbered-append (suc n) xs ys ∙ ap (λ (m : ℕ). numbered (suc n) xs ++ numbered m ys) (more n (length xs)))
  where
    more : (m i : ℕ) → suc m + i ≡ m + suc i
    more m i = omega arith

numbered-key : (k n : ℕ) (es : List (Seat Queued)) → has_key seat_key k (numbered n es) ≡ has_key seat_key k es
numbered-key k n [] = refl
numbered-key k n (s ∷ ss) = ap (λ (b : Bool). (s.key == k) || b) (numbered-key k (suc n) ss)

-- the one behind those in front isn't among them
front_absent : (xs : List (Seat Queued)) (s : Seat Queued) (rest : List (Seat Queued)) → are_distinct seat_key (xs ++ s ∷ rest) ≡ true → (has_key seat_key s.key xs ≡ false) × (has_key seat_key s.key rest ≡ false)
front_absent [] s rest d = (refl, (distinct_parts seat_key s rest d).0)
front_absent (x ∷ xs) s rest d =
    let later = front_absent xs s rest (distinct_parts seat_key x (xs ++ s ∷ rest) d).1 in
    (ap (λ (b : Bool). b || has_key seat_key s.key xs) (before_differs x xs s rest d) ∙ later.0, later.1)

pub numbered_step : (s : Seat Queued) (before rest : List (Seat Queued)) → are_distinct seat_key (numbered 0 before ++ s ∷ rest) ≡ true → relabelled s.key (length before) (numbered 0 before ++ s ∷ rest) ≡ numbered 0 (before ++ s ∷ []) ++ rest
numbered_step s before rest d =
    let apart = front_absent (numbered 0 before) s rest d in
    relabelled-append s.key (length before) (numbered 0 before) (s ∷ rest)
    ∙ ap (λ (zs : List (Seat Queued)). zs ++ relabelled s.key (length before) (s ∷ rest)) (relabelled-absent s.key (length before) (numbered 0 before) apart.0)
    ∙ ap (λ (b : Bool). numbered 0 before ++ seat_with (cond b (length before) s.value.label) s ∷ relabelled s.key (length before) rest) (own_number s.key)
    ∙ ap (λ (zs : List (Seat Queued)). numbered 0 before ++ seat_with (length before) s ∷ zs) (relabelled-absent s.key (length before) rest apart.1)
    ∙ sym (append_assoc (numbered 0 before) (seat_with (length before) s ∷ []) rest)
    ∙ ap (λ (zs : List (Seat Queued)). zs ++ rest) (ap (λ (m : ℕ). numbered 0 before ++ seat_with m s ∷ []) (none (length before)) ∙ sym (numbered-append 0 before (s ∷ [])))
  where
    none : (m : ℕ) → m ≡ 0 + m
    none m = omega arith

pub numbered_rise : (n : ℕ) (es : List (Seat Queued)) → labels_rise (numbered n es) ≡ true
numbered_rise n [] = refl
numbered_rise n (s ∷ ss) = and_from _ _ (above n (suc n) ss (less n)) (numbered_rise (suc n) ss)
  where
    less : (m : ℕ) → nat_lt m (suc m) ≡ true
    less m = grind (arith, nat_tests)

    more : (m i : ℕ) → nat_lt m i ≡ true → nat_lt m (suc i) ≡ true
    more m i e = grind (arith, nat_tests)

    above : (m i : ℕ) (ys : List (Seat Queued)) → nat_lt m i ≡ true → list_all (λ t. nat_lt m t.value.label) (numbered i ys) ≡ true
    above m i [] e = refl
    above m i (y ∷ ys) e = and_from _ _ e (above m (suc i) ys (more m i e))

pub numbered_below : (n m : ℕ) (es : List (Seat Queued)) → n + length es ≤ m → labels_below m (numbered n es) ≡ true
numbered_below n m [] e = refl
numbered_below n m (s ∷ ss) e = and_from _ _ (less n m (length ss) e) (numbered_below (suc n) m ss (next n m (length ss) e))
  where
    less : (a b i : ℕ) → a + suc i ≤ b → nat_lt a b ≡ true
    less a b i f = grind (arith, nat_tests)

    next : (a b i : ℕ) → a + suc i ≤ b → suc a + i ≤ b
    next a b i f = omega arith

first_key : (first last count : ℕ) (s : Seat Queued) (rest : List (Seat Queued)) → EndsAre first last count (s ∷ rest) → first ≡ s.key
first_key first last count s rest are = of (count == 0) refl
  where
    of : (b : Bool) → (count == 0) ≡ b → first ≡ s.key
    of true e =
        let none : count ≡ 0 = number_is count 0 e in
        let some : count ≡ suc (length rest) = are.len in
        let clash : suc (length rest) ≡ 0 = sym some ∙ none in
        cc
    of false e =
        let ends : ends_from first last count ≡ ends_of seat_key (s ∷ rest) = are.ends in
        let head : Some first ≡ Some s.key = ap (λ (b : Bool). (cond b (ended None None) (ended (Some first) (Some last))).first) (sym e) ∙ ap (λ (o : Ends). o.first) ends in
        cc

pub counted_start : (requests : Rows (Node Queued)) (pairs : List (ℕ × ℕ)) (places : Rows Desk) (names : Index) (es : List (Seat Queued)) (ws : List (Seat Worker)) (first last count : ℕ) → Marked requests pairs places names es ws → EndsAre first last count es → Counted requests pairs places names es ws first 0
counted_start requests pairs places names es ws first last count marked are = record {
  before = [];
  after = es;
  whole = refl;
  done = refl;
  marked = marked;
  next = λ s rest e. first_key first last count s rest (subst (λ (xs : List (Seat Queued)). EndsAre first last count xs) e are);
}

-- the request that is numbered next
pub record Next (names : Index) (ws : List (Seat Worker)) (requests : Rows (Node Queued)) (pairs : List (ℕ × ℕ)) (places : Rows Desk) (key label : ℕ) (es : List (Seat Queued)) : Type 0 where
  pub before : List (Seat Queued)
  pub seat : Seat Queued
  pub rest : List (Seat Queued)
  pub whole : before ++ seat ∷ rest ≡ es
  pub done : length before ≡ label
  pub own : key ≡ seat.key
  pub marked : Marked requests pairs places names (numbered 0 before ++ seat ∷ rest) ws
  pub at : found key (numbered 0 before ++ seat ∷ rest) ≡ Some seat.value

pub next_of : (requests : Rows (Node Queued)) (pairs : List (ℕ × ℕ)) (places : Rows Desk) (names : Index) (es : List (Seat Queued)) (ws : List (Seat Worker)) (key label : ℕ) → Counted requests pairs places names es ws key label → label < length es → Next names ws requests pairs places key label es
next_of requests pairs places names es ws key label counted less = of counted.after refl
  where
    of : (after : List (Seat Queued)) → counted.after ≡ after → Next names ws requests pairs places key label es
    of [] e =
        let whole : counted.before ++ [] ≡ es = ap (λ (xs : List (Seat Queued)). counted.before ++ xs) (sym e) ∙ counted.whole in
        let long : length counted.before ≡ length es = ap length (sym (append-nil counted.before) ∙ whole) in
        let done = counted.done in
        absurd (omega arith)
    of (s ∷ rest) e =
        let marked : Marked requests pairs places names (numbered 0 counted.before ++ s ∷ rest) ws = subst (λ (xs : List (Seat Queued)). Marked requests pairs places names (numbered 0 counted.before ++ xs) ws) e counted.marked in
        let own : key ≡ s.key = counted.next s rest e in
        record {
          before = counted.before;
          seat = s;
          rest = rest;
          whole = ap (λ (xs : List (Seat Queued)). counted.before ++ xs) (sym e) ∙ counted.whole;
          done = counted.done;
          own = own;
          marked = marked;
          at = ap (λ (k : ℕ). found k (numbered 0 counted.before ++ s ∷ rest)) own ∙ found_mid (numbered 0 counted.before) s rest marked.distinct;
        }

pub counted_step : (old new : Rows (Node Queued)) (pairs pairs_new : List (ℕ × ℕ)) (places : Rows Desk) (names : Index) (es : List (Seat Queued)) (ws : List (Seat Worker)) (key label : ℕ) (result : Option ℕ) → (n : Next names ws old pairs places key label es)
    → result ≡ next_in seat_key key (numbered 0 n.before ++ n.seat ∷ n.rest) → Marked new pairs_new places names (relabelled key label (numbered 0 n.before ++ n.seat ∷ n.rest)) ws → Counted new pairs_new places names es ws (unwrap_or result 0) (label + 1)
counted_step old new pairs pairs_new places names es ws key label result n next marked = record {
  before = n.before ++ n.seat ∷ [];
  after = n.rest;
  whole = append_assoc n.before (n.seat ∷ []) n.rest ∙ n.whole;
  done = length-append n.before (n.seat ∷ []) ∙ ap (λ (i : ℕ). i + 1) n.done;
  marked = subst (λ (xs : List (Seat Queued)). Marked new pairs_new places names xs ws) list marked;
  next = λ s rest e. ap (λ (o : Option ℕ). unwrap_or o 0) (next ∙ behind ∙ ap (head_of seat_key) e);
}
  where
    list : relabelled key label (numbered 0 n.before ++ n.seat ∷ n.rest) ≡ numbered 0 (n.before ++ n.seat ∷ []) ++ n.rest
    list =
        ap (λ (k : ℕ). relabelled k label (numbered 0 n.before ++ n.seat ∷ n.rest)) n.own ∙ ap (λ (l : ℕ). relabelled n.seat.key l (numbered 0 n.before ++ n.seat ∷ n.rest)) (sym n.done)
        ∙ numbered_step n.seat n.before n.rest n.marked.distinct

    behind : next_in seat_key key (numbered 0 n.before ++ n.seat ∷ n.rest) ≡ head_of seat_key n.rest
    behind = ap (λ (k : ℕ). next_in seat_key k (numbered 0 n.before ++ n.seat ∷ n.rest)) n.own ∙ next_mid (numbered 0 n.before) n.seat n.rest n.marked.distinct

pub counted_end : (requests : Rows (Node Queued)) (pairs : List (ℕ × ℕ)) (places : Rows Desk) (names : Index) (es : List (Seat Queued)) (ws : List (Seat Worker)) (key label : ℕ) → Counted requests pairs places names es ws key label → length es ≤ label → Marked requests pairs places names (numbered 0 es) ws
counted_end requests pairs places names es ws key label counted full = subst (λ (xs : List (Seat Queued)). Marked requests pairs places names xs ws) (of counted.after refl) counted.marked
  where
    of : (after : List (Seat Queued)) → counted.after ≡ after → numbered 0 counted.before ++ counted.after ≡ numbered 0 es
    of [] e =
        let whole : counted.before ≡ es = sym (append-nil counted.before) ∙ ap (λ (xs : List (Seat Queued)). counted.before ++ xs) (sym e) ∙ counted.whole in
        ap (λ (xs : List (Seat Queued)). numbered 0 counted.before ++ xs) e ∙ append-nil (numbered 0 counted.before) ∙ ap (numbered 0) whole
    of (s ∷ rest) e =
        let long : length es ≡ length counted.before + length counted.after = ap length (sym counted.whole) ∙ length-append counted.before counted.after in
        let some : length counted.after ≡ suc (length rest) = ap length e in
        let done = counted.done in
        absurd (omega arith)
