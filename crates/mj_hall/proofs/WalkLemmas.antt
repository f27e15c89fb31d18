-- A walk along the chain of all gives the list.
use Rattle.std.proofs.Common.{◌≡◌, ℕ, ◌-◌, ◌^◌, ◌==◌, Bool, true, false, ◌||◌, List, [], ◌∷◌, ◌++◌, append_assoc, length, map, Option, Some, refl, sym, ◌∙◌, ap, subst, arith}
use Rattle.std.specs.Option.{option_map}
use Rattle.std.proofs.lemmas.Bool.Decides.{nat_tests}
use Rattle.mj_base.specs.declared.limits.Limits.{Limits}
use Rattle.mj_counted.specs.declared.rows.Rows.{Rows}
use Rattle.mj_counted.specs.Rows.{entry}
use Rattle.mj_chain.specs.declared.node.Ends.{Ends}
use Rattle.mj_chain.specs.declared.node.Node.{Node}
use Rattle.mj_chain.specs.Nodes.{Classes, RowsAre, alike, node_at}
use Rattle.mj_chain.specs.Seats.{Seat, are_distinct, found, has_key, head_of, next_in, seat_key}
use Rattle.mj_chain.proofs.ListLemmas.{distinct-filter, distinct_parts, same_key}
use Rattle.mj_queue.specs.declared.request.Request.{Request}
use Rattle.mj_queue.specs.declared.worker.Waiter.{Waiter}
use Rattle.mj_hall.specs.declared.hall.Hall.TheInside.{Inside}
use Rattle.mj_hall.specs.declared.kept.Queued.{Queued}
use Rattle.mj_hall.specs.declared.kept.Worker.{Worker}
use Rattle.mj_hall.specs.Asking.{queued_classes}
use Rattle.mj_hall.specs.Ends.{EndsAre, ends_from}
use Rattle.mj_hall.specs.Floor.{requests_of, waiters_of}
use Rattle.mj_hall.specs.HallValue.{HallValue}
use Rattle.mj_hall.specs.Serving.{same_bool, worker_classes, workers_of}
use Rattle.mj_hall.specs.Stands.{Stands, seen}
use Rattle.mj_hall.specs.Walk.{walk, walk_on}
use Rattle.mj_hall.proofs.AskingLemmas.{all_pass}
use Rattle.mj_hall.proofs.TakeLemmas.{filter-found}

own_number : (n : ℕ) → (n == n) ≡ true
own_number n = grind (arith, nat_tests)

wrong : (A : Type 0) → true ≡ false → A
wrong A e = cc

module _ {T : Type 0} where
  has_mid : (before : List (Seat T)) (s : Seat T) (rest : List (Seat T)) → has_key seat_key s.key (before ++ s ∷ rest) ≡ true
  has_mid [] s rest = ap (λ (b : Bool). b || has_key seat_key s.key rest) (own_number s.key)
  has_mid (x ∷ xs) s rest = ap (λ (b : Bool). (x.key == s.key) || b) (has_mid xs s rest) ∙ or_true (x.key == s.key)
    where
      or_true : (b : Bool) → (b || true) ≡ true
      or_true true = refl
      or_true false = refl

  pub before_differs : (x : Seat T) (before : List (Seat T)) (s : Seat T) (rest : List (Seat T)) → are_distinct seat_key (x ∷ (before ++ s ∷ rest)) ≡ true → (x.key == s.key) ≡ false
  before_differs x before s rest d = of (x.key == s.key) refl
    where
      of : (b : Bool) → (x.key == s.key) ≡ b → (x.key == s.key) ≡ false
      of true e =
          let missing : has_key seat_key s.key (before ++ s ∷ rest) ≡ false = subst (λ (n : ℕ). has_key seat_key n (before ++ s ∷ rest) ≡ false) (same_key x.key s.key e) (distinct_parts seat_key x (before ++ s ∷ rest) d).0 in
          wrong _ (sym (has_mid before s rest) ∙ missing)
      of false e = e

  pub next_mid : (before : List (Seat T)) (s : Seat T) (rest : List (Seat T)) → are_distinct seat_key (before ++ s ∷ rest) ≡ true → next_in seat_key s.key (before ++ s ∷ rest) ≡ head_of seat_key rest
  next_mid [] s rest d = rw (own_number s.key) refl
  next_mid (x ∷ xs) s rest d = rw (before_differs x xs s rest d) (next_mid xs s rest (distinct_parts seat_key x (xs ++ s ∷ rest) d).1)

  pub found_mid : (before : List (Seat T)) (s : Seat T) (rest : List (Seat T)) → are_distinct seat_key (before ++ s ∷ rest) ≡ true → found s.key (before ++ s ∷ rest) ≡ Some s.value
  found_mid [] s rest d = rw (own_number s.key) refl
  found_mid (x ∷ xs) s rest d = rw (before_differs x xs s rest d) (found_mid xs s rest (distinct_parts seat_key x (xs ++ s ∷ rest) d).1)

  -- a chain of all in rows that hold a list
  record Chained (classes : Classes T) (xs chain : List (Seat T)) : Type 0 where
    distinct : are_distinct seat_key chain ≡ true
    there : (k : ℕ) (u : T) → found k chain ≡ Some u → found k xs ≡ Some u
    whole : (k : ℕ) (u : T) → found k chain ≡ Some u → alike classes.all u xs ≡ chain

  walk-is : (classes : Classes T) (rows : Rows (Node T)) (xs chain : List (Seat T)) → RowsAre classes rows xs → Chained classes xs chain → (before after : List (Seat T)) → before ++ after ≡ chain
      → walk (length after) rows (head_of seat_key after) ≡ map (λ s. s.value) after
  walk-is classes rows xs chain are c before [] e = refl
  walk-is classes rows xs chain are c before (s ∷ rest) e =
      let distinct : are_distinct seat_key (before ++ s ∷ rest) ≡ true = subst (λ (ys : List (Seat T)). are_distinct seat_key ys ≡ true) (sym e) c.distinct in
      let at : found s.key chain ≡ Some s.value = subst (λ (ys : List (Seat T)). found s.key ys ≡ Some s.value) e (found_mid before s rest distinct) in
      let row : entry rows s.key ≡ Some (node_at classes xs s.key s.value) = are s.key ∙ ap (option_map (node_at classes xs s.key)) (c.there s.key s.value at) in
      let next : next_in seat_key s.key (alike classes.all s.value xs) ≡ head_of seat_key rest = ap (next_in seat_key s.key) (c.whole s.key s.value at ∙ sym e) ∙ next_mid before s rest distinct in
      ap (walk_on (λ (o : Option ℕ). walk (length rest) rows o)) row ∙ ap (λ (o : Option ℕ). s.value ∷ walk (length rest) rows o) next
      ∙ ap (λ (vs : List T). s.value ∷ vs) (walk-is classes rows xs chain are c (before ++ s ∷ []) rest (append_assoc before (s ∷ []) rest ∙ e))

  walked : (classes : Classes T) (rows : Rows (Node T)) (xs chain : List (Seat T)) (first last count : ℕ) → RowsAre classes rows xs → Chained classes xs chain → EndsAre first last count chain
      → walk count rows (ends_from first last count).first ≡ map (λ s. s.value) chain
  walked classes rows xs chain first last count are c ends =
      ap (λ (o : Ends). walk count rows o.first) ends.ends ∙ ap (λ (n : ℕ). walk n rows (head_of seat_key chain)) ends.len ∙ walk-is classes rows xs chain are c [] chain refl

  map-map : {Y : Type 0} (f : T → Y) (xs : List (Seat T)) → map f (map (λ (s : Seat T). s.value) xs) ≡ map (λ (s : Seat T). f s.value) xs
  map-map f [] = refl
  map-map {Y} f (s ∷ ss) = ap (λ (ys : List Y). f s.value ∷ ys) (map-map f ss)

bool_is : (a b : Bool) → same_bool a b ≡ true → b ≡ a
bool_is true b e = e
bool_is false true e = cc
bool_is false false e = refl

abbrev pub flat : Limits → List (Seat Queued) → List (Seat Worker) → ℕ → HallValue
flat limits es ws next = record { state = record { limits = limits; waiting = waiters_of (workers_of false ws); busy = waiters_of (workers_of true ws); requests = requests_of es }; labels = 2 ^ 64 - 1 - next }

abbrev hall_with : Limits → ℕ → List Waiter → List Waiter → List Request → HallValue
hall_with limits next waiting busy requests = record { state = record { limits = limits; waiting = waiting; busy = busy; requests = requests }; labels = 2 ^ 64 - 1 - next }

-- the view of a hall is its flat lists
pub seen_is : (h : Inside) (es : List (Seat Queued)) (ws : List (Seat Worker)) → Stands h es ws → seen h ≡ flat h.limits es ws h.next
seen_is h es ws stands =
    ap (λ (vs : List Worker). hall_with h.limits h.next (map (λ w. w.waiter) vs) (map (λ w. w.waiter) (walk h.busy_count h.workers (ends_from h.busy_first h.busy_last h.busy_count).first)) (map (λ q. q.request) (walk h.request_count h.requests (ends_from h.request_first h.request_last h.request_count).first))) (walked worker_classes h.workers ws (workers_of false ws) h.waiting_first h.waiting_last h.waiting_count stands.serving.rows (kind false) stands.waiting)
    ∙ ap (λ (vs : List Worker). hall_with h.limits h.next (map (λ w. w.waiter) (map (λ (s : Seat Worker). s.value) (workers_of false ws))) (map (λ w. w.waiter) vs) (map (λ q. q.request) (walk h.request_count h.requests (ends_from h.request_first h.request_last h.request_count).first))) (walked worker_classes h.workers ws (workers_of true ws) h.busy_first h.busy_last h.busy_count stands.serving.rows (kind true) stands.busy)
    ∙ ap (λ (vs : List Queued). hall_with h.limits h.next (map (λ w. w.waiter) (map (λ (s : Seat Worker). s.value) (workers_of false ws))) (map (λ w. w.waiter) (map (λ (s : Seat Worker). s.value) (workers_of true ws))) (map (λ q. q.request) vs)) (walked queued_classes h.requests es es h.request_first h.request_last h.request_count stands.asking.rows all stands.asked)
    ∙ ap (λ (xs : List Waiter). hall_with h.limits h.next xs (map (λ w. w.waiter) (map (λ (s : Seat Worker). s.value) (workers_of true ws))) (map (λ q. q.request) (map (λ (s : Seat Queued). s.value) es))) (map-map (λ (w : Worker). w.waiter) (workers_of false ws))
    ∙ ap (λ (xs : List Waiter). hall_with h.limits h.next (waiters_of (workers_of false ws)) xs (map (λ q. q.request) (map (λ (s : Seat Queued). s.value) es))) (map-map (λ (w : Worker). w.waiter) (workers_of true ws))
    ∙ ap (λ (xs : List Request). hall_with h.limits h.next (waiters_of (workers_of false ws)) (waiters_of (workers_of true ws)) xs) (map-map (λ (q : Queued). q.request) es)
  where
    all : Chained queued_classes es es
    all = record { distinct = stands.asking.distinct; there = λ k u e. e; whole = λ k u e. all_pass es }

    kind : (busy : Bool) → Chained worker_classes ws (workers_of busy ws)
    kind busy = record {
      distinct = distinct-filter seat_key (λ s. same_bool busy s.value.busy) ws stands.serving.distinct;
      there = λ k u e. (filter-found (λ (w : Worker). same_bool busy w.busy) k u ws stands.serving.distinct e).there;
      whole = λ k u e. ap (λ (b : Bool). workers_of b ws) (bool_is busy u.busy (filter-found (λ (w : Worker). same_bool busy w.busy) k u ws stands.serving.distinct e).passes);
    }
