-- Whether somebody serves a name, as its desk tells.
use Rattle.std.proofs.Common.{◌≡◌, ℕ, ◌==◌, Bool, true, false, cond, ◌||◌, List, [], ◌∷◌, map, Option, Some, None, is_some, refl, sym, ◌∙◌, ap, subst}
use Rattle.std.specs.List.{filter, list_any}
use Rattle.std.specs.Str.{bytes_eq}
use Rattle.std.specs.Cmp.Lexicographic.{bytes_decides}
use Rattle.mj_counted.specs.Names.{key_of}
use Rattle.mj_chain.specs.Seats.{Seat, are_distinct, found, head_of, seat_key}
use Rattle.mj_chain.proofs.ListLemmas.{distinct-filter, distinct_parts}
use Rattle.mj_queue.specs.Settling.{is_served, serves}
use Rattle.mj_hall.specs.declared.hall.Hall.TheInside.{Inside}
use Rattle.mj_hall.specs.declared.kept.Queued.{Queued}
use Rattle.mj_hall.specs.declared.kept.Worker.{Worker}
use Rattle.mj_hall.specs.Asking.{of_desk}
use Rattle.mj_hall.specs.Floor.{requests_of, waiters_of}
use Rattle.mj_hall.specs.HallValue.{asks_for}
use Rattle.mj_hall.specs.Serving.{same_bool, workers_at, workers_of}
use Rattle.mj_hall.specs.Stands.{Stands}
use Rattle.mj_hall.proofs.TakeLemmas.{filter-filter, filter-found, later_found, names_decide, own_found}

any_is : {T Y : Type 0} (f : T → Y) (p : Y → Bool) (q : T → Bool) (xs : List (Seat T)) → are_distinct seat_key xs ≡ true → ((k : ℕ) (v : T) → found k xs ≡ Some v → p (f v) ≡ q v)
    → list_any p (map (λ (s : Seat T). f s.value) xs) ≡ is_some (head_of seat_key (filter (λ s. q s.value) xs))
any_is f p q [] d same = refl
any_is f p q (s ∷ ss) d same = of (q s.value) refl (any_is f p q ss (distinct_parts seat_key s ss d).1 (λ k v e. same k v (later_found s ss k v d e)))
  where
    here : p (f s.value) ≡ q s.value
    here = same s.key s.value (own_found s ss)

    of : (b : Bool) → q s.value ≡ b → list_any p (map (λ (s : Seat _). f s.value) ss) ≡ is_some (head_of seat_key (filter (λ s. q s.value) ss))
        → (p (f s.value) || list_any p (map (λ (s : Seat _). f s.value) ss)) ≡ is_some (head_of seat_key (cond b (s ∷ filter (λ s. q s.value) ss) (filter (λ s. q s.value) ss)))
    of true e later = rw (here ∙ e) refl
    of false e later = rw (here ∙ e) later

none_any : {T Y : Type 0} (f : T → Y) (p : Y → Bool) (xs : List (Seat T)) → are_distinct seat_key xs ≡ true → ((k : ℕ) (v : T) → found k xs ≡ Some v → p (f v) ≡ false) → list_any p (map (λ (s : Seat T). f s.value) xs) ≡ false
none_any f p [] d none = refl
none_any f p (s ∷ ss) d none = rw (none s.key s.value (own_found s ss)) (none_any f p ss (distinct_parts seat_key s ss d).1 (λ k v e. none k v (later_found s ss k v d e)))

module _ (h : Inside) (es : List (Seat Queued)) (ws : List (Seat Worker)) (stands : Stands h es ws) (name : List ℕ) where
  kind_distinct : (busy : Bool) → are_distinct seat_key (workers_of busy ws) ≡ true
  kind_distinct busy = distinct-filter seat_key (λ s. same_bool busy s.value.busy) ws stands.serving.distinct

  pub served_at : (d : ℕ) → key_of h.names name ≡ Some d → (busy : Bool) → list_any (serves name) (waiters_of (workers_of busy ws)) ≡ is_some (head_of seat_key (workers_at busy d ws))
  served_at d named busy =
      any_is (λ (w : Worker). w.waiter) (serves name) (λ (w : Worker). w.desk == d) (workers_of busy ws) (kind_distinct busy)
      (λ k v e.
      names_decide h.desks h.names es ws stands.desks stands.asking.distinct stands.serving.distinct stands.rise v.waiter.service name v.desk d
      (stands.desks.served k v (filter-found (λ (w : Worker). same_bool busy w.busy) k v ws stands.serving.distinct e).there) named)
      ∙ ap (λ (xs : List (Seat Worker)). is_some (head_of seat_key xs)) (filter-filter (λ (w : Worker). w.desk == d) (λ (w : Worker). same_bool busy w.busy) ws)

  pub is_served_at : (d : ℕ) → key_of h.names name ≡ Some d → is_served name (waiters_of (workers_of false ws)) (waiters_of (workers_of true ws)) ≡ (is_some (head_of seat_key (workers_at false d ws)) || is_some (head_of seat_key (workers_at true d ws)))
  is_served_at d named = ap (λ (b : Bool). b || list_any (serves name) (waiters_of (workers_of true ws))) (served_at d named false) ∙ ap (λ (b : Bool). is_some (head_of seat_key (workers_at false d ws)) || b) (served_at d named true)

  pub unserved : key_of h.names name ≡ None → (busy : Bool) → list_any (serves name) (waiters_of (workers_of busy ws)) ≡ false
  unserved none busy =
      none_any (λ (w : Worker). w.waiter) (serves name) (workers_of busy ws) (kind_distinct busy)
      (λ k v e. other v (stands.desks.served k v (filter-found (λ (w : Worker). same_bool busy w.busy) k v ws stands.serving.distinct e).there) (bytes_eq v.waiter.service name) refl)
    where
      other : (v : Worker) → key_of h.names v.waiter.service ≡ Some v.desk → (b : Bool) → bytes_eq v.waiter.service name ≡ b → bytes_eq v.waiter.service name ≡ false
      other v named true e =
          let there : key_of h.names name ≡ Some v.desk = subst (λ (q : List ℕ). key_of h.names q ≡ Some v.desk) ((bytes_decides v.waiter.service name).0 e) named in
          cc
      other v named false e = e

  pub is_unserved : key_of h.names name ≡ None → is_served name (waiters_of (workers_of false ws)) (waiters_of (workers_of true ws)) ≡ false
  is_unserved none = ap (λ (b : Bool). b || list_any (serves name) (waiters_of (workers_of true ws))) (unserved none false) ∙ unserved none true

  pub awaited_is : (awaited : Bool) → ((d : ℕ) → key_of h.names name ≡ Some d → awaited ≡ is_some (head_of seat_key (workers_at false d ws))) → (key_of h.names name ≡ None → awaited ≡ false) → awaited ≡ list_any (serves name) (waiters_of (workers_of false ws))
  awaited_is awaited some none = of (key_of h.names name) refl
    where
      of : (o : Option ℕ) → key_of h.names name ≡ o → awaited ≡ list_any (serves name) (waiters_of (workers_of false ws))
      of None e = none e ∙ sym (unserved e false)
      of (Some d) e = some d e ∙ sym (served_at d e false)

  -- somebody asks for a service or serves it where it has a desk, and only there
  pub known_is : is_some (key_of h.names name) ≡ (list_any (asks_for name) (requests_of es) || is_served name (waiters_of (workers_of false ws)) (waiters_of (workers_of true ws)))
  known_is = of (key_of h.names name) refl
    where
      others : (v : Queued) → key_of h.names v.request.service ≡ Some v.desk → key_of h.names name ≡ None → (b : Bool) → bytes_eq v.request.service name ≡ b → bytes_eq v.request.service name ≡ false
      others v named none true e =
          let there : key_of h.names name ≡ Some v.desk = subst (λ (q : List ℕ). key_of h.names q ≡ Some v.desk) ((bytes_decides v.request.service name).0 e) named in
          cc
      others v named none false e = e

      asked : (d : ℕ) → key_of h.names name ≡ Some d → list_any (asks_for name) (requests_of es) ≡ is_some (head_of seat_key (of_desk d es))
      asked d named =
          any_is (λ (q : Queued). q.request) (asks_for name) (λ (q : Queued). q.desk == d) es stands.asking.distinct
          (λ k v e. names_decide h.desks h.names es ws stands.desks stands.asking.distinct stands.serving.distinct stands.rise v.request.service name v.desk d (stands.desks.asked k v e) named)

      of : (o : Option ℕ) → key_of h.names name ≡ o → is_some (key_of h.names name) ≡ (list_any (asks_for name) (requests_of es) || is_served name (waiters_of (workers_of false ws)) (waiters_of (workers_of true ws)))
      of None e =
          ap is_some e
          ∙ sym (ap (λ (b : Bool). b || is_served name (waiters_of (workers_of false ws)) (waiters_of (workers_of true ws))) (none_any (λ (q : Queued). q.request) (asks_for name) es stands.asking.distinct (λ k v f. others v (stands.desks.asked k v f) e (bytes_eq v.request.service name) refl))
          ∙ is_unserved e)
      of (Some d) e =
          ap is_some e
          ∙ sym (ap (λ (b : Bool). b || is_served name (waiters_of (workers_of false ws)) (waiters_of (workers_of true ws))) (asked d e)
          ∙ ap (λ (b : Bool). is_some (head_of seat_key (of_desk d es)) || b) (is_served_at d e)
          ∙ stands.peopled name d e refl)
