-- What a hall's order of pairs says of its flat lists.
use Rattle.std.proofs.Common.{◌≡◌, ℕ, ◌==◌, true, false, List, [], ◌∷◌, Option, Some, None, is_some, IfSome, IfNone, refl, sym, ◌∙◌, ap, subst, arith}
use Rattle.std.proofs.lemmas.Bool.{and_parts}
use Rattle.std.proofs.lemmas.Bool.Decides.{nat_tests}
use Rattle.mj_counted.specs.Pairs.{StandsAt, has_pair, is_below, is_pair, same_pair}
use Rattle.mj_chain.specs.Seats.{Seat, seat_key, take_out}
use Rattle.mj_queue.specs.Settling.{Pair, pair}
use Rattle.mj_hall.specs.declared.hall.Hall.TheInside.{Inside}
use Rattle.mj_hall.specs.declared.kept.Queued.{Queued}
use Rattle.mj_hall.specs.declared.kept.Worker.{Worker}
use Rattle.mj_hall.specs.Asking.{of_desk}
use Rattle.mj_hall.specs.Floor.{requests_of, waiters_of}
use Rattle.mj_hall.specs.HallValue.{HallValue}
use Rattle.mj_hall.specs.Ready.{ReadyBut, first_pair, pair_in}
use Rattle.mj_hall.specs.Serving.{workers_at, workers_of}
use Rattle.mj_hall.specs.Stands.{Stands, seen}
use Rattle.mj_hall.proofs.TakeLemmas.{no_pair, pair_is}
use Rattle.mj_hall.proofs.WalkLemmas.{flat, seen_is}

number_is : (a n : ℕ) → (a == n) ≡ true → a ≡ n
number_is a n e = grind (arith, nat_tests)

-- the first request and the first worker of a desk that has a pair
pub record AtDesk (l d : ℕ) (es : List (Seat Queued)) (ws : List (Seat Worker)) : Type 0 where
  pub request : Seat Queued
  pub later : List (Seat Queued)
  pub worker : Seat Worker
  pub others : List (Seat Worker)
  pub asks : of_desk d es ≡ request ∷ later
  pub waits : workers_at false d ws ≡ worker ∷ others
  pub label : request.value.label ≡ l

pub at_desk : (pairs : List (ℕ × ℕ)) (l d : ℕ) (es : List (Seat Queued)) (ws : List (Seat Worker)) → ReadyBut None pairs es ws → has_pair (l, d) pairs ≡ true → AtDesk l d es ws
at_desk pairs l d es ws ready there = of (workers_at false d ws) refl (of_desk d es) refl (sym (ready (l, d)) ∙ there)
  where
    of : (xs : List (Seat Worker)) → workers_at false d ws ≡ xs → (ys : List (Seat Queued)) → of_desk d es ≡ ys → is_pair (l, d) (pair_in es ws d) ≡ true → AtDesk l d es ws
    of [] e ys f h =
        let none : pair_in es ws d ≡ None = ap (λ (zs : List (Seat Worker)). first_pair d zs (of_desk d es)) e in
        let no : is_pair (l, d) (pair_in es ws d) ≡ false = ap (is_pair (l, d)) none in
        cc
    of (x ∷ xs) e [] f h =
        let none : pair_in es ws d ≡ None = ap (λ (zs : List (Seat Worker)). first_pair d zs (of_desk d es)) e ∙ ap (first_pair d (x ∷ xs)) f in
        let no : is_pair (l, d) (pair_in es ws d) ≡ false = ap (is_pair (l, d)) none in
        cc
    of (x ∷ xs) e (y ∷ ys) f h =
        let is : pair_in es ws d ≡ Some (y.value.label, d) = ap (λ (zs : List (Seat Worker)). first_pair d zs (of_desk d es)) e ∙ ap (first_pair d (x ∷ xs)) f in
        let same : same_pair (l, d) (y.value.label, d) ≡ true = ap (is_pair (l, d)) (sym is) ∙ h in
        record { request = y; later = ys; worker = x; others = xs; asks = f; waits = e; label = sym (number_is l y.value.label (and_parts (l == y.value.label) (d == d) same).0) }

pub value_is : (h : Inside) (es : List (Seat Queued)) (ws : List (Seat Worker)) (value : HallValue) → Stands h es ws → seen h ≡ value → flat h.limits es ws h.next ≡ value
value_is h es ws value stands is = sym (seen_is h es ws stands) ∙ is

abbrev pub pair_of : List (Seat Queued) → List (Seat Worker) → Seat Queued × Seat Worker → Pair
pair_of es ws at = record { waiter = at.1.value.waiter; request = at.0.value.request; waiting = waiters_of (take_out seat_key at.1.key (workers_of false ws)); requests = requests_of (take_out seat_key at.0.key es) }

-- the first of the order is the pair
pub first_is_pair : (h : Inside) (es : List (Seat Queued)) (ws : List (Seat Worker)) (l d : ℕ) → Stands h es ws → StandsAt h.pairs.pairs 0 (l, d) → (at : AtDesk l d es ws)
    → pair (waiters_of (workers_of false ws)) (requests_of es) ≡ Some (pair_of es ws (at.request, at.worker))
first_is_pair h es ws l d stands first at =
    pair_is h.desks h.names es ws stands.desks stands.asking.distinct stands.serving.distinct stands.rise h.pairs.pairs d at.request at.worker at.later at.others stands.ready at.asks at.waits
    (λ q lt. first.least refl q (subst (λ (n : ℕ). is_below q (n, d) ≡ true) at.label lt))

pub has_pair_is : (h : Inside) (es : List (Seat Queued)) (ws : List (Seat Worker)) (o : Option (ℕ × ℕ)) → Stands h es ws → IfSome o (StandsAt h.pairs.pairs 0) → IfNone o (◌≡◌ {A = ℕ} 0 0 → (p : ℕ × ℕ) → has_pair p h.pairs.pairs ≡ false)
    → is_some o ≡ is_some (pair (waiters_of (workers_of false ws)) (requests_of es))
has_pair_is h es ws None stands some none = ap is_some (sym (no_pair h.desks h.names es ws stands.desks stands.asking.distinct stands.serving.distinct stands.rise h.pairs.pairs stands.ready (none refl)))
has_pair_is h es ws (Some p) stands some none =
    let at = at_desk h.pairs.pairs p.0 p.1 es ws stands.ready some.there in
    ap is_some (sym (first_is_pair h es ws p.0 p.1 stands some at))

pub no_pair_is : (h : Inside) (es : List (Seat Queued)) (ws : List (Seat Worker)) (value : HallValue) → Stands h es ws → seen h ≡ value → (◌≡◌ {A = ℕ} 0 0 → (p : ℕ × ℕ) → has_pair p h.pairs.pairs ≡ false) → pair value.state.waiting value.state.requests ≡ None
no_pair_is h es ws value stands is none =
    ap (λ (v : HallValue). pair v.state.waiting v.state.requests) (sym (value_is h es ws value stands is))
    ∙ no_pair h.desks h.names es ws stands.desks stands.asking.distinct stands.serving.distinct stands.rise h.pairs.pairs stands.ready (none refl)
