-- The flat list of requests, once one has left or none is to leave.
use Rattle.std.proofs.Common.{◌≡◌, ℕ, ◌+◌, ◌==◌, Bool, true, false, not, cond, ◌||◌, List, [], ◌∷◌, length, Option, Some, None, IfSome, IfNone, refl, sym, ◌∙◌, ap, subst, arith}
use Rattle.std.specs.List.{filter}
use Rattle.std.proofs.lemmas.Bool.Decides.{nat_tests}
use Rattle.std.proofs.lemmas.List.{length-map}
use Rattle.mj_counted.specs.declared.index.Index.{Index}
use Rattle.mj_counted.specs.declared.rows.Rows.{Rows}
use Rattle.mj_counted.specs.Names.{key_of}
use Rattle.mj_counted.specs.Rows.{entry}
use Rattle.mj_chain.specs.declared.desk.Desk.{Desk}
use Rattle.mj_counted.specs.Pairs.{has_pair}
use Rattle.mj_chain.specs.declared.node.Node.{Node}
use Rattle.mj_chain.specs.Seats.{Seat, are_distinct, found, has_key, is_key, last_from, seat_key, take_out}
use Rattle.mj_chain.proofs.RowLemmas.{found-key}
use Rattle.mj_queue.specs.declared.request.Origin.{Origin}
use Rattle.mj_queue.specs.declared.request.Origin.TheVariants.{Client, Ticket}
use Rattle.mj_queue.specs.declared.request.Request.{Request}
use Rattle.mj_queue.specs.Settling.{is_client, is_of_client, is_ticket}
use Rattle.mj_hall.specs.declared.kept.Queued.{Queued}
use Rattle.mj_hall.specs.declared.kept.Worker.{Worker}
use Rattle.mj_hall.specs.declared.leaving.Whose.{Whose}
use Rattle.mj_hall.specs.declared.leaving.Whose.TheVariants as whose
use Rattle.mj_hall.specs.Asking.{Asking, of_origin, same_origin}
use Rattle.mj_hall.specs.Desks.{Desks, desk_of}
use Rattle.mj_hall.specs.Floor.{requests_of}
use Rattle.mj_hall.specs.Ready.{ReadyBut}
use Rattle.mj_hall.specs.Whose.{stays}
use Rattle.mj_hall.proofs.AskingLemmas.{length-out}
use Rattle.mj_hall.proofs.CrewLemmas.{all_stay, filter_same, same_some}
use Rattle.mj_hall.proofs.DeskLemmas.{part-stays}
use Rattle.mj_hall.proofs.ReadyLemmas.{hidden_stays}
use Rattle.mj_hall.proofs.TakeLemmas.{filter-found, found-filter}

own_number : (n : ℕ) → (n == n) ≡ true
own_number n = grind (arith, nat_tests)

wrong : (A : Type 0) → true ≡ false → A
wrong A e = cc

filter_of : (t : Request → Bool) (es : List (Seat Queued)) → filter t (requests_of es) ≡ requests_of (filter (λ s. t s.value.request) es)
filter_of t [] = refl
filter_of t (s ∷ ss) = of (t s.value.request) (filter_of t ss)
  where
    of : (b : Bool) → filter t (requests_of ss) ≡ requests_of (filter (λ s. t s.value.request) ss) → cond b (s.value.request ∷ filter t (requests_of ss)) (filter t (requests_of ss)) ≡ requests_of (cond b (s ∷ filter (λ s. t s.value.request) ss) (filter (λ s. t s.value.request) ss))
    of true later = ap (λ (rs : List Request). s.value.request ∷ rs) later
    of false later = later

pub all_kept : (t : Request → Bool) (es : List (Seat Queued)) → are_distinct seat_key es ≡ true → ((k : ℕ) (v : Queued) → found k es ≡ Some v → t v.request ≡ true) → filter t (requests_of es) ≡ requests_of es
all_kept t es d all = filter_of t es ∙ ap requests_of (filter_same (λ (s : Seat Queued). t s.value.request) (λ s. true) es d all ∙ all_stay es)

pub kept-out : (t : Request → Bool) (k : ℕ) (x : Queued) (es : List (Seat Queued)) → are_distinct seat_key es ≡ true → found k es ≡ Some x → t x.request ≡ false → filter t (requests_of (take_out seat_key k es)) ≡ filter t (requests_of es)
kept-out t k x es d at away = filter_of t (take_out seat_key k es) ∙ ap requests_of (part-stays (λ (q : Queued). t q.request) k x es d at away) ∙ sym (filter_of t es)

pub fewer-out : (k : ℕ) (x : Queued) (es : List (Seat Queued)) → are_distinct seat_key es ≡ true → found k es ≡ Some x → length (requests_of (take_out seat_key k es)) + 1 ≡ length (requests_of es)
fewer-out k x es d at =
    let less = length-out k es d (found-key k es x at) in
    let left = length-map (take_out seat_key k es) (λ (s : Seat Queued). s.value.request) in
    let all = length-map es (λ (s : Seat Queued). s.value.request) in
    omega arith

-- who is last of an origin
last_there : (s : Seat Queued) (ss : List (Seat Queued)) (k : ℕ) → last_from seat_key (Some s.key) ss ≡ Some k → has_key seat_key k (s ∷ ss) ≡ true
last_there s [] k e =
    let same : s.key ≡ k = cc in
    ap (λ (b : Bool). b || false) (subst (λ (n : ℕ). (s.key == n) ≡ true) same (own_number s.key))
last_there s (t ∷ ts) k e = ap (λ (b : Bool). (s.key == k) || b) (last_there t ts k e) ∙ or_true (s.key == k)
  where
    or_true : (b : Bool) → (b || true) ≡ true
    or_true true = refl
    or_true false = refl

key_there : (k : ℕ) (xs : List (Seat Queued)) → has_key seat_key k xs ≡ true → (x : Queued) × (found k xs ≡ Some x)
key_there k [] e = cc
key_there k (s ∷ ss) e = of (s.key == k) refl e (λ h. key_there k ss h)
  where
    of : (b : Bool) → (s.key == k) ≡ b → (b || has_key seat_key k ss) ≡ true → (has_key seat_key k ss ≡ true → (x : Queued) × (found k ss ≡ Some x)) → (x : Queued) × (found k (s ∷ ss) ≡ Some x)
    of true f h later = (s.value, rw f refl)
    of false f h later = let one = later h in (one.0, rw f one.1)

found_last : (k : ℕ) (xs : List (Seat Queued)) → last_from seat_key None xs ≡ Some k → (x : Queued) × (found k xs ≡ Some x)
found_last k [] e = cc
found_last k (s ∷ ss) e = key_there k (s ∷ ss) (last_there s ss k e)

no_last : (s : Seat Queued) (ss : List (Seat Queued)) → last_from seat_key (Some s.key) ss ≡ None → true ≡ false
no_last s [] e = cc
no_last s (t ∷ ts) e = no_last t ts e

none_last : (xs : List (Seat Queued)) → last_from seat_key None xs ≡ None → (k : ℕ) (v : Queued) → found k xs ≡ Some v → true ≡ false
none_last [] e k v f = cc
none_last (s ∷ ss) e k v f = no_last s ss e

abbrev One : Whose → ℕ → List (Seat Queued) → Type 0
One w key es = (x : Queued) × (found key es ≡ Some x) × (stays w x.request ≡ false)

-- the last of an origin is one that leaves, and where there is none all stay
module _ (w : Whose) (origin : Origin) (same : (r : Request) → stays w r ≡ not (same_origin origin r.origin)) (es : List (Seat Queued)) (d : are_distinct seat_key es ≡ true) where
  pub last_leaves : (k : ℕ) → last_from seat_key None (of_origin origin es) ≡ Some k → One w k es
  last_leaves k e =
      let one = found_last k (of_origin origin es) e in
      let kept = filter-found (λ (q : Queued). same_origin origin q.request.origin) k one.0 es d one.1 in
      (one.0, kept.there, same one.0.request ∙ ap not kept.passes)

  pub none_leaves : last_from seat_key None (of_origin origin es) ≡ None → filter (stays w) (requests_of es) ≡ requests_of es
  none_leaves e = all_kept (stays w) es d (λ k v f. of k v f (same_origin origin v.request.origin) refl)
    where
      of : (k : ℕ) (v : Queued) → found k es ≡ Some v → (b : Bool) → same_origin origin v.request.origin ≡ b → stays w v.request ≡ true
      of k v f true g = wrong _ (none_last (of_origin origin es) e k v (found-filter (λ (q : Queued). same_origin origin q.request.origin) k v es f g))
      of k v f false g = same v.request ∙ ap not g

pub client_stays : (n : ℕ) (r : Request) → stays (whose.Client n) r ≡ not (same_origin (Client n) r.origin)
client_stays n r = of r.origin
  where
    of : (o : Origin) → not (is_client n o) ≡ not (same_origin (Client n) o)
    of (Client m) = refl
    of (Ticket m) = refl

pub ticket_stays : (n : ℕ) (r : Request) → stays (whose.Ticket n) r ≡ not (same_origin (Ticket n) r.origin)
ticket_stays n r = of r.origin
  where
    of : (o : Origin) → not (is_ticket n o) ≡ not (same_origin (Ticket n) o)
    of (Client m) = refl
    of (Ticket m) = refl

-- of all tickets
pub some_ticket : (n k : ℕ) (requests : Rows (Node Queued)) (cs ts : List (ℕ × ℕ)) (es : List (Seat Queued)) → Asking requests cs ts es → has_pair (n, k) ts ≡ true → One whose.Tickets k es
some_ticket n k requests cs ts es a there = of (last_from seat_key None (of_origin (Ticket n) es)) refl (sym (a.by_ticket (n, k)) ∙ there)
  where
    number_is : (i j : ℕ) → (i == j) ≡ true → i ≡ j
    number_is i j e = grind (arith, nat_tests)

    of_ticket : (o : Origin) → same_origin (Ticket n) o ≡ true → is_of_client o ≡ false
    of_ticket (Client m) e = cc
    of_ticket (Ticket m) e = refl

    of : (o : Option ℕ) → last_from seat_key None (of_origin (Ticket n) es) ≡ o → is_key k o ≡ true → One whose.Tickets k es
    of None e f = cc
    of (Some j) e f =
        let one = found_last k (of_origin (Ticket n) es) (e ∙ ap (λ (i : ℕ). Some i) (number_is j k f)) in
        let kept = filter-found (λ (q : Queued). same_origin (Ticket n) q.request.origin) k one.0 es a.distinct one.1 in
        (one.0, kept.there, of_ticket one.0.request.origin kept.passes)

pub no_ticket : (requests : Rows (Node Queued)) (cs ts : List (ℕ × ℕ)) (es : List (Seat Queued)) → Asking requests cs ts es → ((p : ℕ × ℕ) → has_pair p ts ≡ false) → filter (stays whose.Tickets) (requests_of es) ≡ requests_of es
no_ticket requests cs ts es a none = all_kept (stays whose.Tickets) es a.distinct (λ k v f. of k v f v.request.origin refl)
  where
    empty : (n : ℕ) (o : Option ℕ) → last_from seat_key None (of_origin (Ticket n) es) ≡ o → last_from seat_key None (of_origin (Ticket n) es) ≡ None
    empty n None e = e
    empty n (Some j) e = wrong _ (sym (a.by_ticket (n, j) ∙ ap (is_key j) e ∙ own_number j) ∙ none (n, j))

    of : (k : ℕ) (v : Queued) → found k es ≡ Some v → (o : Origin) → v.request.origin ≡ o → is_of_client v.request.origin ≡ true
    of k v f (Client m) e = ap is_of_client e
    of k v f (Ticket m) e =
        wrong _ (none_last (of_origin (Ticket m) es) (empty m (last_from seat_key None (of_origin (Ticket m) es)) refl) k v (found-filter (λ (q : Queued). same_origin (Ticket m) q.request.origin) k v es f (ap (same_origin (Ticket m)) e ∙ own_number m)))

-- what is found by an origin, as a clause says it
abbrev Asks : List (ℕ × ℕ) → List (ℕ × ℕ) → (List (Seat Queued) → Type 0) → Type 0
Asks cs ts P = (requests : Rows (Node Queued)) (es : List (Seat Queued)) → Asking requests cs ts es → P es

module _ (w : Whose) (origin : Origin) (same : (r : Request) → stays w r ≡ not (same_origin origin r.origin)) (cs ts : List (ℕ × ℕ)) where
  pub if_last : (o : Option ℕ) → Asks cs ts (λ es. o ≡ last_from seat_key None (of_origin origin es)) → IfSome o (λ key. Asks cs ts (One w key))
  if_last None is = tt
  if_last (Some k) is = λ requests es a. last_leaves w origin same es a.distinct k (sym (is requests es a))

  pub if_no_last : (o : Option ℕ) → Asks cs ts (λ es. o ≡ last_from seat_key None (of_origin origin es)) → IfNone o (Asks cs ts (λ es. filter (stays w) (requests_of es) ≡ requests_of es))
  if_no_last None is = λ requests es a. none_leaves w origin same es a.distinct (sym (is requests es a))
  if_no_last (Some k) is = tt

pub if_ticket : (cs ts : List (ℕ × ℕ)) (o : Option ℕ) → IfSome o (λ key. (n : ℕ) × (has_pair (n, key) ts ≡ true)) → IfSome o (λ key. Asks cs ts (One whose.Tickets key))
if_ticket cs ts None some = tt
if_ticket cs ts (Some k) some = λ requests es a. some_ticket some.0 k requests cs ts es a some.1

pub if_no_ticket : (cs ts : List (ℕ × ℕ)) (o : Option ℕ) → IfNone o ((p : ℕ × ℕ) → has_pair p ts ≡ false) → IfNone o (Asks cs ts (λ es. filter (stays whose.Tickets) (requests_of es) ≡ requests_of es))
if_no_ticket cs ts None none = λ requests es a. no_ticket requests cs ts es a none
if_no_ticket cs ts (Some k) none = tt

-- the request that leaves, with the desk that was read of it
pub record Parting (desk : ℕ) (places : Rows Desk) (names : Index) (es : List (Seat Queued)) (ws : List (Seat Worker)) (x : Queued) : Type 0 where
  pub place : x.desk ≡ desk
  pub named : key_of names x.request.service ≡ Some desk
  pub here : entry places desk ≡ Some (desk_of desk es ws)

pub parting_at : (places : Rows Desk) (names : Index) (es : List (Seat Queued)) (ws : List (Seat Worker)) (k desk : ℕ) (x : Queued) (read : Option ℕ) → Desks places names es ws → found k es ≡ Some x → read ≡ Some x.desk → read ≡ Some desk → Parting desk places names es ws x
parting_at places names es ws k desk x read are at reads is =
    let place : x.desk ≡ desk = same_some read x.desk desk reads is in
    let named : key_of names x.request.service ≡ Some desk = are.asked k x at ∙ ap (λ (n : ℕ). Some n) place in
    record { place = place; named = named; here = are.each x.request.service desk named }

pub hidden_parts : (k d : ℕ) (x : Queued) (pairs : List (ℕ × ℕ)) (es : List (Seat Queued)) (ws : List (Seat Worker)) → are_distinct seat_key es ≡ true → found k es ≡ Some x → x.desk ≡ d → ReadyBut (Some d) pairs es ws → ReadyBut (Some d) pairs (take_out seat_key k es) ws
hidden_parts k d x pairs es ws distinct at place ready =
    hidden_stays d pairs es (take_out seat_key k es) ws ws (λ m e. part-stays (λ (q : Queued). q.desk == m) k x es distinct at (subst (λ (i : ℕ). (i == m) ≡ false) (sym place) e)) (λ m e. refl) ready

abbrev pub ClauseSome : Whose → List (ℕ × ℕ) → List (ℕ × ℕ) → Option ℕ → Type 0
ClauseSome w cs ts o = IfSome o (λ key. Asks cs ts (One w key))

abbrev pub ClauseNone : Whose → List (ℕ × ℕ) → List (ℕ × ℕ) → Option ℕ → Type 0
ClauseNone w cs ts o = IfNone o (Asks cs ts (λ es. filter (stays w) (requests_of es) ≡ requests_of es))
