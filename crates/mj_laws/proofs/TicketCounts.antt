-- How often tickets stand in the queue and with workers, after each change.
use Rattle.std.proofs.Common.{◌≡◌, ◌≢◌, ◌≤◌, ◌<◌, ◌+◌, ◌==◌, ◌||◌, ◌&&◌, ℕ, Bool, true, false, not, cond, map, List, [], ◌∷◌, ◌++◌, Option, None, Some, refl, sym, ap, subst, ◌∙◌, arith}
use Rattle.std.specs.Option.{option_map}
use Rattle.std.specs.List.{AllByRecursion, filter, find}
use Rattle.mj_queue.specs.Settling.{is_client, is_of_client, is_ticket, without_client, without_ticket}
use Rattle.mj_queue.specs.declared.request.Origin.{Origin}
use Rattle.mj_queue.specs.declared.request.Origin.TheVariants as origins
use Rattle.mj_queue.specs.declared.request.Request.{Request}
use Rattle.mj_tickets.specs.Fold.{Ticket, is_pending, number_in, numbered, RisesTo}
use Rattle.mj_tickets.proofs.RisingLemmas.{all_above}
use Rattle.mj_machine.specs.declared.held.Held.{Held}
use Rattle.mj_machine.specs.StoreState.{Told, holds_ticket, is_pending_one, ticket_request}
use Rattle.mj_machine.specs.Leaving.{comes_back, given_back, held_by, held_without}
use Rattle.mj_machine.proofs.ConnectionLemmas.{agrees, differs, equal}
use Rattle.mj_laws.specs.Soundness.{holdings, one_if, times}
use Rattle.mj_laws.specs.Tickets.{queuings, ticket_holdings}
use Rattle.mj_laws.proofs.CountLemmas.{times-append}

-- ---- filters

module _ {X : Type 0} (p keep : X → Bool) where
  -- what doesn't count may go
  pub times-kept : ((x : X) → keep x ≡ false → p x ≡ false) → (xs : List X) → times p (filter keep xs) ≡ times p xs
  times-kept gone [] = refl
  times-kept gone (x ∷ xs) = by (keep x) refl (times-kept gone xs)
    where
      by : (b : Bool) → keep x ≡ b → times p (filter keep xs) ≡ times p xs → times p (cond {A = List X} b (x ∷ filter keep xs) (filter keep xs)) ≡ one_if (p x) + times p xs
      by true is rest = ap (λ (n : ℕ). one_if (p x) + n) rest
      by false is rest = rw (gone x is) (let r = rest in omega (arith, r))

  -- and where all that counts goes nothing is left
  pub times-gone : ((x : X) → keep x ≡ true → p x ≡ false) → (xs : List X) → times p (filter keep xs) ≡ 0
  times-gone gone [] = refl
  times-gone gone (x ∷ xs) = by (keep x) refl (times-gone gone xs)
    where
      by : (b : Bool) → keep x ≡ b → times p (filter keep xs) ≡ 0 → times p (cond {A = List X} b (x ∷ filter keep xs) (filter keep xs)) ≡ 0
      by true is rest = rw (gone x is) (let r = rest in omega (arith, r))
      by false is rest = rest

-- ---- the queue

client-no-ticket : (n k : ℕ) (o : Origin) → not (is_client n o) ≡ false → is_ticket k o ≡ false
client-no-ticket n k (origins.Client m) is = refl
client-no-ticket n k (origins.Ticket m) is = absurd (cc is)

pub queue-without : (n k : ℕ) (queue : List Request) → queuings k (without_client n queue) ≡ queuings k queue
queue-without n k queue = times-kept (λ (r : Request). is_ticket k r.origin) (λ r. not (is_client n r.origin)) (λ r is. client-no-ticket n k r.origin is) queue

of-client : (k : ℕ) (o : Origin) → is_of_client o ≡ true → is_ticket k o ≡ false
of-client k (origins.Client m) is = refl
of-client k (origins.Ticket m) is = absurd (cc is)

pub queue-clients : (k : ℕ) (queue : List Request) → queuings k (filter (λ r. is_of_client r.origin) queue) ≡ 0
queue-clients k queue = times-gone (λ (r : Request). is_ticket k r.origin) (λ r. is_of_client r.origin) (λ r is. of-client k r.origin is) queue

-- a ticket taken out of the queue
pub queue-dropped : (n : ℕ) (queue : List Request) → queuings n (without_ticket n queue) ≡ 0
queue-dropped n queue = times-gone (λ (r : Request). is_ticket n r.origin) (λ r. not (is_ticket n r.origin)) (λ r is. other (is_ticket n r.origin) is) queue
  where
    other : (b : Bool) → not b ≡ true → b ≡ false
    other true is = absurd (cc is)
    other false is = refl

one-ticket : (n k : ℕ) (o : Origin) → n ≢ k → is_ticket n o ≡ true → is_ticket k o ≡ false
one-ticket n k (origins.Client m) apart is = refl
one-ticket n k (origins.Ticket m) apart is = differs m k (λ same. apart (sym (agrees m n is) ∙ same))

pub queue-other : (n k : ℕ) (queue : List Request) → n ≢ k → queuings k (without_ticket n queue) ≡ queuings k queue
queue-other n k queue apart =
    times-kept (λ (r : Request). is_ticket k r.origin) (λ r. not (is_ticket n r.origin)) (λ r is. one-ticket n k r.origin apart (yes (is_ticket n r.origin) is)) queue
  where
    yes : (b : Bool) → not b ≡ false → b ≡ true
    yes true is = refl
    yes false is = absurd (cc is)

-- ---- who holds nothing

-- nobody else's request goes
pub held-same : (n k : ℕ) (held : List Held) → holdings n held ≡ 0 → ticket_holdings k (held_without n held) ≡ ticket_holdings k held
held-same n k [] none = refl
held-same n k (h ∷ held) none = by (h.worker == n) none (held-same n k held)
  where
    by : (b : Bool) → one_if b + holdings n held ≡ 0 → (holdings n held ≡ 0 → ticket_holdings k (held_without n held) ≡ ticket_holdings k held)
        → times (λ x. is_ticket k x.request.origin) (cond {A = List Held} (not b) (h ∷ held_without n held) (held_without n held)) ≡ one_if (is_ticket k h.request.origin) + ticket_holdings k held
    by true none rest = absurd (omega (arith, none))
    by false none rest = ap (λ (m : ℕ). one_if (is_ticket k h.request.origin) + m) (rest (omega (arith, none)))

-- this is ticket k
abbrev pub is_it : ℕ → Option Request → ℕ
is_it k None = 0
is_it k (Some r) = one_if (is_ticket k r.origin)

-- who holds one request at most gives that up
pub held-released : (n k : ℕ) (held : List Held) → holdings n held ≤ 1 → ticket_holdings k held ≡ ticket_holdings k (held_without n held) + is_it k (held_by n held)
held-released n k [] few = omega arith
held-released n k (h ∷ held) few = by (h.worker == n) few (held-same n k held) (held-released n k held)
  where
    Counts : Bool → Type 0
    Counts b =
        one_if (is_ticket k h.request.origin) + ticket_holdings k held
        ≡ times (λ x. is_ticket k x.request.origin) (cond {A = List Held} (not b) (h ∷ held_without n held) (held_without n held))
        + is_it k (option_map (λ x. x.request) (cond {A = Option Held} b (Some h) (find (λ x. x.worker == n) held)))

    by : (b : Bool) → one_if b + holdings n held ≤ 1 → (holdings n held ≡ 0 → ticket_holdings k (held_without n held) ≡ ticket_holdings k held)
        → (holdings n held ≤ 1 → ticket_holdings k held ≡ ticket_holdings k (held_without n held) + is_it k (held_by n held)) → Counts b
    by true few same rest = let rest_is = same (omega (arith, few)) in omega (arith, rest_is)
    by false few same rest = let rest_is = rest (omega (arith, few)) in omega (arith, rest_is)

-- ---- what is given back

pub one_at_most : (b : Bool) → one_if b ≤ 1
one_at_most true = omega arith
one_at_most false = omega arith

-- of a request that is given up: how it counts in the queue then, where the ticket is pending or not
pub record GivesBack (told : Told) (k : ℕ) (o : Option Request) (queue : List Request) : Type 0 where
  pub back : ℕ
  pub queue_is : queuings k (given_back told o queue) ≡ queuings k queue + back
  pub no_more : back ≤ is_it k o
  pub pending : back ≤ one_if (told.pends k)
  pub all : is_it k o + one_if (told.pends k) ≤ back + 1

pub gives-back : (told : Told) (k : ℕ) (o : Option Request) (queue : List Request) → GivesBack told k o queue
gives-back told k None queue =
    let most = one_at_most (told.pends k) in record { back = 0; queue_is = omega arith; no_more = omega arith; pending = omega arith; all = omega (arith, most) }
gives-back told k (Some r) queue = by r.origin refl
  where
    Gives : Origin → Bool → Type 0
    Gives o b = (back : ℕ) × (queuings k (cond {A = List Request} b (queue ++ r ∷ []) queue) ≡ queuings k queue + back) × (back ≤ one_if (is_ticket k o)) × (back ≤ one_if (told.pends k))
        × (one_if (is_ticket k o) + one_if (told.pends k) ≤ back + 1)

    whole : (o : Origin) → r.origin ≡ o → Gives o (comes_back told o) → GivesBack told k (Some r) queue
    whole o is g = record {
      back = g.0;
      queue_is = ap (λ (x : Origin). queuings k (cond {A = List Request} (comes_back told x) (queue ++ r ∷ []) queue)) is ∙ g.1;
      no_more = subst (λ (x : Origin). g.0 ≤ one_if (is_ticket k x)) (sym is) g.2;
      pending = g.3;
      all = subst (λ (x : Origin). one_if (is_ticket k x) + one_if (told.pends k) ≤ g.0 + 1) (sym is) g.4;
    }

    -- the ticket itself, or another
    ticket : (m : ℕ) → r.origin ≡ origins.Ticket m → (same : Bool) → (m == k) ≡ same → (b : Bool) → told.pends m ≡ b → Gives (origins.Ticket m) b
    ticket m is same same_is b pends =
        let parts = times-append (λ (x : Request). is_ticket k x.origin) queue (r ∷ []) in
        let one = ap (λ (x : Origin). one_if (is_ticket k x)) is in
        of same same_is b pends parts one
      where
        of : (same : Bool) → (m == k) ≡ same → (b : Bool) → told.pends m ≡ b → queuings k (queue ++ r ∷ []) ≡ queuings k queue + queuings k (r ∷ [])
            → one_if (is_ticket k r.origin) ≡ one_if (m == k) → Gives (origins.Ticket m) b
        of true same_is true pends parts one =
            let it = ap one_if same_is in
            let now = ap one_if (ap (λ (x : ℕ). told.pends x) (sym (agrees m k same_is)) ∙ pends) in
            (1, omega (arith, parts, one, it), omega (arith, it), omega (arith, now), omega (arith, it, now))
        of true same_is false pends parts one =
            let it = ap one_if same_is in
            let now = ap one_if (ap (λ (x : ℕ). told.pends x) (sym (agrees m k same_is)) ∙ pends) in
            (0, omega arith, omega arith, omega arith, omega (arith, it, now))
        of false same_is true pends parts one =
            let it = ap one_if same_is in
            let most = one_at_most (told.pends k) in
            (0, omega (arith, parts, one, it), omega arith, omega arith, omega (arith, it, most))
        of false same_is false pends parts one =
            let it = ap one_if same_is in
            let most = one_at_most (told.pends k) in
            (0, omega arith, omega arith, omega arith, omega (arith, it, most))

    by : (o : Origin) → r.origin ≡ o → GivesBack told k (Some r) queue
    by (origins.Client m) is = let most = one_at_most (told.pends k) in whole (origins.Client m) is (0, omega arith, omega arith, omega arith, omega (arith, most))
    by (origins.Ticket m) is = whole (origins.Ticket m) is (ticket m is (m == k) refl (told.pends m) refl)

-- what doesn't come back isn't pending
pub not-back : (told : Told) (k : ℕ) (o : Option Request) → ((r : Request) → o ≡ Some r → comes_back told r.origin ≡ false) → is_it k o + one_if (told.pends k) ≤ 1
not-back told k None none = let most = one_at_most (told.pends k) in omega (arith, most)
not-back told k (Some r) none = by r.origin (none r refl)
  where
    ticket : (m : ℕ) (same : Bool) → (m == k) ≡ same → told.pends m ≡ false → one_if (m == k) + one_if (told.pends k) ≤ 1
    ticket m true same pends =
        let now = ap one_if (ap (λ (x : ℕ). told.pends x) (sym (agrees m k same)) ∙ pends) in
        let most = one_at_most (m == k) in
        omega (arith, now, most)
    ticket m false same pends = let it = ap one_if same in let most = one_at_most (told.pends k) in omega (arith, it, most)

    by : (o : Origin) → comes_back told o ≡ false → one_if (is_ticket k o) + one_if (told.pends k) ≤ 1
    by (origins.Client m) back = let most = one_at_most (told.pends k) in omega (arith, most)
    by (origins.Ticket m) back = ticket m (m == k) refl back

-- ---- tickets that wait

pub none-held : (k : ℕ) (held : List Held) → holds_ticket held k ≡ false → ticket_holdings k held ≡ 0
none-held k [] none = refl
none-held k (h ∷ held) none = by (is_ticket k h.request.origin) none (none-held k held)
  where
    by : (b : Bool) → (b || holds_ticket held k) ≡ false → (holds_ticket held k ≡ false → ticket_holdings k held ≡ 0) → one_if b + ticket_holdings k held ≡ 0
    by true none rest = absurd (cc none)
    by false none rest = let r = rest none in omega (arith, r)

pub some-held : (k : ℕ) (held : List Held) → holds_ticket held k ≡ true → 1 ≤ ticket_holdings k held
some-held k [] some = absurd (cc some)
some-held k (h ∷ held) some = by (is_ticket k h.request.origin) some (some-held k held)
  where
    by : (b : Bool) → (b || holds_ticket held k) ≡ true → (holds_ticket held k ≡ true → 1 ≤ ticket_holdings k held) → 1 ≤ one_if b + ticket_holdings k held
    by true some rest = omega arith
    by false some rest = let r = rest some in omega (arith, r)

module _ {B : Type 0} (held : List Held) (k : ℕ) where
  abbrev Waiting : List (Ticket B) → List Request
  Waiting ts = map (λ t. ticket_request t.number t.service) (filter (λ t. is_pending t && not (holds_ticket held t.number)) ts)

  -- those of other numbers
  waiting-others : (ts : List (Ticket B)) → AllByRecursion (λ n. k < n) (map number_in ts) → queuings k (Waiting ts) ≡ 0
  waiting-others [] above = refl
  waiting-others (t ∷ ts) above = by (is_pending t && not (holds_ticket held t.number)) (waiting-others ts above.1)
    where
      by : (b : Bool) → queuings k (Waiting ts) ≡ 0 → queuings k (map (λ x. ticket_request x.number x.service) (cond {A = List (Ticket B)} b (t ∷ filter (λ x. is_pending x && not (holds_ticket held x.number)) ts)
          (filter (λ x. is_pending x && not (holds_ticket held x.number)) ts))) ≡ 0
      by true rest = let past = above.0 in rw (differs t.number k (λ same. omega (arith, past, same))) (let r = rest in omega (arith, r))
      by false rest = rest

  -- the request of a pending ticket that nobody holds is there once
  pub waiting-once : (low : ℕ) (ts : List (Ticket B)) (high : ℕ) → RisesTo low (map number_in ts) high
      → queuings k (Waiting ts) ≡ one_if (is_pending_one (find (numbered k) ts) && not (holds_ticket held k))
  waiting-once low [] high rise = refl
  waiting-once low (t ∷ ts) high rise = by (t.number == k) refl (waiting-once t.number ts high rise.1)
    where
      Rest : List (Ticket B)
      Rest = filter (λ x. is_pending x && not (holds_ticket held x.number)) ts

      here : (b : Bool) → t.number ≡ k → queuings k (map (λ x. ticket_request x.number x.service) (cond {A = List (Ticket B)} b (t ∷ Rest) Rest)) ≡ one_if b
      here true same =
          let none = waiting-others ts (subst (λ (n : ℕ). AllByRecursion (λ m. n < m) (map number_in ts)) same (all_above t.number (map number_in ts) high rise.1)) in
          let it = ap one_if (ap (λ (n : ℕ). n == k) same ∙ equal k) in
          omega (arith, none, it)
      here false same = waiting-others ts (subst (λ (n : ℕ). AllByRecursion (λ m. n < m) (map number_in ts)) same (all_above t.number (map number_in ts) high rise.1))

      there : (b : Bool) → (t.number == k) ≡ false → queuings k (map (λ x. ticket_request x.number x.service) (cond {A = List (Ticket B)} b (t ∷ Rest) Rest)) ≡ queuings k (Waiting ts)
      there true other = let it = ap one_if other in omega (arith, it)
      there false other = refl

      by : (b : Bool) → (t.number == k) ≡ b → queuings k (Waiting ts) ≡ one_if (is_pending_one (find (numbered k) ts) && not (holds_ticket held k))
          → queuings k (Waiting (t ∷ ts)) ≡ one_if (is_pending_one (cond {A = Option (Ticket B)} b (Some t) (find (numbered k) ts)) && not (holds_ticket held k))
      by true is rest =
          here (is_pending t && not (holds_ticket held t.number)) (agrees t.number k is)
          ∙ ap (λ (n : ℕ). one_if (is_pending t && not (holds_ticket held n))) (agrees t.number k is)
      by false is rest = there (is_pending t && not (holds_ticket held t.number)) is ∙ rest
