-- Where a load stands behind a turn.
use Rattle.std.proofs.Common.{◌≡◌, ◌<◌, ◌≤◌, ◌+◌, ◌-◌, ◌*◌, ℕ, zero, suc, Bool, true, false, ◌&&◌, nat_eq, nat_le, nat_lt, List, [], ◌∷◌, ◌++◌, map, flat_map, length, cond, refl, sym, ap, ◌∙◌, subst, arith, length-append}
use Rattle.std.proofs.lemmas.Bool.Decides.{nat_tests}
use Rattle.std.proofs.lemmas.List.{append_assoc}
use Rattle.std.proofs.lemmas.List.FromFn.{length-map-range_with_len}
use Rattle.std.specs.List.{range_with_len}
use Rattle.mj_base.specs.declared.event.Event.{Event}
use Rattle.mj_gen.specs.Generated.{answering, asking, below, generated, joining, serving, storing, tickets}
use Rattle.mj_gen.specs.ToCome.{IsPlace, all_answers, all_requests, all_tickets, all_workers, behind_answer, behind_join, behind_ticket, event_of, first_ticket, from_to, is_turn, next_of, to_come, turn_behind}
use Rattle.mj_gen.specs.declared.load.Turn.{Turn}
use Rattle.mj_gen.specs.declared.load.Turn.TheVariants.{Open, Hello, Greeted, Shaken, Ask, Serve, Taken, Reply, Answered, File, Filed, Over}

pub tickets-few : (n : ℕ) (stored : Bool) → tickets n stored ≤ 1000
tickets-few n true = omega arith
tickets-few n false = omega arith

-- the tests of a turn as facts
abbrev pub IsTurn : ℕ → Bool → Turn → ℕ → Type 0
IsTurn n stored Open lane = lane < 8
IsTurn n stored Hello lane = lane < 8
IsTurn n stored Greeted lane = lane < 8
IsTurn n stored Shaken lane = lane < 8
IsTurn n stored Ask i = i < n
IsTurn n stored Serve w = w < 4
IsTurn n stored Taken i = i < n
IsTurn n stored Reply i = i < n
IsTurn n stored Answered i = i < n
IsTurn n stored File j = (1 ≤ j) × (j ≤ tickets n stored)
IsTurn n stored Filed j = (1 ≤ j) × (j ≤ tickets n stored)
IsTurn n stored Over number = number ≡ 0

both-true : (a b : Bool) → (a && b) ≡ true → (a ≡ true) × (b ≡ true)
both-true true true e = (refl, refl)
both-true true false e = absurd (cc e)
both-true false b e = absurd (cc e)

and-true : (a b : Bool) → a ≡ true → b ≡ true → (a && b) ≡ true
and-true true b p q = q
and-true false b p q = absurd (cc p)

lt-of : (a b : ℕ) → nat_lt a b ≡ true → a < b
lt-of a b e = grind (arith, nat_tests)

le-of : (a b : ℕ) → nat_le a b ≡ true → a ≤ b
le-of a b e = grind (arith, nat_tests)

of-lt : (a b : ℕ) → a < b → nat_lt a b ≡ true
of-lt a b e = grind (arith, nat_tests)

of-le : (a b : ℕ) → a ≤ b → nat_le a b ≡ true
of-le a b e = grind (arith, nat_tests)

eq-of : (a b : ℕ) → nat_eq a b ≡ true → a ≡ b
eq-of a b e = grind (arith, nat_tests)

of-eq : (a b : ℕ) → a ≡ b → nat_eq a b ≡ true
of-eq a b e = grind (arith, nat_tests)

span-of : (j most : ℕ) → (nat_le 1 j && nat_le j most) ≡ true → (1 ≤ j) × (j ≤ most)
span-of j most e = let b = both-true (nat_le 1 j) (nat_le j most) e in (le-of 1 j b.0, le-of j most b.1)

pub turn-of : (n : ℕ) (stored : Bool) (turn : Turn) (number : ℕ) → is_turn n stored turn number ≡ true → IsTurn n stored turn number
turn-of n stored Open number e = lt-of number 8 e
turn-of n stored Hello number e = lt-of number 8 e
turn-of n stored Greeted number e = lt-of number 8 e
turn-of n stored Shaken number e = lt-of number 8 e
turn-of n stored Ask number e = lt-of number n e
turn-of n stored Serve number e = lt-of number 4 e
turn-of n stored Taken number e = lt-of number n e
turn-of n stored Reply number e = lt-of number n e
turn-of n stored Answered number e = lt-of number n e
turn-of n stored File number e = span-of number (tickets n stored) e
turn-of n stored Filed number e = span-of number (tickets n stored) e
turn-of n stored Over number e = eq-of number 0 e

of-turn : (n : ℕ) (stored : Bool) (turn : Turn) (number : ℕ) → IsTurn n stored turn number → is_turn n stored turn number ≡ true
of-turn n stored Open number is = of-lt number 8 is
of-turn n stored Hello number is = of-lt number 8 is
of-turn n stored Greeted number is = of-lt number 8 is
of-turn n stored Shaken number is = of-lt number 8 is
of-turn n stored Ask number is = of-lt number n is
of-turn n stored Serve number is = of-lt number 4 is
of-turn n stored Taken number is = of-lt number n is
of-turn n stored Reply number is = of-lt number n is
of-turn n stored Answered number is = of-lt number n is
of-turn n stored File number is = and-true (nat_le 1 number) (nat_le number (tickets n stored)) (of-le 1 number is.0) (of-le number (tickets n stored) is.1)
of-turn n stored Filed number is = and-true (nat_le 1 number) (nat_le number (tickets n stored)) (of-le 1 number is.0) (of-le number (tickets n stored) is.1)
of-turn n stored Over number is = of-eq number 0 is

small-turn : (n : ℕ) (stored : Bool) (turn : Turn) (number : ℕ) → n ≤ 60000 → IsTurn n stored turn number → number ≤ 60000
small-turn n stored Open number few is = omega (arith, is)
small-turn n stored Hello number few is = omega (arith, is)
small-turn n stored Greeted number few is = omega (arith, is)
small-turn n stored Shaken number few is = omega (arith, is)
small-turn n stored Ask number few is = omega (arith, is, few)
small-turn n stored Serve number few is = omega (arith, is)
small-turn n stored Taken number few is = omega (arith, is, few)
small-turn n stored Reply number few is = omega (arith, is, few)
small-turn n stored Answered number few is = omega (arith, is, few)
small-turn n stored File number few is = omega (arith, is.1, tickets-few n stored)
small-turn n stored Filed number few is = omega (arith, is.1, tickets-few n stored)
small-turn n stored Over number few is = omega (arith, is)

pub place_small : (n : ℕ) (stored : Bool) (turn : Turn) (number : ℕ) → IsPlace n stored turn number → number ≤ 60000
place_small n stored turn number p = small-turn n stored turn number p.few (turn-of n stored turn number p.turn_is)

-- ---- the next turn

-- what holds of the same turn's next number below the end, and of the other turn behind it
by-test : (Says : Turn × ℕ → Type 0) (b : Bool) (number end : ℕ) (same other : Turn × ℕ) → nat_lt number end ≡ b → (number < end → Says same) → (end ≤ number → Says other) → Says (cond b same other)
by-test Says true number end same other is stays unkept = stays (grind (arith, nat_tests))
by-test Says false number end same other is stays unkept = unkept (grind (arith, nat_tests))

module _ (n : ℕ) (stored : Bool) (some : 1 ≤ n) (few : n ≤ 60000) where
  abbrev At : Turn × ℕ → Type 0
  At p = IsTurn n stored p.0 p.1

  first-at : (b : Bool) → stored ≡ b → At (first_ticket b)
  first-at true is = (omega arith, subst (λ (s : Bool). 1 ≤ tickets n s) (sym is) (omega arith))
  first-at false is = refl

  turn-at : (turn : Turn) (number : ℕ) → IsTurn n stored turn number → At (turn_behind n stored turn number)
  turn-at Open number is = is
  turn-at Hello number is = is
  turn-at Greeted number is = is
  turn-at Shaken number is = by-test At (nat_lt (number + 1) 8) (number + 1) 8 _ _ refl (λ below. below) (λ end. some)
  turn-at Ask number is = by-test At (nat_lt (number + 1) n) (number + 1) n _ _ refl (λ below. below) (λ end. omega arith)
  turn-at Serve number is = by-test At (nat_lt (number + 1) 4) (number + 1) 4 _ _ refl (λ below. below) (λ end. some)
  turn-at Taken number is = is
  turn-at Reply number is = is
  turn-at Answered number is = by-test At (nat_lt (number + 1) n) (number + 1) n _ _ refl (λ below. below) (λ end. first-at stored refl)
  turn-at File number is = is
  turn-at Filed number is = by-test At (nat_lt number (tickets n stored)) number (tickets n stored) _ _ refl (λ below. (omega arith, omega (arith, below))) (λ end. refl)
  turn-at Over number is = refl

pub place_behind : (n : ℕ) (stored : Bool) (turn : Turn) (number : ℕ) → IsPlace n stored turn number → IsPlace n stored (turn_behind n stored turn number).0 (turn_behind n stored turn number).1
place_behind n stored turn number p = record { some = p.some; few = p.few; turn_is = of-turn n stored (turn_behind n stored turn number).0 (turn_behind n stored turn number).1 (turn-at n stored p.some p.few turn number (turn-of n stored turn number p.turn_is)) }

-- ---- what is to come

more : (first end : ℕ) → first < end → from_to first end ≡ first ∷ from_to (first + 1) end
more first end inside = let e : end - first ≡ suc (end - (first + 1)) = omega (arith, inside) in ap (λ (k : ℕ). range_with_len first k) e

none : (first end : ℕ) → end ≤ first → from_to first end ≡ []
none first end behind = let e : end - first ≡ 0 = omega (arith, behind) in ap (λ (k : ℕ). range_with_len first k) e

flat-more : (f : ℕ → List Event) (first end : ℕ) (rest : List Event) → first < end → flat_map f (from_to first end) ++ rest ≡ f first ++ (flat_map f (from_to (first + 1) end) ++ rest)
flat-more f first end rest inside = ap (λ (l : List ℕ). flat_map f l ++ rest) (more first end inside) ∙ append_assoc (f first) (flat_map f (from_to (first + 1) end)) rest

flat-none : (f : ℕ → List Event) (first end : ℕ) (rest : List Event) → end ≤ first → flat_map f (from_to first end) ++ rest ≡ rest
flat-none f first end rest behind = ap (λ (l : List ℕ). flat_map f l ++ rest) (none first end behind)

map-more : (f : ℕ → Event) (first end : ℕ) (rest : List Event) → first < end → map f (from_to first end) ++ rest ≡ f first ∷ (map f (from_to (first + 1) end) ++ rest)
map-more f first end rest inside = ap (λ (l : List ℕ). map f l ++ rest) (more first end inside)

map-none : (f : ℕ → Event) (first end : ℕ) (rest : List Event) → end ≤ first → map f (from_to first end) ++ rest ≡ rest
map-none f first end rest behind = ap (λ (l : List ℕ). map f l ++ rest) (none first end behind)

below-is : (n : ℕ) → below n ≡ from_to 0 n
below-is n = let e : n ≡ n - 0 = omega arith in ap (λ (k : ℕ). range_with_len 0 k) e

module _ (n : ℕ) (stored : Bool) (some : 1 ≤ n) where
  abbrev from : Turn × ℕ → List Event
  from p = to_come n stored p.0 p.1

  requests-are : all_requests n stored ≡ to_come n stored Ask 0
  requests-are = ap (λ (l : List ℕ). map asking l ++ all_workers n stored) (below-is n) ∙ map-more asking 0 n (all_workers n stored) some

  answers-are : all_answers n stored ≡ to_come n stored Taken 0
  answers-are = ap (λ (l : List ℕ). flat_map answering l ++ all_tickets n stored) (below-is n) ∙ flat-more answering 0 n (all_tickets n stored) some

  tickets-first : (b : Bool) → stored ≡ b → all_tickets n stored ≡ from (first_ticket b)
  tickets-first true is =
      let t : tickets n stored ≡ (tickets n stored + 1) - 1 = omega arith in
      let some-ticket : 1 < tickets n stored + 1 = subst (λ (s : Bool). 1 < tickets n s + 1) (sym is) (omega arith) in
      ap (λ (k : ℕ). flat_map storing (range_with_len 1 k)) t ∙ ap (λ (l : List ℕ). flat_map storing l) (more 1 (tickets n stored + 1) some-ticket)
  tickets-first false is = ap (λ (s : Bool). flat_map storing (range_with_len 1 (tickets n s))) is

  joins-on : (lane : ℕ) → behind_join n stored lane ≡ from (next_of 8 Open Ask lane)
  joins-on lane = by-test (λ (p : Turn × ℕ). behind_join n stored lane ≡ from p) (nat_lt (lane + 1) 8) (lane + 1) 8 _ _ refl
      (λ below. flat-more joining (lane + 1) 8 (all_requests n stored) below)
      (λ end. flat-none joining (lane + 1) 8 (all_requests n stored) end ∙ requests-are)

  asks-on : (i : ℕ) → map asking (from_to (i + 1) n) ++ all_workers n stored ≡ from (next_of n Ask Serve i)
  asks-on i = by-test (λ (p : Turn × ℕ). map asking (from_to (i + 1) n) ++ all_workers n stored ≡ from p) (nat_lt (i + 1) n) (i + 1) n _ _ refl
      (λ below. map-more asking (i + 1) n (all_workers n stored) below)
      (λ end. map-none asking (i + 1) n (all_workers n stored) end)

  serves-on : (w : ℕ) → map serving (from_to (w + 1) 4) ++ all_answers n stored ≡ from (next_of 4 Serve Taken w)
  serves-on w = by-test (λ (p : Turn × ℕ). map serving (from_to (w + 1) 4) ++ all_answers n stored ≡ from p) (nat_lt (w + 1) 4) (w + 1) 4 _ _ refl
      (λ below. map-more serving (w + 1) 4 (all_answers n stored) below)
      (λ end. map-none serving (w + 1) 4 (all_answers n stored) end ∙ answers-are)

  answers-on : (i : ℕ) → behind_answer n stored i ≡ from (turn_behind n stored Answered i)
  answers-on i = by-test (λ (p : Turn × ℕ). behind_answer n stored i ≡ from p) (nat_lt (i + 1) n) (i + 1) n _ _ refl
      (λ below. flat-more answering (i + 1) n (all_tickets n stored) below)
      (λ end. flat-none answering (i + 1) n (all_tickets n stored) end ∙ tickets-first stored refl)

  tickets-on : (j : ℕ) → behind_ticket n stored j ≡ from (turn_behind n stored Filed j)
  tickets-on j = by-test (λ (p : Turn × ℕ). behind_ticket n stored j ≡ from p) (nat_lt j (tickets n stored)) j (tickets n stored) _ _ refl
      (λ below. let inside : j + 1 < tickets n stored + 1 = omega (arith, below) in ap (λ (l : List ℕ). flat_map storing l) (more (j + 1) (tickets n stored + 1) inside))
      (λ end. let behind : tickets n stored + 1 ≤ j + 1 = omega (arith, end) in ap (λ (l : List ℕ). flat_map storing l) (none (j + 1) (tickets n stored + 1) behind))

  on : (turn : Turn) (number : ℕ) → (turn ≡ Over → ⊥) → to_come n stored turn number ≡ event_of turn number ∷ from (turn_behind n stored turn number)
  on Open number going = refl
  on Hello number going = refl
  on Greeted number going = refl
  on Shaken number going = ap (λ (rest : List Event). event_of Shaken number ∷ rest) (joins-on number)
  on Ask number going = ap (λ (rest : List Event). event_of Ask number ∷ rest) (asks-on number)
  on Serve number going = ap (λ (rest : List Event). event_of Serve number ∷ rest) (serves-on number)
  on Taken number going = refl
  on Reply number going = refl
  on Answered number going = ap (λ (rest : List Event). event_of Answered number ∷ rest) (answers-on number)
  on File number going = refl
  on Filed number going = ap (λ (rest : List Event). event_of Filed number ∷ rest) (tickets-on number)
  on Over number going = absurd (going refl)

pub goes_on : (n : ℕ) (stored : Bool) (turn : Turn) (number : ℕ) → IsPlace n stored turn number → (turn ≡ Over → ⊥)
    → to_come n stored turn number ≡ event_of turn number ∷ to_come n stored (turn_behind n stored turn number).0 (turn_behind n stored turn number).1
goes_on n stored turn number p going = on n stored p.some turn number going

-- ---- how many there are

answers-size : (k i : ℕ) → length (flat_map answering (range_with_len i k)) ≡ 3 * k
answers-size zero i = refl
answers-size (suc k) i = let e = answers-size k (i + 1) in omega (arith, e)

tickets-size : (k i : ℕ) → length (flat_map storing (range_with_len i k)) ≡ 2 * k
tickets-size zero i = refl
tickets-size (suc k) i = let e = tickets-size k (i + 1) in omega (arith, e)

pub load_few : (n : ℕ) (stored : Bool) → n ≤ 60000 → length (generated n stored) ≤ 300000
load_few n stored few =
    let requests : length (map asking (below n)) ≡ n = length-map-range_with_len asking 0 n in
    let answers : length (flat_map answering (below n)) ≡ 3 * n = answers-size n 0 in
    let filed : length (all_tickets n stored) ≡ 2 * tickets n stored = tickets-size (tickets n stored) 1 in
    let behind : length (all_answers n stored) ≡ length (flat_map answering (below n)) + length (all_tickets n stored) = length-append (flat_map answering (below n)) (all_tickets n stored) in
    let served : length (all_workers n stored) ≡ 4 + length (all_answers n stored) = length-append (map serving (below 4)) (all_answers n stored) in
    let asked : length (all_requests n stored) ≡ length (map asking (below n)) + length (all_workers n stored) = length-append (map asking (below n)) (all_workers n stored) in
    let all : length (generated n stored) ≡ 32 + length (all_requests n stored) = length-append (flat_map joining (below 8)) (all_requests n stored) in
    omega (arith, few, requests, answers, filed, behind, served, asked, all, tickets-few n stored)
