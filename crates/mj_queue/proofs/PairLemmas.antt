-- The pair, by the places at which its request and its worker stand.
use Rattle.std.proofs.Common.{◌≡◌, ℕ, suc, ◌+◌, ◌<◌, ◌≤◌, Bool, true, false, not, cond, nat_lt, ◌||◌, List, [], ◌∷◌, ◌++◌, length, get_or, Option, None, Some, IsSome, refl, sym, ◌∙◌, ap, subst, arith, rules}
use Rattle.std.specs.Option.{option_map}
use Rattle.std.specs.List.{list_any, position, position_or_len, remove}
use Rattle.std.proofs.lemmas.Bool.Decides.{nat_tests}
use Rattle.std.proofs.lemmas.List.Sums.{passes_at_first}
use Rattle.mj_base.specs.declared.limits.Limits.{Limits}
use Rattle.mj_queue.specs.declared.request.Request.{Request}
use Rattle.mj_queue.specs.declared.worker.Waiter.{Waiter}
use Rattle.mj_queue.specs.HallState.{HallState}
use Rattle.mj_queue.specs.HallSteps.{Takes}
use Rattle.mj_queue.specs.Offers.{offer_of}
use Rattle.mj_queue.specs.Settling.{given, has_waiter, pair, paired, put_back, serves, take_first}

abbrev with_rest : {X : Type 0} → X → List X → Option (X × List X)
with_rest x rest = Some (x, rest)

abbrev picked : {X : Type 0} → List X → X → ℕ → Option (X × List X)
picked xs d at = with_rest (get_or xs at d) (remove xs at)

module _ {X : Type 0} (p : X → Bool) where
  nowhere : (xs : List X) → position p xs ≡ None → length xs ≤ position_or_len p xs
  nowhere xs is = of (position_or_len p xs) (nat_lt (position_or_len p xs) (length xs)) refl is
    where
      of : (at : ℕ) (b : Bool) → nat_lt at (length xs) ≡ b → cond b (Some at) None ≡ None → length xs ≤ at
      of at true e is = cc
      of at false e is = grind (arith, nat_tests)

  record StandsAt (xs : List X) (at : ℕ) : Type 0 where
    first : at ≡ position_or_len p xs
    within : position_or_len p xs < length xs

  stands_at : (xs : List X) (at : ℕ) → position p xs ≡ Some at → StandsAt xs at
  stands_at xs at is = of (position_or_len p xs) refl (nat_lt (position_or_len p xs) (length xs)) refl is
    where
      of : (first : ℕ) → first ≡ position_or_len p xs → (b : Bool) → nat_lt first (length xs) ≡ b → cond b (Some first) None ≡ Some at → StandsAt xs at
      of first first_is true e is =
          let same : first ≡ at = cc in
          let below : first < length xs = grind (arith, nat_tests) in
          record { first = sym same ∙ first_is; within = subst (λ (n : ℕ). n < length xs) first_is below }
      of first first_is false e is = cc

  take_first-nowhere : (xs : List X) → length xs ≤ position_or_len p xs → take_first p xs ≡ None
  take_first-nowhere [] none = refl
  take_first-nowhere (x ∷ xs) none =
      elim (p x) as (λ b. suc (length xs) ≤ cond (not b) (1 + position_or_len p xs) 0 → cond {A = Option (X × List X)} b (Some (x, xs)) (option_map (put_back x) (take_first p xs)) ≡ None) [
        | true ↦ λ h. absurd (omega arith)
        | false ↦ λ h. ap (option_map (put_back x)) (take_first-nowhere xs (omega arith))
      ] none

  take_first-first : (xs : List X) (d : X) → position_or_len p xs < length xs → take_first p xs ≡ picked xs d (position_or_len p xs)
  take_first-first [] d some = absurd (omega arith)
  take_first-first (x ∷ xs) d some =
      elim (p x) as (λ b. cond (not b) (1 + position_or_len p xs) 0 < suc (length xs) → cond {A = Option (X × List X)} b (Some (x, xs)) (option_map (put_back x) (take_first p xs)) ≡ picked (x ∷ xs) d (cond (not b) (1 + position_or_len p xs) 0)) [
        | true ↦ λ h. refl
        | false ↦ λ h.
            let one_more : 1 + position_or_len p xs ≡ suc (position_or_len p xs) = omega arith in
            rw one_more (ap (option_map (put_back x)) (take_first-first xs d (omega arith)))
      ] some

  none_pass : (xs : List X) → length xs ≤ position_or_len p xs → list_any p xs ≡ false
  none_pass [] none = refl
  none_pass (x ∷ xs) none =
      elim (p x) as (λ b. suc (length xs) ≤ cond (not b) (1 + position_or_len p xs) 0 → (b || list_any p xs) ≡ false) [
        | true ↦ λ h. absurd (omega arith)
        | false ↦ λ h. none_pass xs (omega arith)
      ] none

  -- where none passes nothing is taken
  pub takes_none : (xs : List X) → position p xs ≡ None → take_first p xs ≡ None
  takes_none xs is = take_first-nowhere xs (nowhere xs is)

  -- the first that passes is taken
  pub takes_at : (xs : List X) (at : ℕ) (x : X) → position p xs ≡ Some at → x ≡ get_or xs at x → take_first p xs ≡ Some (x, remove xs at)
  takes_at xs at x is item =
      let stands = stands_at xs at is in
      take_first-first xs x stands.within ∙ ap (picked xs x) (sym stands.first) ∙ ap (λ (y : X). with_rest y (remove xs at)) (sym item)

  pub passes_at : (xs : List X) (at : ℕ) (x : X) → position p xs ≡ Some at → x ≡ get_or xs at x → p x ≡ true
  passes_at xs at x is item =
      let stands = stands_at xs at is in
      ap p item ∙ ap (λ (n : ℕ). p (get_or xs n x)) stands.first ∙ passes_at_first p xs x stands.within

  -- where one passes there is a place
  pub has_place : (xs : List X) → list_any p xs ≡ true → IsSome (position p xs)
  has_place xs some = of (position p xs) refl
    where
      of : (o : Option ℕ) → position p xs ≡ o → IsSome o
      of None is = let none : list_any p xs ≡ false = none_pass xs (nowhere xs is) in cc
      of (Some at) is = search rules

pub pair-nowhere : (waiting : List Waiter) (requests : List Request) → position (has_waiter waiting) requests ≡ None → pair waiting requests ≡ None
pair-nowhere waiting requests is = ap (paired waiting) (takes_none (has_waiter waiting) requests is)

pub pair-at : (waiting : List Waiter) (requests : List Request) (at place : ℕ) (request : Request) (waiter : Waiter) → position (has_waiter waiting) requests ≡ Some at → request ≡ get_or requests at request
    → position (serves request.service) waiting ≡ Some place → waiter ≡ get_or waiting place waiter
    → pair waiting requests ≡ Some (record { waiter = waiter; request = request; waiting = remove waiting place; requests = remove requests at })
pair-at waiting requests at place request waiter at_is request_is place_is waiter_is =
    ap (paired waiting) (takes_at (has_waiter waiting) requests at request at_is request_is)
    ∙ ap (option_map (given (request, remove requests at))) (takes_at (serves request.service) waiting place waiter place_is waiter_is)

-- the view of a hall
abbrev pub seen : Limits → List Waiter → List Waiter → List Request → HallState
seen limits waiting busy requests = record { limits = limits; waiting = waiting; busy = busy; requests = requests }

pub nobody-seen : (limits : Limits) (waiting busy read_waiting : List Waiter) (requests read_requests : List Request) (hall : HallState) (place : Option ℕ) → seen limits waiting busy requests ≡ hall
    → read_waiting ≡ waiting → read_requests ≡ requests → place ≡ position (has_waiter read_waiting) read_requests → place ≡ None → pair hall.waiting hall.requests ≡ None
nobody-seen limits waiting busy read_waiting requests read_requests hall place is same_waiting same_requests place_is none =
    ap (λ (h : HallState). pair h.waiting h.requests) (sym is)
    ∙ pair-nowhere waiting requests
    (ap (λ (rs : List Request). position (has_waiter waiting) rs) (sym same_requests) ∙ ap (λ (ws : List Waiter). position (has_waiter ws) read_requests) (sym same_waiting) ∙ sym place_is ∙ none)

-- what the two searches found
pub record FoundPair (waiting : List Waiter) (requests : List Request) (at place : ℕ) (request : Request) (waiter : Waiter) : Type 0 where
  pub at_is : position (has_waiter waiting) requests ≡ Some at
  pub request_is : request ≡ get_or requests at request
  pub place_is : position (serves request.service) waiting ≡ Some place
  pub waiter_is : waiter ≡ get_or waiting place waiter

pub asked_at : (waiting read_waiting : List Waiter) (requests read_requests : List Request) (place : Option ℕ) (at : ℕ) → read_waiting ≡ waiting → read_requests ≡ requests
    → place ≡ position (has_waiter read_waiting) read_requests → place ≡ Some at → position (has_waiter waiting) requests ≡ Some at
asked_at waiting read_waiting requests read_requests place at same_waiting same_requests place_is is =
    ap (λ (rs : List Request). position (has_waiter waiting) rs) (sym same_requests) ∙ ap (λ (ws : List Waiter). position (has_waiter ws) read_requests) (sym same_waiting) ∙ sym place_is ∙ is

pub pair-seen : (limits : Limits) (waiting waiting_new busy busy_new : List Waiter) (requests requests_new : List Request) (hall : HallState) (at place : ℕ) (request : Request) (waiter : Waiter)
    → seen limits waiting busy requests ≡ hall → FoundPair waiting requests at place request waiter
    → waiting_new ≡ remove waiting place → busy_new ≡ busy ++ waiter ∷ [] → requests_new ≡ remove requests at
    → Takes hall (seen limits waiting_new busy_new requests_new) (Some (waiter.worker, request))
pair-seen limits waiting waiting_new busy busy_new requests requests_new hall at place request waiter is found waiting_is busy_is requests_is =
    subst (λ (h : HallState). Takes h (seen limits waiting_new busy_new requests_new) (Some (waiter.worker, request))) is (
      record { waiter = waiter; request = request; waiting = remove waiting place; requests = remove requests at },
      pair-at waiting requests at place request waiter found.at_is found.request_is found.place_is found.waiter_is,
      refl,
      rw (waiting_is, busy_is, requests_is) refl,
    )

pub served_at : (waiting read_waiting : List Waiter) (service : List ℕ) (place : Option ℕ) (at : ℕ) → read_waiting ≡ waiting
    → place ≡ position (serves service) read_waiting → place ≡ Some at → position (serves service) waiting ≡ Some at
served_at waiting read_waiting service place at same place_is is = ap (position (serves service)) (sym same) ∙ sym place_is ∙ is

-- the request that was found has a worker
pub some_serves_it : (waiting read_waiting : List Waiter) (requests : List Request) (at : ℕ) (request : Request) (place : Option ℕ) → position (has_waiter waiting) requests ≡ Some at → request ≡ get_or requests at request
    → read_waiting ≡ waiting → place ≡ position (serves request.service) read_waiting → IsSome place
some_serves_it waiting read_waiting requests at request place at_is request_is same place_is =
    subst (λ (o : Option ℕ). IsSome o) (ap (position (serves request.service)) (sym same) ∙ sym place_is)
    (has_place (serves request.service) waiting (passes_at (has_waiter waiting) requests at request at_is request_is))

-- what is told of the pair that was found
pub offer-seen : (limits : Limits) (waiting busy : List Waiter) (requests : List Request) (hall : HallState) (at place : ℕ) (request : Request) (waiter : Waiter)
    → seen limits waiting busy requests ≡ hall → FoundPair waiting requests at place request waiter
    → Some (record { worker = waiter.worker; service = waiter.service; origin = request.origin }) ≡ option_map offer_of (pair hall.waiting hall.requests)
offer-seen limits waiting busy requests hall at place request waiter is found =
    subst (λ (h : HallState). Some (record { worker = waiter.worker; service = waiter.service; origin = request.origin }) ≡ option_map offer_of (pair h.waiting h.requests)) is
    (sym (ap (option_map offer_of) (pair-at waiting requests at place request waiter found.at_is found.request_is found.place_is found.waiter_is)))
