-- What is taken first passes, and nothing before it does.
use Rattle.std.proofs.Common.{◌≡◌, ◌||◌, Bool, true, false, cond, List, [], ◌∷◌, ◌++◌, Option, None, Some, MatchOption, is_some, refl, ap, ◌∙◌}
use Rattle.std.specs.Option.{option_map}
use Rattle.std.specs.List.{list_any}
use Rattle.mj_queue.specs.declared.request.Request.{Request}
use Rattle.mj_queue.specs.declared.worker.Waiter.{Waiter}
use Rattle.mj_queue.specs.Settling.{Pair, given, has_waiter, pair, paired, put_back, serves, take_first}
use Rattle.mj_queue.specs.PairLaw.{IsFirst, IsPair, PairIsFirst}

module _ {X : Type 0} (test : X → Bool) where
  abbrev IsTaken : List X → Option (X × List X) → Type 0
  IsTaken xs taken = MatchOption taken (list_any test xs ≡ false) (λ t. IsFirst test xs t.0 t.1)

  behind : (x : X) (xs : List X) (taken : Option (X × List X)) → test x ≡ false → IsTaken xs taken → IsTaken (x ∷ xs) (option_map (put_back x) taken)
  behind x xs None fails none = rw fails none
  behind x xs (Some t) fails is =
      record {
        before = x ∷ is.before;
        after = is.after;
        whole = ap (λ (ys : List X). x ∷ ys) is.whole;
        rest_is = ap (λ (ys : List X). x ∷ ys) is.rest_is;
        passed_over = rw fails is.passed_over;
        passes = is.passes;
      }

  take_first-is : (xs : List X) → IsTaken xs (take_first test xs)
  take_first-is [] = refl
  take_first-is (x ∷ xs) = of (test x) refl (take_first-is xs)
    where
      of : (b : Bool) → test x ≡ b → IsTaken xs (take_first test xs) → IsTaken (x ∷ xs) (cond {A = Option (X × List X)} b (Some (x, xs)) (option_map (put_back x) (take_first test xs)))
      of true is rest = record { before = []; after = xs; whole = refl; rest_is = refl; passed_over = refl; passes = is }
      of false is rest = behind x xs (take_first test xs) is rest

found_for : (waiting : List Waiter) (requests : List Request) (asked : Request × List Request) (found : Option (Waiter × List Waiter)) → IsFirst (has_waiter waiting) requests asked.0 asked.1
    → IsTaken (serves asked.0.service) waiting found → MatchOption (option_map (given asked) found) (list_any (has_waiter waiting) requests ≡ false) (IsPair waiting requests)
found_for waiting requests asked None is none = let some : list_any (serves asked.0.service) waiting ≡ true = is.passes in cc
found_for waiting requests asked (Some found) is first = record { asked = is; found = first }

pub pair-is-first : PairIsFirst
pair-is-first waiting requests = of (take_first (has_waiter waiting) requests) (take_first-is (has_waiter waiting) requests)
  where
    of : (asked : Option (Request × List Request)) → IsTaken (has_waiter waiting) requests asked → MatchOption (paired waiting asked) (list_any (has_waiter waiting) requests ≡ false) (IsPair waiting requests)
    of None none = none
    of (Some asked) is = found_for waiting requests asked (take_first (serves asked.0.service) waiting) is (take_first-is (serves asked.0.service) waiting)

some_passes : {X : Type 0} (test : X → Bool) (before : List X) (x : X) (after : List X) → test x ≡ true → list_any test (before ++ x ∷ after) ≡ true
some_passes test [] x after passes = rw passes refl
some_passes test (y ∷ ys) x after passes = rw (some_passes test ys x after passes) (or_true (test y))
  where
    or_true : (b : Bool) → (b || true) ≡ true
    or_true true = refl
    or_true false = refl

-- there is a pair exactly where some request has a waiting worker
pub some-pair : (waiting : List Waiter) (requests : List Request) → list_any (has_waiter waiting) requests ≡ is_some (pair waiting requests)
some-pair waiting requests = of (pair waiting requests) (pair-is-first waiting requests)
  where
    of : (found : Option Pair) → MatchOption found (list_any (has_waiter waiting) requests ≡ false) (IsPair waiting requests) → list_any (has_waiter waiting) requests ≡ is_some found
    of None none = none
    of (Some p) is =
        ap (list_any (has_waiter waiting)) is.asked.whole ∙ some_passes (has_waiter waiting) is.asked.before p.request is.asked.after is.asked.passes

-- the same of a hall and of slices of its lists
pub asked-seen : (waiting read_waiting : List Waiter) (requests read_requests : List Request) → read_waiting ≡ waiting → read_requests ≡ requests
    → list_any (has_waiter read_waiting) read_requests ≡ is_some (pair waiting requests)
asked-seen waiting read_waiting requests read_requests same_waiting same_requests =
    some-pair read_waiting read_requests ∙ ap (λ (ws : List Waiter). is_some (pair ws read_requests)) same_waiting ∙ ap (λ (rs : List Request). is_some (pair waiting rs)) same_requests
