-- What comes back from a worker, and what it held taken out.
use Rattle.std.proofs.Common.{◌≡◌, ◌==◌, ℕ, Bool, true, false, not, cond, List, [], ◌∷◌, ◌++◌, Option, None, Some, MatchOption, refl, ap, subst, get_or}
use Rattle.std.specs.Option.{option_map}
use Rattle.std.specs.List.{filter, find, position, remove}
use Rattle.mj_queue.specs.Settling.{put_back, take_first}
use Rattle.mj_queue.specs.declared.request.Request.{Request}
use Rattle.mj_queue.proofs.PairLemmas.{takes_at, takes_none}
use Rattle.mj_machine.specs.declared.held.Held.{Held}
use Rattle.mj_machine.specs.StoreState.{Told}
use Rattle.mj_machine.specs.Leaving.{comes_back, given_back, held_by, held_without}
use Rattle.mj_routing.specs.Returning.{coming_back, put_last}

pub given-last : (told : Told) (held : Option Request) (queue : List Request) → given_back told held queue ≡ put_last (coming_back told held) queue
given-last told None queue = refl
given-last told (Some r) queue = by (comes_back told r.origin)
  where
    by : (b : Bool) → cond {A = List Request} b (queue ++ r ∷ []) queue ≡ put_last (cond {A = Option Request} b (Some r) None) queue
    by true = refl
    by false = refl

pub ruleset returning = given-last

-- ---- the first that passes, taken out

module _ {X : Type 0} (p : X → Bool) where
  -- it is found, and the others that pass go with it
  record IsTaken (xs : List X) (x : X) (rest : List X) : Type 0 where
    found : find p xs ≡ Some x
    left : filter (λ y. not (p y)) rest ≡ filter (λ y. not (p y)) xs

  record IsAbsent (xs : List X) : Type 0 where
    none : find p xs ≡ None
    whole : filter (λ y. not (p y)) xs ≡ xs

  abbrev Tells : List X → Option (X × List X) → Type 0
  Tells xs taken = MatchOption taken (IsAbsent xs) (λ t. IsTaken xs t.0 t.1)

  tells-behind : (y : X) (ys : List X) (taken : Option (X × List X)) → p y ≡ false → Tells ys taken → Tells (y ∷ ys) (option_map (put_back y) taken)
  tells-behind y ys None fails is = record { none = rw fails is.none; whole = rw fails (ap (λ (zs : List X). y ∷ zs) is.whole) }
  tells-behind y ys (Some t) fails is = record { found = rw fails is.found; left = rw fails (ap (λ (zs : List X). y ∷ zs) is.left) }

  tells : (xs : List X) → Tells xs (take_first p xs)
  tells [] = record { none = refl; whole = refl }
  tells (y ∷ ys) = by (p y) refl (tells ys)
    where
      by : (b : Bool) → p y ≡ b → Tells ys (take_first p ys) → Tells (y ∷ ys) (cond {A = Option (X × List X)} b (Some (y, ys)) (option_map (put_back y) (take_first p ys)))
      by true is rest = record { found = rw is refl; left = rw is refl }
      by false is rest = tells-behind y ys (take_first p ys) is rest

  nowhere : (xs : List X) → position p xs ≡ None → IsAbsent xs
  nowhere xs is = subst (λ (o : Option (X × List X)). Tells xs o) (takes_none p xs is) (tells xs)

  at-place : (xs : List X) (at : ℕ) (x : X) → position p xs ≡ Some at → x ≡ get_or xs at x → IsTaken xs x (remove xs at)
  at-place xs at x is item = subst (λ (o : Option (X × List X)). Tells xs o) (takes_at p xs at x is item) (tells xs)

abbrev is_of : ℕ → Held → Bool
is_of n h = h.worker == n

-- a worker that holds nothing
pub record HoldsNothing (n : ℕ) (held : List Held) : Type 0 where
  pub none : held_by n held ≡ None
  pub whole : held_without n held ≡ held

pub holds-nothing : (n : ℕ) (held : List Held) → position (λ h. h.worker == n) held ≡ None → HoldsNothing n held
holds-nothing n held is =
    let absent = nowhere (is_of n) held is in record { none = ap (option_map (λ (h : Held). h.request)) absent.none; whole = absent.whole }

-- what it holds stands at this place
pub record HoldsAt (n : ℕ) (held : List Held) (at : ℕ) (h : Held) : Type 0 where
  pub request : held_by n held ≡ Some h.request
  pub left : held_without n (remove held at) ≡ held_without n held

pub holds-at : (n : ℕ) (held : List Held) (at : ℕ) (h : Held) → position (λ h. h.worker == n) held ≡ Some at → h ≡ get_or held at h → HoldsAt n held at h
holds-at n held at h is item =
    let taken = at-place (is_of n) held at h is item in record { request = ap (option_map (λ (g : Held). g.request)) taken.found; left = taken.left }
