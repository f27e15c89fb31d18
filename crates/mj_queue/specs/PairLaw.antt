-- The pair, said without a walk along the lists.
use Rattle.std.specs.Prelude.{◌≡◌, Bool, true, false, List, ◌∷◌, ◌++◌, MatchOption}
use Rattle.std.specs.List.{list_any}
use Rattle.mj_queue.specs.declared.request.Request.{Request}
use Rattle.mj_queue.specs.declared.worker.Waiter.{Waiter}
use Rattle.mj_queue.specs.Settling.{Pair, has_waiter, pair, serves}

-- x passes and nothing before it does; rest is the list without it
pub record IsFirst {X : Type 0} (test : X → Bool) (xs : List X) (x : X) (rest : List X) : Type 0 where
  pub before : List X
  pub after : List X
  pub whole : xs ≡ before ++ x ∷ after
  pub rest_is : rest ≡ before ++ after
  pub passed_over : list_any test before ≡ false
  pub passes : test x ≡ true

pub record IsPair (waiting : List Waiter) (requests : List Request) (p : Pair) : Type 0 where
  pub asked : IsFirst (has_waiter waiting) requests p.request p.requests
  pub found : IsFirst (serves p.request.service) waiting p.waiter p.waiting

abbrev pub PairIsFirst : Type 0
PairIsFirst = (waiting : List Waiter) (requests : List Request) → MatchOption (pair waiting requests) (list_any (has_waiter waiting) requests ≡ false) (IsPair waiting requests)
