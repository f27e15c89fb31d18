-- What each call changes in the hall, by its answer.
use Rattle.std.specs.Prelude.{◌≡◌, ℕ, true, false, List, [], ◌∷◌, ◌++◌, Option, None, Some, Result, Ok, Err}
use Rattle.mj_queue.specs.declared.request.AskFault.{AskFault}
use Rattle.mj_queue.specs.declared.request.AskFault.TheVariants.{QueueFull, NoMemory}
use Rattle.mj_queue.specs.declared.request.Request.{Request}
use Rattle.mj_queue.specs.HallState.{HallState}
use Rattle.mj_queue.specs.Settling.{Pair, pair, is_too_much, without_worker}

-- the worker stands last among those that wait, and nowhere else
abbrev pub waits : ℕ → List ℕ → HallState → HallState
waits n service hall = record hall {
  waiting = without_worker n hall.waiting ++ record { worker = n; service = service } ∷ [];
  busy = without_worker n hall.busy;
}

-- the hall's verdict on a request, by the definition of too much
abbrev pub Asked : HallState → HallState → Request → Result (Unit {0}) AskFault → Type 0
Asked old new request (Ok done) = (is_too_much old.limits old.waiting old.requests request ≡ false) × (new ≡ record old { requests = old.requests ++ request ∷ [] })
Asked old new request (Err (QueueFull back)) = (is_too_much old.limits old.waiting old.requests request ≡ true) × (back ≡ request) × (new ≡ old)
Asked old new request (Err (NoMemory back)) = (back ≡ request) × (new ≡ old)

-- the pair is taken out, and its worker is busy
abbrev pub taken : Pair → HallState → HallState
taken p hall = record hall { waiting = p.waiting; requests = p.requests; busy = hall.busy ++ p.waiter ∷ [] }

-- what `take_pair` answers is the pair, or None where there is none
abbrev pub Takes : HallState → HallState → Option (ℕ × Request) → Type 0
Takes old new None = (pair old.waiting old.requests ≡ None) × (new ≡ old)
Takes old new (Some answer) = (p : Pair) × (pair old.waiting old.requests ≡ Some p) × (answer ≡ (p.waiter.worker, p.request)) × (new ≡ taken p old)
