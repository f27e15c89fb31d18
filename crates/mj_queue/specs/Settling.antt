-- Which request goes to which worker, and how many requests may wait (the ZeroMQ guide, chapter 4: a request goes to
-- the worker that has waited longest).
use Rattle.std.specs.Prelude.{ℕ, ◌+◌, ◌==◌, nat_le, nat_lt, Bool, true, false, not, ◌&&◌, ◌||◌, if◌then◌else◌, List, [], ◌∷◌, length, sum_by, count_by, Option, None, Some}
use Rattle.std.specs.Option.{option_map}
use Rattle.std.specs.List.{filter, list_any}
use Rattle.std.specs.Str.{bytes_eq}
use Rattle.mj_base.specs.KeptWeight.{weight_of}
use Rattle.mj_base.specs.declared.limits.Limits.{Limits}
use Rattle.mj_queue.specs.declared.request.Origin.{Origin}
use Rattle.mj_queue.specs.declared.request.Origin.TheVariants.{Client, Ticket}
use Rattle.mj_queue.specs.declared.request.Request.{Request}
use Rattle.mj_queue.specs.declared.worker.Waiter.{Waiter}

-- an element that was passed over stands in front again
abbrev pub put_back : {X : Type 0} → X → X × List X → X × List X
put_back x taken = (taken.0, x ∷ taken.1)

-- the first that passes, and the list without it
abbrev pub take_first : {X : Type 0} → (X → Bool) → List X → Option (X × List X)
take_first test [] = None
take_first test (x ∷ xs) = if test x then Some (x, xs) else option_map (put_back x) (take_first test xs)

abbrev pub serves : List ℕ → Waiter → Bool
serves service waiter = bytes_eq waiter.service service

-- a worker waits for the service that is asked for
abbrev pub has_waiter : List Waiter → Request → Bool
has_waiter waiting request = list_any (serves request.service) waiting

-- a worker waits for this service or is busy with it
abbrev pub is_served : List ℕ → List Waiter → List Waiter → Bool
is_served service waiting busy = list_any (serves service) waiting || list_any (serves service) busy

-- a request and the worker that gets it, and what is left without them
pub record Pair : Type 0 where
  pub waiter : Waiter
  pub request : Request
  pub waiting : List Waiter
  pub requests : List Request

abbrev pub given : Request × List Request → Waiter × List Waiter → Pair
given asked found = record { waiter = found.0; request = asked.0; waiting = found.1; requests = asked.1 }

abbrev pub paired : List Waiter → Option (Request × List Request) → Option Pair
paired waiting None = None
paired waiting (Some asked) = option_map (given asked) (take_first (serves asked.0.service) waiting)

-- the first request whose service has a waiting worker, and the worker that has waited for it longest
abbrev pub pair : List Waiter → List Request → Option Pair
pair waiting requests = paired waiting (take_first (has_waiter waiting) requests)

abbrev pub is_of_client : Origin → Bool
is_of_client (Client n) = true
is_of_client (Ticket n) = false

abbrev pub is_client : ℕ → Origin → Bool
is_client n (Client m) = m == n
is_client n (Ticket m) = false

abbrev pub is_ticket : ℕ → Origin → Bool
is_ticket n (Client m) = false
is_ticket n (Ticket m) = m == n

-- how many client requests wait, and what they weigh together
abbrev pub queued : List Request → ℕ
queued requests = count_by (λ r. is_of_client r.origin) requests

abbrev pub queued_weight : List Request → ℕ
queued_weight requests = sum_by (λ r. weight_of r.body) (filter (λ r. is_of_client r.origin) requests)

-- a client request that no worker waits for, where too many are queued or they would weigh too much with it
abbrev pub is_too_much : Limits → List Waiter → List Request → Request → Bool
is_too_much limits waiting requests request =
    is_of_client request.origin && (not (has_waiter waiting request) && (nat_le limits.queued (queued requests) || nat_lt limits.queued_weight (queued_weight requests + weight_of request.body)))

abbrev pub without_worker : ℕ → List Waiter → List Waiter
without_worker n workers = filter (λ w. not (w.worker == n)) workers

abbrev pub without_client : ℕ → List Request → List Request
without_client n requests = filter (λ r. not (is_client n r.origin)) requests

abbrev pub without_ticket : ℕ → List Request → List Request
without_ticket n requests = filter (λ r. not (is_ticket n r.origin)) requests
