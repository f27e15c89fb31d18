-- The four laws of a transcript (ZeroMQ RFC 7; RFC 23 for the wire).
use Rattle.std.specs.Prelude.{ℕ, Bool, true, false, not, ◌&&◌, ◌||◌, nat_lt, List, [], ◌∷◌, length, slice_get, Option, Some, None, if◌then◌else◌}
use Rattle.std.specs.List.{count_by, flat_map, list_all, list_any}
use Rattle.std.specs.Str.{bytes_eq}
use lib.Pointwise.{pointwise}
use Rattle.mj_ledger.specs.Events.{Event, Asked, Ready, Replied, Given, Answered, Wrong, is_passed}
use Rattle.mj_ledger.specs.Moments.{moments}
use Rattle.mj_ledger.specs.Workers.{holds, is_gone, is_opening, service_of, serves, waits}

abbrev pub same_body : List (List ℕ) → List (List ℕ) → Bool
same_body one other = pointwise bytes_eq one other

abbrev pub same_bool : Bool → Bool → Bool
same_bool true other = other
same_bool false other = not other

-- ---- wire: what is sent is a stream of replies to clients and orders to workers

abbrev pub is_wrong : Event → Bool
is_wrong Wrong = true
is_wrong _ = false

abbrev pub keeps_wire : List Event → Bool
keeps_wire events = not (list_any is_wrong events)

-- ---- owner, on requests

-- the bodies of the requests of this connection for this service, in order
abbrev pub asked_at : List ℕ → List ℕ → Event → List (List (List ℕ))
asked_at who service (Asked w name body) = if bytes_eq w who && bytes_eq name service then body ∷ [] else []
asked_at who service _ = []

abbrev pub asked : List ℕ → List ℕ → List Event → List (List (List ℕ))
asked who service events = flat_map (asked_at who service) events

-- those of the REQUESTs with this address that were sent to workers of this service, in order
abbrev pub given_at : List ℕ → List ℕ → List Event → Event → List (List (List ℕ))
given_at who service before (Given w to body) = if bytes_eq to who && serves w service before then body ∷ [] else []
given_at who service before _ = []

abbrev pub given : List ℕ → List ℕ → List Event → List (List (List ℕ))
given who service events = flat_map (λ m. given_at who service m.0 m.1) (moments events)

abbrev pub is_body : List (List ℕ) → Option (List (List ℕ)) → Bool
is_body body None = false
is_body body (Some other) = same_body body other

-- behind n REQUESTs the next one has the body of the request at place n of those that had come
abbrev pub is_request_of : List ℕ → List (List ℕ) → List Event → Option (List ℕ) → Bool
is_request_of who body before None = true
is_request_of who body before (Some service) = is_passed service || is_body body (slice_get (asked who service before) (length (given who service before)))

-- each REQUEST with the address of a connection is the next of that connection's requests
abbrev pub is_owned_request : List Event → List Event → Event → Bool
is_owned_request events before (Given w to body) = not (list_any (is_opening to) events) || is_request_of to body before (service_of w before)
is_owned_request events before _ = true

abbrev pub keeps_requests : List Event → Bool
keeps_requests events = list_all (λ m. is_owned_request events m.0 m.1) (moments events)

-- ---- owner, on replies

-- the same answer
abbrev pub is_answer : List ℕ → List ℕ → Bool → List (List ℕ) → Event → Bool
is_answer who service last body (Answered w name final other) = bytes_eq w who && (bytes_eq name service && (same_bool final last && same_body other body))
is_answer who service last body _ = false

-- a reply that names this connection, of a worker of this service that held a REQUEST with its address
abbrev pub is_reply_to : List ℕ → List ℕ → Bool → List (List ℕ) → List Event → Event → Bool
is_reply_to who service last body before (Replied w final to other) =
    bytes_eq to who && (same_bool final last && (same_body other body && (serves w service before && holds w who before)))
is_reply_to who service last body before _ = false

abbrev pub answers : List ℕ → List ℕ → Bool → List (List ℕ) → List Event → ℕ
answers who service last body events = count_by (is_answer who service last body) events

abbrev pub replies : List ℕ → List ℕ → Bool → List (List ℕ) → List Event → ℕ
replies who service last body events = count_by (λ m. is_reply_to who service last body m.0 m.1) (moments events)

-- with each answer there are no more of its kind than replies had come
abbrev pub is_owned_answer : List Event → Event → Bool
is_owned_answer before (Answered w service last body) = nat_lt (answers w service last body before) (replies w service last body before)
is_owned_answer before _ = true

abbrev pub keeps_replies : List Event → Bool
keeps_replies events = list_all (λ m. is_owned_answer m.0 m.1) (moments events)

abbrev pub keeps_owner : List Event → Bool
keeps_owner events = keeps_requests events && keeps_replies events

-- ---- busy: a REQUEST goes to a connection that waits

abbrev pub is_given_to_waiting : List Event → Event → Bool
is_given_to_waiting before (Given w to body) = waits w before
is_given_to_waiting before _ = true

abbrev pub keeps_busy : List Event → Bool
keeps_busy events = list_all (λ m. is_given_to_waiting m.0 m.1) (moments events)

-- ---- waiting

abbrev pub waits_for : List ℕ → List ℕ → List Event → Bool
waits_for who service events = waits who events && serves who service events

-- one that says it serves does wait for this service
abbrev pub is_waiting_for : List ℕ → List Event → Event → Bool
is_waiting_for service events (Ready w name) = waits_for w service events
is_waiting_for service events _ = false

abbrev pub somebody_waits : List ℕ → List Event → Bool
somebody_waits service events = list_any (is_waiting_for service events) events

-- a connection that isn't gone has a request that wasn't sent on, and a worker of its service waits
abbrev pub is_kept_from : List ℕ → List ℕ → List Event → Bool
is_kept_from who service events =
    not (is_gone who events) && (nat_lt (length (given who service events)) (length (asked who service events)) && somebody_waits service events)

abbrev pub is_kept : List Event → Event → Bool
is_kept events (Asked w service body) = is_kept_from w service events
is_kept events _ = false

abbrev pub nobody_is_kept : List Event → Bool
nobody_is_kept events = not (list_any (is_kept events) events)
