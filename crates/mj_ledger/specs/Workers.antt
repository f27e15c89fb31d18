-- What the events so far make of a connection: whom it serves, what it holds, whether it waits (ZeroMQ RFC 7).
use Rattle.std.specs.Prelude.{ℕ, Bool, false, not, ◌&&◌, ◌||◌, List, [], ◌∷◌, Option, Some, None, is_none, if◌then◌else◌}
use Rattle.std.specs.List.{after_last, flat_map, last_or, list_any}
use Rattle.std.specs.Str.{bytes_eq}
use Rattle.mj_ledger.specs.Events.{Event, Opened, Ready, Replied, Given, Lapsed, Left}
use Rattle.mj_ledger.specs.Moments.{moments}

abbrev pub is_some_of : List ℕ → Option (List ℕ) → Bool
is_some_of name None = false
is_some_of name (Some other) = bytes_eq name other

abbrev pub is_opening : List ℕ → Event → Bool
is_opening who (Opened w) = bytes_eq w who
is_opening who _ = false

abbrev pub is_leaving : List ℕ → Event → Bool
is_leaving who (Left w) = bytes_eq w who
is_leaving who _ = false

abbrev pub is_lapse : List ℕ → Event → Bool
is_lapse who (Lapsed w) = bytes_eq w who
is_lapse who _ = false

abbrev pub is_ready : List ℕ → Event → Bool
is_ready who (Ready w service) = bytes_eq w who
is_ready who _ = false

abbrev pub is_gift : List ℕ → Event → Bool
is_gift who (Given w to body) = bytes_eq w who
is_gift who _ = false

abbrev pub is_gone : List ℕ → List Event → Bool
is_gone who events = list_any (is_leaving who) events

-- it has sent READY, since its last lapse if it had one
abbrev pub is_readied : List ℕ → List Event → Bool
is_readied who events = list_any (is_ready who) (after_last (is_lapse who) events)

-- then another READY doesn't count
abbrev pub would_count : List ℕ → List Event → Bool
would_count who events = not (is_readied who events)

abbrev pub service_at : List ℕ → List Event → Event → List (List ℕ)
service_at who before (Ready w service) = if bytes_eq w who && would_count who before then service ∷ [] else []
service_at who before _ = []

-- the name in the last READY that counted
abbrev pub service_of : List ℕ → List Event → Option (List ℕ)
service_of who events = last_or None (flat_map (λ m. service_at who m.0 m.1) (moments events))

abbrev pub serves : List ℕ → List ℕ → List Event → Bool
serves who service events = is_some_of service (service_of who events)

-- ---- what it holds

abbrev pub address_given : List ℕ → Event → List (List ℕ)
address_given who (Given w to body) = if bytes_eq w who then to ∷ [] else []
address_given who _ = []

-- its final reply with this address, or a lapse
abbrev pub lets_go : List ℕ → List ℕ → Event → Bool
lets_go who address (Replied w last to body) = bytes_eq w who && (last && bytes_eq to address)
lets_go who address (Lapsed w) = bytes_eq w who
lets_go who address _ = false

abbrev pub held_of : List ℕ → List Event → Option (List ℕ) → Option (List ℕ)
held_of who events None = None
held_of who events (Some address) =
    if is_gone who events || list_any (lets_go who address) (after_last (is_gift who) events) then None else Some address

-- the address of the last REQUEST sent to it, until its final reply with that address, its lapse, or until it is gone
abbrev pub held : List ℕ → List Event → Option (List ℕ)
held who events = held_of who events (last_or None (flat_map (address_given who) events))

abbrev pub holds : List ℕ → List ℕ → List Event → Bool
holds who address events = is_some_of address (held who events)

-- ---- whether it waits

abbrev pub is_freed : List ℕ → List Event → Event → Bool
is_freed who before (Ready w service) = bytes_eq w who && would_count who before
is_freed who before (Replied w last to body) = bytes_eq w who && (last && holds who to before)
is_freed who before _ = false

-- it waits behind a READY that counts and behind a final reply to what it held, while it holds nothing and hasn't lapsed
-- or gone
abbrev pub is_freed_since : List ℕ → List Event → Bool
is_freed_since who events = list_any (λ m. is_freed who m.0 m.1) (after_last (λ m. is_lapse who m.1) (moments events))

abbrev pub waits : List ℕ → List Event → Bool
waits who events = not (is_gone who events) && (is_none (held who events) && is_freed_since who events)
