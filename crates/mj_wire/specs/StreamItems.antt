-- The items of a whole stream, in order, with its fault as the last one where it has a fault (ZeroMQ RFC 23).
use Rattle.std.specs.Prelude.{ℕ, zero, suc, ◌+◌, ◌-◌, ◌^◌, ◌≤◌, min, List, [], ◌∷◌, ◌++◌, length, take, drop, Option, Some, None, if◌then◌else◌}
use Rattle.mj_base.specs.declared.limits.Limits.{Limits}
use Rattle.mj_wire.specs.declared.item.WireItem.{WireItem}
use Rattle.mj_wire.specs.declared.item.WireItem.TheVariants as items
use Rattle.mj_wire.specs.declared.place.Place.{Place}
use Rattle.mj_wire.specs.declared.place.Stage.{Stage}
use Rattle.mj_wire.specs.declared.place.Stage.TheVariants as stages
use Rattle.mj_wire.specs.declared.next.Next.{Next}
use Rattle.mj_wire.specs.declared.next.Next.TheVariants as next
use Rattle.mj_wire.specs.NextReading.{next_of}

-- counts of bytes stop at their greatest value
abbrev pub count : ℕ → ℕ
count n = min n (2 ^ 64 - 1)

-- how many bytes are passed; reading stops at a fault and at what isn't whole
abbrev pub step_of : Next → Option ℕ
step_of next.Wait = None
step_of (next.Fault reason at) = None
step_of next.Greeting = Some 64
step_of (next.Ready kind end) = Some end
step_of (next.Command end) = Some end
step_of (next.Frame more start end) = Some end

-- a frame's body lies within the bytes
abbrev pub IsWithin : Next → List ℕ → Type 0
IsWithin next.Wait octets = Unit {0}
IsWithin (next.Fault reason at) octets = Unit {0}
IsWithin next.Greeting octets = Unit {0}
IsWithin (next.Ready kind end) octets = Unit {0}
IsWithin (next.Command end) octets = Unit {0}
IsWithin (next.Frame more start end) octets = (start ≤ end) × (end ≤ length octets)

abbrev pub body_of : ℕ → ℕ → List ℕ → List ℕ
body_of start end octets = take (end - start) (drop start octets)

abbrev pub passed : Place → Stage → ℕ → List (List ℕ) → Place
passed p stage end group = record { stage = stage; at = count (p.at + end); group = group }

abbrev pub place_after : Place → List ℕ → Next → Place
place_after p octets next.Wait = p
place_after p octets (next.Fault reason at) = record { stage = stages.Ended; at = p.at; group = [] }
place_after p octets next.Greeting = passed p stages.Handshake 64 p.group
place_after p octets (next.Ready kind end) = passed p stages.Open end p.group
place_after p octets (next.Command end) = passed p stages.Open end p.group
place_after p octets (next.Frame more start end) = passed p stages.Open end (if more then p.group ++ body_of start end octets ∷ [] else [])

abbrev pub items_of : Place → List ℕ → Next → List WireItem
items_of p octets next.Wait = []
items_of p octets (next.Fault reason at) = items.Ended reason (count (p.at + at)) ∷ []
items_of p octets next.Greeting = items.Accepted ∷ []
items_of p octets (next.Ready kind end) = items.Ready kind ∷ []
items_of p octets (next.Command end) = []
items_of p octets (next.Frame more start end) = if more then [] else items.Message (p.group ++ body_of start end octets ∷ []) ∷ []

abbrev pub behind : (Place → List ℕ → List WireItem) → Place → List ℕ → Option ℕ → List WireItem
behind more p octets None = []
behind more p octets (Some step) = more p (drop step octets)

-- what stands next, and then whatever comes behind it
abbrev pub one_more : (Place → List ℕ → List WireItem) → Place → List ℕ → Next → List WireItem
one_more more p octets n = items_of p octets n ++ behind more (place_after p octets n) octets (step_of n)

-- at most so many steps
unfoldable pub items_within : ℕ → Limits → Place → List ℕ → List WireItem
items_within zero limits p octets = []
items_within (suc k) limits p octets = one_more (λ q rest. items_within k limits q rest) p octets (next_of limits p octets)

-- the items from a place on: each step takes a byte at least
unfoldable pub items_from : Limits → Place → List ℕ → List WireItem
items_from limits p octets = items_within (length octets) limits p octets

abbrev pub start : Place
start = record { stage = stages.Greeting; at = 0; group = [] }

-- the items of a stream
unfoldable pub stream_items : Limits → List ℕ → List WireItem
stream_items limits stream = items_from limits start stream

-- those that a further piece adds
abbrev pub gained : Limits → List ℕ → List ℕ → List WireItem
gained limits stream piece = drop (length (stream_items limits stream)) (stream_items limits (stream ++ piece))
