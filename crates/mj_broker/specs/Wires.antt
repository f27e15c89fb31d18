-- The readers of streams, by the connection's number.
use Rattle.std.specs.Prelude.{ℕ, ◌≡◌, ◌==◌, ⊤, false, is_some, List, slice_get, slice_set, Option, None, Some, IfSome}
use Rattle.std.specs.Option.{option_map}
use Rattle.std.specs.List.{filter, find}
use Rattle.mj_base.specs.declared.limits.Limits.{Limits}
use Rattle.mj_wire.specs.WireState.{State as WireValue}
use Rattle.mj_wire.specs.WireState.{StandsFor}
use Rattle.mj_machine.specs.declared.connection.Connection.{Connection}
use Rattle.mj_machine.specs.MachineState.{Stream}
use Rattle.mj_machine.specs.Connections.{connection_of}
use Rattle.mj_broker.specs.Keyed.{changed_by}
use Rattle.mj_broker.specs.declared.wires.Link.{Link}

abbrev pub wire_of : ℕ → List Link → Option WireValue
wire_of n links = option_map (λ l. l.wire) (find (λ l. l.number == n) links)

abbrev pub stream_found : ℕ → List Stream → Option Stream
stream_found n streams = find (λ t. t.number == n) streams

-- a reader was fed the whole stream
abbrev pub WireStands : Limits → Option WireValue → Option Stream → Type 0
WireStands limits None found = ⊤
WireStands limits (Some wire) None = ⊥
WireStands limits (Some wire) (Some stream) = StandsFor limits wire stream.octets

abbrev pub WiresStand : Limits → List Link → List Stream → Type 0
WiresStand limits links streams = (n : ℕ) → WireStands limits (wire_of n links) (stream_found n streams)

abbrev pub MayBeFed : Option WireValue → Type 0
MayBeFed None = ⊤
MayBeFed (Some wire) = wire.spent ≡ false

abbrev pub AreFresh : List Link → Type 0
AreFresh links = (n : ℕ) → MayBeFed (wire_of n links)

-- readers of the same numbers
abbrev pub SameNumbers : List Link → List Link → Type 0
SameNumbers before now = (n : ℕ) → wire_of n now ≡ None → wire_of n before ≡ None

-- those of connections that are there
abbrev pub kept_links : List Connection → List Link → List Link
kept_links connections links = filter (λ l. is_some (connection_of l.number connections)) links

-- the reader of this number in place of the first one
abbrev pub rewired : ℕ → WireValue → List Link → List Link
rewired n wire links = changed_by (λ l. l.number) n (λ l. record l { wire = wire }) links

pub record IsLinkOf (n : ℕ) (links : List Link) (at : ℕ) (l : Link) : Type 0 where
  pub here : slice_get links at ≡ Some l
  pub found : wire_of n links ≡ Some l.wire
  pub rewired_is : (wire : WireValue) → rewired n wire links ≡ slice_set links at (record l { wire = wire })

-- the place of the reader of this number
abbrev pub IsLinkAt : ℕ → List Link → Option ℕ → Type 0
IsLinkAt n links None = wire_of n links ≡ None
IsLinkAt n links (Some at) = (l : Link) × IsLinkOf n links at l

-- the readers have these limits
abbrev pub AreLimited : Limits → List Link → Type 0
AreLimited limits links = (n : ℕ) → IfSome (wire_of n links) (λ wire. wire.limits ≡ limits)

-- readers with the limits that they had
abbrev pub SameLimits : List Link → List Link → Type 0
SameLimits before now = (limits : Limits) → AreLimited limits before → AreLimited limits now
