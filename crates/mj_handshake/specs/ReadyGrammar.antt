-- The READY command (ZeroMQ RFC 23, NULL): its name, then properties; what they say; what is written.
use Rattle.std.specs.Prelude.{ℕ, ◌≡◌, ◌≤◌, Bool, true, false, ◌||◌, List, [], ◌∷◌, ◌++◌, length, take, drop, flat_map, bytes_eq, codes, Option, Some, None, Result, Err, if◌then◌else◌}
use Rattle.std.specs.List.{AllByRecursion}
use Rattle.std.specs.Option.{option_or, unwrap_or}
use Rattle.mj_base.specs.declared.reason.Reason.{Reason}
use Rattle.mj_base.specs.declared.reason.Reason.TheVariants.{BadHandshake, BadSocketType}
use Rattle.mj_frame.specs.FrameSpelling.{canonical}
use Rattle.mj_handshake.specs.declared.socket_type.SocketType.{SocketType}
use Rattle.mj_handshake.specs.ReadyProperty.{Property, IsProperty, property_octets, IsNamed, is_long_identity, named_type, type_name}
use Rattle.mj_handshake.specs.ReadyReading.{properties_of}

-- the name of the command behind its size
abbrev pub ready_name : List ℕ
ready_name = 5 ∷ codes "READY"

-- a READY with these properties stands as these bytes
abbrev pub IsReady : List Property → List ℕ → Type 0
IsReady properties octets = AllByRecursion IsProperty properties × (octets ≡ ready_name ++ flat_map property_octets properties)

-- every property named Identity has a value of at most 255 bytes
abbrev pub HasShortIdentity : Property → Type 0
HasShortIdentity p = IsNamed (codes "Identity") p → length p.value ≤ 255

-- a READY with these properties may stand as these bytes
pub record IsAccepted (properties : List Property) (octets : List ℕ) : Type 0 where
  pub spelled : IsReady properties octets
  pub short : AllByRecursion HasShortIdentity properties

-- the first property named Socket-Type has this value
pub record FirstType (properties : List Property) (value : List ℕ) : Type 0 where
  pub before : List Property
  pub property : Property
  pub after : List Property
  pub whole : properties ≡ before ++ property ∷ after
  pub none : AllByRecursion (λ p. ¬ IsNamed (codes "Socket-Type") p) before
  pub named : IsNamed (codes "Socket-Type") property
  pub says : property.value ≡ value

-- the bytes are no READY, or one with an Identity that is too long
abbrev pub IsBadHandshake : List ℕ → Type 0
IsBadHandshake octets = (properties : List Property) → ¬ IsAccepted properties octets

-- the bytes are a READY whose first Socket-Type is missing or none of the three
abbrev pub IsBadSocketType : List ℕ → Type 0
IsBadSocketType octets = (properties : List Property) × IsAccepted properties octets × ((kind : SocketType) → ¬ FirstType properties (type_name kind))

-- the bytes are a READY whose first Socket-Type is this type
abbrev pub NamesType : List ℕ → SocketType → Type 0
NamesType octets kind = (properties : List Property) × IsAccepted properties octets × FirstType properties (type_name kind)

-- what the first Socket-Type says
abbrev pub first_type : List Property → Option (Result SocketType Reason)
first_type [] = None
first_type (p ∷ properties) = option_or (named_type p.name p.value) (first_type properties)

abbrev pub has_long_identity : List Property → Bool
has_long_identity [] = false
has_long_identity (p ∷ properties) = is_long_identity p.name p.value || has_long_identity properties

-- the socket type that a READY with these properties names, or its fault
abbrev pub socket_type : List Property → Result SocketType Reason
socket_type properties = if has_long_identity properties then Err BadHandshake else unwrap_or (first_type properties) (Err BadSocketType)

abbrev pub answer_of : Option (List Property) → Result SocketType Reason
answer_of None = Err BadHandshake
answer_of (Some properties) = socket_type properties

-- the properties of the READY that these bytes are
abbrev pub ready_properties : List ℕ → Option (List Property)
ready_properties body = if bytes_eq (take 6 body) ready_name then properties_of (drop 6 body) else None

-- the socket type that the body of a READY names, or its fault
unfoldable pub ready_of : List ℕ → Result SocketType Reason
ready_of body = answer_of (ready_properties body)

-- what is written: the one property Socket-Type
abbrev pub type_property : SocketType → Property
type_property kind = record { name = codes "Socket-Type"; value = type_name kind }

abbrev pub ready_body : SocketType → List ℕ
ready_body kind = ready_name ++ flat_map property_octets (type_property kind ∷ [])

abbrev pub ready_frame : SocketType → List ℕ
ready_frame kind = canonical false true (ready_body kind)
