-- The properties of a READY (ZeroMQ RFC 23, NULL): what may stand there, and what a property means.
use Rattle.std.specs.Prelude.{ℕ, ◌≡◌, ◌<◌, ◌≤◌, ◌==◌, ◌^◌, Bool, IsTrue, ◌&&◌, ◌||◌, nat_lt, List, ◌∷◌, ◌++◌, length, map, bytes_eq, codes, Option, Some, None, Result, Ok, Err, if◌then◌else◌}
use Rattle.std.specs.Char.{is_ascii_alphanumeric, to_ascii_lowercase}
use Rattle.std.specs.Int.{to_be_bytes, w32}
use Rattle.std.specs.List.{list_all}
use Rattle.mj_base.specs.declared.reason.Reason.{Reason}
use Rattle.mj_base.specs.declared.reason.Reason.TheVariants.{BadSocketType}
use Rattle.mj_handshake.specs.declared.socket_type.SocketType.{SocketType}
use Rattle.mj_handshake.specs.declared.socket_type.SocketType.TheVariants.{Req, Dealer, Router}

pub record Property : Type 0 where
  pub name : List ℕ
  pub value : List ℕ

-- a letter, a digit, or one of - _ . +
abbrev pub is_name_byte : ℕ → Bool
is_name_byte c = is_ascii_alphanumeric c || (c == 45 || (c == 95 || (c == 46 || c == 43)))

-- a name of 1 to 255 such bytes, and a value whose size fits four bytes
pub record IsProperty (p : Property) : Type 0 where
  pub named : 0 < length p.name
  pub short : length p.name ≤ 255
  pub spelled : IsTrue (list_all is_name_byte p.name)
  pub sized : length p.value < 2 ^ 32

abbrev pub property_octets : Property → List ℕ
property_octets p = length p.name ∷ p.name ++ to_be_bytes w32 (length p.value) ++ p.value

-- names are compared ignoring the case of ASCII letters
abbrev pub IsNamed : List ℕ → Property → Type 0
IsNamed wanted p = map to_ascii_lowercase wanted ≡ map to_ascii_lowercase p.name

abbrev pub is_named : List ℕ → List ℕ → Bool
is_named wanted name = bytes_eq (map to_ascii_lowercase wanted) (map to_ascii_lowercase name)

abbrev pub is_long_identity : List ℕ → List ℕ → Bool
is_long_identity name value = nat_lt 255 (length value) && is_named (codes "Identity") name

abbrev pub type_name : SocketType → List ℕ
type_name Req = codes "REQ"
type_name Dealer = codes "DEALER"
type_name Router = codes "ROUTER"

-- the type that this value of a Socket-Type names
abbrev pub type_of : List ℕ → Result SocketType Reason
type_of value =
    if bytes_eq value (codes "REQ") then Ok Req
    else if bytes_eq value (codes "DEALER") then Ok Dealer
    else if bytes_eq value (codes "ROUTER") then Ok Router
    else Err BadSocketType

-- what a property says of the socket type
abbrev pub named_type : List ℕ → List ℕ → Option (Result SocketType Reason)
named_type name value = if is_named (codes "Socket-Type") name then Some (type_of value) else None
