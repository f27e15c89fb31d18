-- What a service may be called.
use Rattle.std.specs.Prelude.{ℕ, ◌≡◌, ◌≤◌, Bool, ◌&&◌, ◌||◌, IsTrue, nat_lt, nat_le, nat_eq, List, length, take, Option, Some, None, if◌then◌else◌, codes}
use Rattle.std.specs.List.{list_all, starts_with}

-- a printing character of ASCII, or a space
abbrev pub is_printable : ℕ → Bool
is_printable c = nat_le 32 c && nat_le c 126

-- 1 to 255 printable bytes
abbrev pub is_service_name : List ℕ → Bool
is_service_name octets = nat_lt 0 (length octets) && (nat_le (length octets) 255 && list_all is_printable octets)

-- the bytes as a service name
abbrev pub name_of : List ℕ → Option (List ℕ)
name_of octets = if is_service_name octets then Some octets else None

-- names that the broker answers itself: `mmi.` (ZeroMQ RFC 8), and with a store `titanic.` (ZeroMQ RFC 9)
abbrev pub is_reserved : Bool → List ℕ → Bool
is_reserved stored name = starts_with nat_eq name (codes "mmi.") || (stored && starts_with nat_eq name (codes "titanic."))

-- the first bytes of a field of 255 are a service name
pub record IsNameIn (len : ℕ) (bytes : List ℕ) : Type 0 where
  pub short : len ≤ 255
  pub room : length bytes ≡ 255
  pub named : IsTrue (is_service_name (take len bytes))
