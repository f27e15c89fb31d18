-- The properties that some bytes are, as a function of the bytes.
use Rattle.std.specs.Prelude.{ℕ, zero, suc, ◌==◌, Bool, not, ◌&&◌, nat_lt, List, [], ◌∷◌, length, take, drop, Option, Some, None, option_map, option_and_then, if◌then◌else◌}
use Rattle.std.specs.Int.{from_be_bytes, w32}
use Rattle.std.specs.List.{list_all}
use Rattle.mj_handshake.specs.ReadyProperty.{Property, is_name_byte}

abbrev pub is_name : List ℕ → Bool
is_name name = not (length name == 0) && list_all is_name_byte name

-- so many bytes, and the bytes behind them
abbrev pub part_at : ℕ → List ℕ → Option (List ℕ × List ℕ)
part_at size octets = if nat_lt (length octets) size then None else Some (take size octets, drop size octets)

abbrev pub checked_name : List ℕ × List ℕ → Option (List ℕ × List ℕ)
checked_name p = if is_name p.0 then Some (p.0, p.1) else None

-- a name behind its size of one byte, and the bytes behind it
abbrev pub name_at : List ℕ → Option (List ℕ × List ℕ)
name_at [] = None
name_at (size ∷ rest) = option_and_then checked_name (part_at size rest)

-- a value behind its size of four bytes, and the bytes behind it
abbrev pub value_at : List ℕ → Option (List ℕ × List ℕ)
value_at octets = if nat_lt (length octets) 4 then None else part_at (from_be_bytes w32 (take 4 octets)) (drop 4 octets)

abbrev pub cut : List ℕ → List ℕ → List ℕ → Property × List ℕ
cut name value rest = (record { name = name; value = value }, rest)

abbrev pub cut_behind : List ℕ × List ℕ → Option (Property × List ℕ)
cut_behind n = option_map (λ v. cut n.0 v.0 v.1) (value_at n.1)

-- the property that the bytes begin with, and the bytes behind it
unfoldable pub property_at : List ℕ → Option (Property × List ℕ)
property_at octets = option_and_then cut_behind (name_at octets)

abbrev pub one_more : (List ℕ → Option (List Property)) → Option (Property × List ℕ) → Option (List Property)
one_more more None = None
one_more more (Some c) = option_map (λ properties. c.0 ∷ properties) (more c.1)

-- the properties that the bytes are, in at most so many steps
abbrev pub properties_within : ℕ → List ℕ → Option (List Property)
properties_within steps [] = Some []
properties_within zero (octet ∷ octets) = None
properties_within (suc steps) (octet ∷ octets) = one_more (λ rest. properties_within steps rest) (property_at (octet ∷ octets))

-- the properties that the bytes are
unfoldable pub properties_of : List ℕ → Option (List Property)
properties_of octets = properties_within (length octets) octets
