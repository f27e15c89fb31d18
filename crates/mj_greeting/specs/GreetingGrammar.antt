-- The greeting of 64 bytes (ZeroMQ RFC 23, greeting): signature, version, mechanism, as-server, filler.
use Rattle.std.specs.Prelude.{ℕ, ◌≡◌, ◌+◌, ◌-◌, ◌==◌, Bool, true, false, ◌&&◌, nat_le, List, [], ◌∷◌, ◌++◌, length, replicate, slice_index, codes, Option, Some, None, Result, Ok, Err, if◌then◌else◌}
use Rattle.mj_base.specs.declared.reason.Reason.{Reason}
use Rattle.mj_base.specs.declared.reason.Reason.TheVariants.{BadSignature, BadVersion, BadMechanism}
use Rattle.mj_greeting.specs.declared.greeting.Greeting.{Greeting}
use Rattle.mj_greeting.specs.declared.greeting.GreetingFault.{GreetingFault}

abbrev pub reason_unless : Bool → Reason → Option Reason
reason_unless true reason = None
reason_unless false reason = Some reason

-- the mechanism, filled up with zeros to 20 bytes
abbrev pub mechanism : List ℕ
mechanism = codes "NULL" ++ replicate 16 0

-- the fault of this byte at this offset
abbrev pub reason_at : ℕ → ℕ → Option Reason
reason_at offset octet =
    if offset == 0 then reason_unless (octet == 255) BadSignature
    else if offset == 9 then reason_unless (octet == 127) BadSignature
    else if offset == 10 then reason_unless (nat_le 3 octet) BadVersion
    else if nat_le 12 offset && nat_le offset 31 then reason_unless (octet == slice_index mechanism (offset - 12)) BadMechanism
    else None

abbrev pub fault_or : ℕ → Option Reason → Option GreetingFault → Option GreetingFault
fault_or offset (Some reason) others = Some (record { reason = reason; at = offset })
fault_or offset None others = others

-- the first fault of bytes that stand from this offset on
abbrev pub first_wrong : ℕ → List ℕ → Option GreetingFault
first_wrong offset [] = None
first_wrong offset (octet ∷ octets) = fault_or offset (reason_at offset octet) (first_wrong (offset + 1) octets)

-- the first fault of a greeting or a front of it
abbrev pub fault_of : List ℕ → Option GreetingFault
fault_of front = first_wrong 0 front

-- these bytes are an accepted greeting
abbrev pub IsGreeting : List ℕ → Type 0
IsGreeting octets = (length octets ≡ 64) × (fault_of octets ≡ None)

abbrev pub greeting_unless : Option GreetingFault → List ℕ → Result Greeting GreetingFault
greeting_unless (Some fault) octets = Err fault
greeting_unless None octets = Ok (record { major = slice_index octets 10; minor = slice_index octets 11; as_server = slice_index octets 32 })

-- what reading 64 bytes gives
abbrev pub greeting_of : List ℕ → Result Greeting GreetingFault
greeting_of octets = greeting_unless (fault_of octets) octets

-- what is sent: signature, version 3.0, mechanism NULL, as-server and filler zero
abbrev pub broker_greeting : List ℕ
broker_greeting = 255 ∷ replicate 8 0 ++ 127 ∷ 3 ∷ 0 ∷ mechanism ++ replicate 32 0
