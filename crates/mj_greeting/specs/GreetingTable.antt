-- The table of the greeting (ZeroMQ RFC 23, greeting), row by row.
use Rattle.std.specs.Prelude.{ℕ, ◌≡◌, ◌≢◌, ◌-◌, ◌<◌, ◌≤◌, ◌⊎◌, List, length, slice_index}
use Rattle.mj_base.specs.declared.reason.Reason.{Reason}
use Rattle.mj_base.specs.declared.reason.Reason.TheVariants.{BadSignature, BadVersion, BadMechanism}
use Rattle.mj_greeting.specs.declared.greeting.GreetingFault.{GreetingFault}
use Rattle.mj_greeting.specs.GreetingGrammar.{mechanism}

-- The offset is checked, this byte isn't lawful there, and this is the row's reason: FF at 0, 7F at 9, a major
-- version of at least 3 at 10, the mechanism from 12 on. Padding, minor version, as-server and filler may be any.
abbrev pub Breaks : ℕ → ℕ → Reason → Type 0
Breaks offset octet reason =
    ((offset ≡ 0) × (octet ≢ 0xff) × (reason ≡ BadSignature))
    ⊎ (((offset ≡ 9) × (octet ≢ 0x7f) × (reason ≡ BadSignature))
    ⊎ (((offset ≡ 10) × (octet < 3) × (reason ≡ BadVersion))
    ⊎ ((12 ≤ offset) × (offset < 32) × (octet ≢ slice_index mechanism (offset - 12)) × (reason ≡ BadMechanism))))

-- no byte below this offset breaks the table
abbrev pub IsFineBelow : List ℕ → ℕ → Type 0
IsFineBelow front end = (offset : ℕ) (reason : Reason) → offset < end → ¬ Breaks offset (slice_index front offset) reason

-- the first byte that breaks the table, with its row's reason
pub record IsFirstFault (front : List ℕ) (fault : GreetingFault) : Type 0 where
  pub inside : fault.at < length front
  pub breaks : Breaks fault.at (slice_index front fault.at) fault.reason
  pub first : IsFineBelow front fault.at
