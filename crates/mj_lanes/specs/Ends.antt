-- What contracts see of the two ends of a channel under the rule.
use Rattle.std.specs.Prelude.{ℕ, List}
use Rattle.atomic_table.specs.Seated.{TableId}
use Rattle.atomic_table.specs.declared.badge.Badge.{Badge}
use Rattle.crossbeam_channel.specs.declared.flavors.array.Key.{Key}
use Rattle.crossbeam_channel.specs.declared.flavors.array.Rows.{Rows}

-- which channel an end is of
pub record Name (T : Type 0) : Type 0 where
  pub table : TableId
  pub key : Badge (Key T)
  pub slots : TableId

abbrev pub name_of : {T D Q M L A : Type 0} → Rows (Badge (Key T)) D Q M (Key T) L A → Name T
name_of c = record { table = c.stamps.shared.table_id; key = c.stamps.shared.key; slots = c.messages.shared.table_id }

-- a sender's end: its channel, its number, and what it sent
pub record SendState (T : Type 0) : Type 0 where
  pub name : Name T
  pub from : ℕ
  pub sent : List T

-- the taker's end: its channel, what it took, and how many senders it made
pub record TakeState (T : Type 0) : Type 0 where
  pub name : Name T
  pub taken : List T
  pub made : ℕ
