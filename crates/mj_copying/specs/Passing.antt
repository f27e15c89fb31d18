-- What passes on a link, and why a run breaks off.
use Rattle.std.specs.Prelude.{ℕ, ◌≤◌, ⊤, List, [], ◌∷◌}
use Rattle.mj_base.specs.Rising.{Rose}
use Rattle.mj_base.specs.declared.link.LinkEntry.{LinkEntry}
use Rattle.mj_base.specs.declared.link.LinkEntry.TheVariants as entry
use Rattle.mj_base.specs.declared.link.LinkEvent.{LinkEvent}
use Rattle.mj_base.specs.declared.link.LinkEvent.TheVariants as event
use Rattle.mj_copying.specs.declared.stop.Stop.{Stop}
use Rattle.mj_copying.specs.declared.stop.Stop.TheVariants as stops

abbrev pub entry_of : LinkEvent → LinkEntry
entry_of (event.Given piece) = entry.Got piece
entry_of event.Idle = entry.Idle
entry_of event.End = entry.End

-- a read that failed raised its count; want of memory is free
abbrev pub ReadCause : Stop → ℕ → ℕ → Type 0
ReadCause stops.NoMemory before now = ⊤
ReadCause stops.Read before now = Rose before now
ReadCause stops.Write before now = ⊥
ReadCause stops.Disk before now = ⊥

-- a write that failed raised its count
abbrev pub WriteCause : Stop → ℕ → ℕ → Type 0
WriteCause stops.NoMemory before now = ⊤
WriteCause stops.Read before now = ⊥
WriteCause stops.Write before now = Rose before now
WriteCause stops.Disk before now = ⊥

abbrev pub wrote : List ℕ → List LinkEntry
wrote octets = entry.Wrote octets ∷ []

-- the failures of a link's reads, of its writes, and of a disk's calls
pub record Counts : Type 0 where
  pub reads : ℕ
  pub writes : ℕ
  pub disk : ℕ

abbrev pub counts : ℕ → ℕ → ℕ → Counts
counts reads writes disk = record { reads = reads; writes = writes; disk = disk }

-- none has fallen
pub record AreLater (before now : Counts) : Type 0 where
  pub reads : before.reads ≤ now.reads
  pub writes : before.writes ≤ now.writes
  pub disk : before.disk ≤ now.disk

-- a failure has its count risen; want of memory is free
abbrev pub Cause : Stop → Counts → Counts → Type 0
Cause stops.NoMemory before now = ⊤
Cause stops.Read before now = Rose before.reads now.reads
Cause stops.Write before now = Rose before.writes now.writes
Cause stops.Disk before now = Rose before.disk now.disk
