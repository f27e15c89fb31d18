-- What is done to a near and a far link when a bridge's acts are performed, and what is done in rounds of these.
use Rattle.std.specs.Prelude.{ℕ, ◌≡◌, ◌≤◌, ◌⊎◌, ⊤, List, [], ◌∷◌, ◌++◌, Option}
use Rattle.mj_base.specs.Linking.{Tells}
use Rattle.mj_base.specs.Rising.{Rose}
use Rattle.mj_base.specs.declared.link.LinkEntry.{LinkEntry}
use Rattle.mj_bridge.specs.declared.act.BridgeAct.{BridgeAct}
use Rattle.mj_bridge.specs.declared.act.BridgeAct.TheVariants as side
use Rattle.mj_peering.specs.Performing.{entries_of}
use Rattle.mj_peering.specs.declared.stop.Stop.{Stop}
use Rattle.mj_peering.specs.declared.stop.Stop.TheVariants as stops

-- ---- entries of the links

abbrev pub near_of : BridgeAct → List LinkEntry
near_of (side.Near a) = entries_of a
near_of (side.Far a) = []

abbrev pub far_of : BridgeAct → List LinkEntry
far_of (side.Near a) = []
far_of (side.Far a) = entries_of a

abbrev pub near_entries : List BridgeAct → List LinkEntry
near_entries [] = []
near_entries (a ∷ acts) = near_of a ++ near_entries acts

abbrev pub far_entries : List BridgeAct → List LinkEntry
far_entries [] = []
far_entries (a ∷ acts) = far_of a ++ far_entries acts

-- what the two links tell, where they tell
pub record Sides : Type 0 where
  pub near : Option (List LinkEntry)
  pub far : Option (List LinkEntry)

abbrev pub sides : Option (List LinkEntry) → Option (List LinkEntry) → Sides
sides near far = record { near = near; far = far }

-- the links have these entries more
pub record Moves (old now : Sides) (passed_near passed_far : List LinkEntry) : Type 0 where
  pub near : Tells old.near now.near passed_near
  pub far : Tells old.far now.far passed_far

-- these acts were done
abbrev pub Performs : Sides → Sides → List BridgeAct → Type 0
Performs old now acts = Moves old now (near_entries acts) (far_entries acts)

-- some of the first of these acts were done
pub record Breaks (old now : Sides) (acts : List BridgeAct) : Type 0 where
  pub done : List BridgeAct
  pub rest : List BridgeAct
  pub whole : acts ≡ done ++ rest
  pub moved : Performs old now done

-- ---- failures

-- the failures of the links' reads, and of their writes
pub record Counts : Type 0 where
  pub near_reads : ℕ
  pub near_writes : ℕ
  pub far_reads : ℕ
  pub far_writes : ℕ

abbrev pub counts : ℕ → ℕ → ℕ → ℕ → Counts
counts near_reads near_writes far_reads far_writes = record { near_reads = near_reads; near_writes = near_writes; far_reads = far_reads; far_writes = far_writes }

-- none has fallen
pub record AreLater (before now : Counts) : Type 0 where
  pub near_reads : before.near_reads ≤ now.near_reads
  pub near_writes : before.near_writes ≤ now.near_writes
  pub far_reads : before.far_reads ≤ now.far_reads
  pub far_writes : before.far_writes ≤ now.far_writes

-- an act that failed raised its link's count of writes; want of memory is free
abbrev pub WriteCause : Stop → ℕ → ℕ → Type 0
WriteCause stops.NoMemory before now = ⊤
WriteCause stops.Read before now = ⊥
WriteCause stops.Write before now = Rose before now

-- what performing acts may fail by
abbrev pub PerformCause : Stop → Counts → Counts → Type 0
PerformCause stops.NoMemory before now = ⊤
PerformCause stops.Read before now = ⊥
PerformCause stops.Write before now = Rose before.near_writes now.near_writes ⊎ Rose before.far_writes now.far_writes

-- what a run may fail by
abbrev pub Cause : Stop → Counts → Counts → Type 0
Cause stops.NoMemory before now = ⊤
Cause stops.Read before now = Rose before.near_reads now.near_reads ⊎ Rose before.far_reads now.far_reads
Cause stops.Write before now = Rose before.near_writes now.near_writes ⊎ Rose before.far_writes now.far_writes

-- ---- rounds

-- what was read of either link, and the acts that followed
pub record Round : Type 0 where
  pub near_read : List LinkEntry
  pub far_read : List LinkEntry
  pub acts : List BridgeAct

abbrev pub near_tale : List Round → List LinkEntry
near_tale [] = []
near_tale (round ∷ rounds) = (round.near_read ++ near_entries round.acts) ++ near_tale rounds

abbrev pub far_tale : List Round → List LinkEntry
far_tale [] = []
far_tale (round ∷ rounds) = (round.far_read ++ far_entries round.acts) ++ far_tale rounds

-- these rounds were done, and nothing else
abbrev pub AreDone : Sides → Sides → List Round → Type 0
AreDone old now rounds = Moves old now (near_tale rounds) (far_tale rounds)

-- these rounds were done, and a part of one more
pub record ArePartly (old now : Sides) (rounds : List Round) (last : Round) : Type 0 where
  pub done : List BridgeAct
  pub rest : List BridgeAct
  pub whole : last.acts ≡ done ++ rest
  pub moved : Moves old now (near_tale rounds ++ (last.near_read ++ near_entries done)) (far_tale rounds ++ (last.far_read ++ far_entries done))
