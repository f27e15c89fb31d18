-- What the calls of a link add to what it tells, and to its counts of faults.
use Rattle.std.specs.Prelude.{ℕ, ◌≡◌, ◌<◌, ◌≤◌, List, [], ◌∷◌, ◌++◌, length, take, Option, None, Some, ⊤}
use Rattle.std.specs.List.{flat_map}
use Rattle.mj_base.specs.Rising.{Rose}
use Rattle.mj_base.specs.declared.link.LinkAnswer.{LinkAnswer}
use Rattle.mj_base.specs.declared.link.LinkAnswer.TheVariants as reads
use Rattle.mj_base.specs.declared.link.LinkWrite.{LinkWrite}
use Rattle.mj_base.specs.declared.link.LinkWrite.TheVariants as writes
use Rattle.mj_base.specs.declared.link.LinkEntry.{LinkEntry}
use Rattle.mj_base.specs.declared.link.LinkEntry.TheVariants as entries

-- a link that tells has these entries more, and one that doesn't goes on telling nothing
abbrev pub Tells : Option (List LinkEntry) → Option (List LinkEntry) → List LinkEntry → Type 0
Tells None now more = now ≡ None
Tells (Some before) now more = now ≡ Some (before ++ more)

-- what was told, what is told now, the answer, and the buffer afterwards
abbrev pub LinkReads : Option (List LinkEntry) → Option (List LinkEntry) → LinkAnswer → List ℕ → Type 0
LinkReads old now (reads.Got n) into = (0 < n) × (n ≤ length into) × Tells old now (entries.Got (take n into) ∷ [])
LinkReads old now reads.Idle into = Tells old now (entries.Idle ∷ [])
LinkReads old now reads.End into = Tells old now (entries.End ∷ [])
LinkReads old now reads.NoMemory into = now ≡ old
LinkReads old now reads.Failed into = now ≡ old

-- what was told, what is told now, the answer, and the bytes that were given
abbrev pub LinkWrites : Option (List LinkEntry) → Option (List LinkEntry) → LinkWrite → List ℕ → Type 0
LinkWrites old now writes.Done octets = Tells old now (entries.Wrote octets ∷ [])
LinkWrites old now writes.NoMemory octets = now ≡ old
LinkWrites old now writes.Failed octets = now ≡ old

abbrev pub reopened : List LinkEntry
reopened = entries.Reopened ∷ []

-- a failed read raised its count
abbrev pub LinkReadCause : ℕ → ℕ → LinkAnswer → Type 0
LinkReadCause before now (reads.Got n) = ⊤
LinkReadCause before now reads.Idle = ⊤
LinkReadCause before now reads.End = ⊤
LinkReadCause before now reads.NoMemory = ⊤
LinkReadCause before now reads.Failed = Rose before now

-- a failed write raised its count
abbrev pub LinkWriteCause : ℕ → ℕ → LinkWrite → Type 0
LinkWriteCause before now writes.Done = ⊤
LinkWriteCause before now writes.NoMemory = ⊤
LinkWriteCause before now writes.Failed = Rose before now

abbrev pub octets_written : LinkEntry → List ℕ
octets_written (entries.Got octets) = []
octets_written entries.Idle = []
octets_written entries.End = []
octets_written (entries.Wrote octets) = octets
octets_written entries.Reopened = []

-- all that was written, one piece behind the other
abbrev pub all_written : List LinkEntry → List ℕ
all_written told = flat_map octets_written told
