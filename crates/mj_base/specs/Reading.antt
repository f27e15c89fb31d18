-- What one read does to what a source has left, where it tells, and to its count of faults.
use Rattle.std.specs.Prelude.{ℕ, ◌≡◌, ◌<◌, ◌≤◌, List, length, take, Option, ⊤}
use Rattle.std.specs.Io.KnownBytes.{Keeps, Consumes, IsAtEnd}
use Rattle.mj_base.specs.Rising.{Rose, risen}
use Rattle.mj_base.specs.declared.source.ReadAnswer.{ReadAnswer}
use Rattle.mj_base.specs.declared.source.ReadAnswer.TheVariants.{Got, End, Failed}

-- what was left, what is left now, the answer, and the buffer afterwards
abbrev pub ReadTakes : Option (List ℕ) → Option (List ℕ) → ReadAnswer → List ℕ → Type 0
ReadTakes old new (Got n) into = (0 < n) × (n ≤ length into) × Consumes old new (take n into)
ReadTakes old new End into = Keeps old new × IsAtEnd new
ReadTakes old new Failed into = Keeps old new

-- a failure raised the count of faults
abbrev pub ReadCause : ℕ → ℕ → ReadAnswer → Type 0
ReadCause before now (Got n) = ⊤
ReadCause before now End = ⊤
ReadCause before now Failed = Rose before now

-- a read that gave nothing is one more of those
abbrev pub ReadMisses : ℕ → ℕ → ReadAnswer → Type 0
ReadMisses before now (Got n) = now ≡ before
ReadMisses before now End = now ≡ risen before
ReadMisses before now Failed = now ≡ risen before
