-- What one write does to what a sink has got, where it tells, and to its count of faults.
use Rattle.std.specs.Prelude.{ℕ, List, take, Option, ⊤}
use Rattle.std.specs.Io.KnownBytes.{Keeps, Appends}
use Rattle.mj_base.specs.Rising.{Rose}
use Rattle.mj_base.specs.declared.sink.WriteAnswer.{WriteAnswer}
use Rattle.mj_base.specs.declared.sink.WriteAnswer.TheVariants.{Done, NoMemory, Failed}

-- some of the first of these bytes were added
abbrev pub AppendsFront : Option (List ℕ) → Option (List ℕ) → List ℕ → Type 0
AppendsFront old new octets = (n : ℕ) × Appends old new (take n octets)

-- what it had got, what it has now, the answer, and the bytes that it was given
abbrev pub WriteAdds : Option (List ℕ) → Option (List ℕ) → WriteAnswer → List ℕ → Type 0
WriteAdds old new Done octets = Appends old new octets
WriteAdds old new NoMemory octets = Keeps old new
WriteAdds old new Failed octets = AppendsFront old new octets

-- a failure raised the count of faults
abbrev pub WriteCause : ℕ → ℕ → WriteAnswer → Type 0
WriteCause before now Done = ⊤
WriteCause before now NoMemory = ⊤
WriteCause before now Failed = Rose before now

-- want of memory raised the count of wants
abbrev pub WantCause : ℕ → ℕ → WriteAnswer → Type 0
WantCause before now Done = ⊤
WantCause before now NoMemory = Rose before now
WantCause before now Failed = ⊤
