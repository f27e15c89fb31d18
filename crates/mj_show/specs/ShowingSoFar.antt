-- How far a showing has come, inside the run.
use Rattle.std.specs.Prelude.{ℕ, ◌≡◌, ◌≤◌, ◌<◌, ◌^◌, ⊤, Bool, true, false, List, ◌++◌, length, Option}
use Rattle.std.specs.Io.KnownBytes.{Appends, Consumes}
use Rattle.mj_base.specs.Rising.{Rose}
use Rattle.mj_base.specs.StandardLimits.{standard_limits}
use Rattle.mj_base.specs.Writing.{AppendsFront}
use Rattle.mj_base.specs.declared.sink.WriteAnswer.{WriteAnswer}
use Rattle.mj_base.specs.declared.sink.WriteAnswer.TheVariants as writes
use Rattle.mj_show.specs.Showing.{IsStream, shown}
use Rattle.mj_show.specs.declared.halt.Halt.{Halt}
use Rattle.mj_show.specs.declared.halt.Halt.TheVariants as halts
use Rattle.mj_wire.specs.WireState.{StandsFor, State}

-- this was read, and all that it says was printed
pub record SoFar (from left old new : Option (List ℕ)) (wire : State) (read : List ℕ) : Type 0 where
  pub took : Consumes from left read
  pub few : length read ≤ 2 ^ 40
  pub stands : StandsFor standard_limits wire read
  pub added : Appends old new (shown read)

-- more was read and printed; or nothing is left that may be read
abbrev pub StepsOn : Bool → Option (List ℕ) → Option (List ℕ) → Option (List ℕ) → Option (List ℕ) → State → State → List ℕ → Type 0
StepsOn true from left old new wire wire_now read = (piece : List ℕ) × (0 < length piece) × SoFar from left old new wire_now (read ++ piece)
StepsOn false from left old new wire wire_now read = (wire_now ≡ wire) × IsStream from read × Appends old new (shown read)

-- the stream was read to its end
abbrev pub IsWhole : Option (List ℕ) → Option (List ℕ) → Option (List ℕ) → ℕ → Type 0
IsWhole from old new count = (stream : List ℕ) × IsStream from stream × Appends old new (shown stream) × (count ≡ length stream)

-- a front of what some of the stream says was printed
abbrev pub IsFront : Option (List ℕ) → Option (List ℕ) → Option (List ℕ) → Type 0
IsFront from old new = (stream : List ℕ) × IsStream from stream × AppendsFront old new (shown stream)

-- why a showing broke off, and what was printed then
abbrev pub IsHalted : Halt → Option (List ℕ) → Option (List ℕ) → Option (List ℕ) → Option (List ℕ) → Type 0
IsHalted halts.NoMemory from left old new = IsFront from old new
IsHalted halts.Read from left old new = (read : List ℕ) × Consumes from left read × Appends old new (shown read)
IsHalted halts.Write from left old new = IsFront from old new

-- a failure has its count risen; want of memory is free
abbrev pub HaltCause : Halt → ℕ → ℕ → ℕ → ℕ → Type 0
HaltCause halts.NoMemory reads_before reads_now writes_before writes_now = ⊤
HaltCause halts.Read reads_before reads_now writes_before writes_now = Rose reads_before reads_now
HaltCause halts.Write reads_before reads_now writes_before writes_now = Rose writes_before writes_now

-- what printing may fail by
abbrev pub PrintCause : Halt → ℕ → ℕ → Type 0
PrintCause halts.NoMemory before now = ⊤
PrintCause halts.Read before now = ⊥
PrintCause halts.Write before now = Rose before now

-- the number that the write of the last line is answered by
abbrev pub status_after : WriteAnswer → ℕ
status_after writes.Done = 0
status_after writes.NoMemory = 4
status_after writes.Failed = 7
