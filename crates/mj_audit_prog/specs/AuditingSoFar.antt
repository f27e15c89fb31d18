-- How far an audit has come, inside the run.
use Rattle.std.specs.Prelude.{ℕ, ◌≡◌, ◌≤◌, ◌<◌, ◌^◌, ⊤, Bool, true, false, List, ◌++◌, length, Option}
use Rattle.std.specs.Io.KnownBytes.{Consumes}
use Rattle.mj_base.specs.Rising.{Rose}
use Rattle.mj_base.specs.declared.sink.WriteAnswer.{WriteAnswer}
use Rattle.mj_base.specs.declared.sink.WriteAnswer.TheVariants as writes
use Rattle.mj_audit_prog.specs.Auditing.{IsOpen, IsText}
use Rattle.mj_audit_prog.specs.Reading.{IsRead}
use Rattle.mj_audit_prog.specs.TextLines.{IsJudged}
use Rattle.mj_audit_prog.specs.declared.pieces.Halt.{Halt}
use Rattle.mj_audit_prog.specs.declared.pieces.Halt.TheVariants as halts
use Rattle.mj_audit_prog.specs.declared.pieces.Turn.{Turn}
use Rattle.mj_audit_prog.specs.declared.pieces.Turn.TheVariants as turns
use Rattle.mj_audit_prog.specs.declared.reader.Reader.{Reader}

-- this was read, so many bytes, and the audit goes on
pub record SoFar (from left : Option (List ℕ)) (reader : Reader) (taken : ℕ) (read : List ℕ) : Type 0 where
  pub took : Consumes from left read
  pub count : taken ≡ length read
  pub few : taken ≤ 2 ^ 40
  pub stands : IsRead reader read

-- more was read; or nothing is left that may be read; or the audit is over with the last piece
abbrev pub Turned : Turn → Option (List ℕ) → Option (List ℕ) → Reader → List ℕ → Type 0
Turned (turns.More taken) from left reader read = (piece : List ℕ) × (0 < length piece) × SoFar from left reader taken (read ++ piece)
Turned turns.End from left reader read = IsText from read × Consumes from left read × IsRead reader read
Turned (turns.Over verdict) from left reader read =
    (piece : List ℕ) × (length piece ≤ 4096) × (length (read ++ piece) ≤ 2 ^ 40) × Consumes from left (read ++ piece)
    × ((rest : List ℕ) → IsJudged ((read ++ piece) ++ rest) reader.lines verdict)

abbrev pub is_more : Turn → Bool
is_more (turns.More taken) = true
is_more turns.End = false
is_more (turns.Over verdict) = false

abbrev pub is_over : Turn → Bool
is_over (turns.More taken) = false
is_over turns.End = false
is_over (turns.Over verdict) = true

-- why an audit broke off: a failed read leaves it open
abbrev pub IsHalted : Halt → Option (List ℕ) → Option (List ℕ) → Type 0
IsHalted halts.NoMemory from left = ⊤
IsHalted halts.Read from left = (read : List ℕ) × Consumes from left read × IsOpen read

-- a failed read has its count risen; want of memory is free
abbrev pub HaltCause : Halt → ℕ → ℕ → Type 0
HaltCause halts.NoMemory before now = ⊤
HaltCause halts.Read before now = Rose before now

-- the status by what became of the write of the last line
abbrev pub status_after : ℕ → WriteAnswer → ℕ
status_after written writes.Done = written
status_after written writes.NoMemory = 4
status_after written writes.Failed = 7
