-- How far a script was read and acted on, as what is known of it while it runs.
use Rattle.std.specs.Prelude.{ℕ, ◌≡◌, ◌+◌, ◌*◌, ◌<◌, ◌≤◌, ◌^◌, ⊤, false, List, [], ◌∷◌, ◌++◌, length, take, drop, Option, Some, None, Result, Ok, Err}
use Rattle.mj_base.specs.declared.memory.NoMemory.{NoMemory}
use Rattle.mj_prog.specs.declared.progress.Progress.{Progress}
use Rattle.std.specs.Io.KnownBytes.{Consumes, Keeps, IsAtEnd}
use Rattle.mj_base.specs.declared.event.Event.{Event}
use Rattle.mj_base.specs.declared.source.ReadAnswer.{ReadAnswer}
use Rattle.mj_base.specs.declared.source.ReadAnswer.TheVariants as reads
use Rattle.mj_base.specs.Rising.{Rose, risen}
use Rattle.mj_base.specs.EventBounds.{IsTakenBy}
use Rattle.mj_prog.specs.declared.front.Front.{Front}
use Rattle.mj_prog.specs.declared.front.Front.TheVariants as fronts
use Rattle.mj_prog.specs.declared.read.Filled.{Filled}
use Rattle.mj_prog.specs.declared.read.Filled.TheVariants as filled
use Rattle.mj_prog.specs.declared.meaning.Meaning.{Meaning}
use Rattle.mj_prog.specs.declared.meaning.Meaning.TheVariants as meanings
use Rattle.mj_prog.specs.declared.next.Next.{Next}
use Rattle.mj_prog.specs.declared.next.Next.TheVariants as nexts
use Rattle.mj_prog.specs.Script.{WithText, AtUnlawful, IsLawful, is_newline, lines_of, ended_part, events_in, ending_in, script}
use Rattle.mj_prog.specs.ReplayTable.{IsInput}

abbrev pub HasNoNewline : List ℕ → Type 0
HasNoNewline [] = ⊤
HasNoNewline (c ∷ cs) = (is_newline c ≡ false) × HasNoNewline cs

-- these bytes are whole lines, each an event or nothing, and whatever follows them follows these events
pub record IsActedOn (lanes : ℕ) (acted : List ℕ) (taken : List Event) (lines : ℕ) : Type 0 where
  pub events : (rest : List ℕ) → events_in lanes (lines_of (acted ++ rest)) ≡ taken ++ events_in lanes (lines_of rest)
  pub ending : (rest : List ℕ) → ending_in lanes 1 (lines_of (acted ++ rest)) ≡ ending_in lanes (lines + 1) (lines_of rest)
  pub ended : (rest : List ℕ) → HasNoNewline rest → ended_part (acted ++ rest) ≡ acted

-- these bytes were read, with room for so many more; without room they are the whole script, but for a last newline
pub record IsRead (from now : Option (List ℕ)) (room : ℕ) (bytes : List ℕ) : Type 0 where
  pub reading : 0 < room → Consumes from now bytes × (length bytes + room ≡ 2 ^ 40)
  pub over : room ≡ 0 → (text : List ℕ) × IsInput from text × (lines_of text ≡ lines_of bytes)

-- the bytes that were read are whole lines that gave these events, and the pending ones
pub record IsSoFar (from now : Option (List ℕ)) (lanes : ℕ) (pending : List ℕ) (room lines : ℕ) (taken : List Event) : Type 0 where
  pub acted : List ℕ
  pub before : IsActedOn lanes acted taken lines
  pub read : IsRead from now room (acted ++ pending)

abbrev pub IsNewlineAt : List ℕ → ℕ → Type 0
IsNewlineAt pending end = (end < length pending) × HasNoNewline (take end pending) × (pending ≡ take end pending ++ 10 ∷ drop (end + 1) pending)

abbrev pub IsFirstNewline : List ℕ → Option ℕ → Type 0
IsFirstNewline pending None = HasNoNewline pending
IsFirstNewline pending (Some end) = IsNewlineAt pending end

-- what stands at the front of the pending bytes
abbrev pub IsFront : List ℕ → ℕ → Front → Type 0
IsFront pending room (fronts.Line end) = IsNewlineAt pending end
IsFront pending room fronts.Last = HasNoNewline pending × (room ≡ 0) × (0 < length pending)
IsFront pending room fronts.TooLong = HasNoNewline pending × (131081 < length pending)
IsFront pending room fronts.Part = HasNoNewline pending × (0 < room)
IsFront pending room fronts.Over = (pending ≡ []) × (room ≡ 0)

-- what one read does to the pending bytes and to what the source has left
abbrev pub Fills : Option (List ℕ) → Option (List ℕ) → ℕ → List ℕ → List ℕ → Filled → Type 0
Fills old new most before now (filled.Got count) = (0 < count) × (count ≤ most) × ((octets : List ℕ) × (now ≡ before ++ octets) × (length octets ≡ count) × Consumes old new octets)
Fills old new most before now filled.End = (now ≡ before) × Keeps old new × IsAtEnd new
Fills old new most before now filled.Failed = (now ≡ before) × Keeps old new
Fills old new most before now filled.NoMemory = (now ≡ before) × Keeps old new

abbrev pub FillCause : ℕ → ℕ → Filled → Type 0
FillCause before now (filled.Got count) = ⊤
FillCause before now filled.End = ⊤
FillCause before now filled.Failed = Rose before now
FillCause before now filled.NoMemory = ⊤

-- a read that gave nothing is one more of those; without memory there was no read
abbrev pub FillMisses : ℕ → ℕ → Filled → Type 0
FillMisses before now (filled.Got count) = now ≡ before
FillMisses before now filled.End = now ≡ risen before
FillMisses before now filled.Failed = now ≡ risen before
FillMisses before now filled.NoMemory = now ≡ before

-- what the script says next, after these events
abbrev pub IsNext : Option (List ℕ) → Option (List ℕ) → ℕ → List ℕ → ℕ → ℕ → List Event → Next → Type 0
IsNext from now lanes pending room lines taken (nexts.Act event) = IsSoFar from now lanes pending room lines (taken ++ event ∷ [])
IsNext from now lanes pending room lines taken nexts.Over =
    (text : List ℕ) × IsInput from text × ((script lanes text).events ≡ taken) × IsLawful (script lanes text).ending
IsNext from now lanes pending room lines taken (nexts.Line number) =
    (text : List ℕ) × IsInput from text × ((script lanes text).events ≡ taken) × ((script lanes text).ending ≡ AtUnlawful number)
IsNext from now lanes pending room lines taken nexts.Failed =
    (read : List ℕ) × Consumes from now read × ((script lanes (ended_part read)).events ≡ taken) × ((script lanes (ended_part read)).ending ≡ WithText)
IsNext from now lanes pending room lines taken nexts.NoMemory = IsSoFar from now lanes pending room lines taken

-- the same where None says that the script goes on as before
abbrev pub IsStep : Option (List ℕ) → Option (List ℕ) → ℕ → List ℕ → ℕ → ℕ → List Event → Option Next → Type 0
IsStep from now lanes pending room lines taken None = IsSoFar from now lanes pending room lines taken
IsStep from now lanes pending room lines taken (Some next) = IsNext from now lanes pending room lines taken next

abbrev pub NextCause : ℕ → ℕ → Next → Type 0
NextCause before now (nexts.Act event) = ⊤
NextCause before now nexts.Over = ⊤
NextCause before now (nexts.Line number) = ⊤
NextCause before now nexts.Failed = Rose before now
NextCause before now nexts.NoMemory = ⊤

-- a line was taken out, which takes so many bytes with its newline
abbrev pub IsBehind : Progress → Progress → ℕ → Type 0
IsBehind old new count =
    (new.pending.items ≡ drop count old.pending.items) × (new.lines ≡ old.lines + 1) × (new.lanes ≡ old.lanes) × (new.room ≡ old.room)

-- doing what a line says, which takes so many bytes with its newline: an event and a line without one take it out
abbrev pub MeansNext : Progress → Progress → ℕ → Result Meaning NoMemory → Option Next → Type 0
MeansNext old new count (Ok (meanings.Act event)) next = (next ≡ Some (nexts.Act event)) × IsBehind old new count
MeansNext old new count (Ok meanings.Nothing) next = (next ≡ None) × IsBehind old new count
MeansNext old new count (Ok meanings.Stop) next = (next ≡ Some nexts.Over) × (new ≡ old)
MeansNext old new count (Ok meanings.Unlawful) next = (next ≡ Some (nexts.Line (old.lines + 1))) × (new ≡ old)
MeansNext old new count (Err e) next = (next ≡ Some nexts.NoMemory) × (new ≡ old)

-- an event is one that a broker with so many lanes takes
abbrev pub NextIsTaken : ℕ → Next → Type 0
NextIsTaken lanes (nexts.Act event) = IsTakenBy lanes event
NextIsTaken lanes nexts.Over = ⊤
NextIsTaken lanes (nexts.Line number) = ⊤
NextIsTaken lanes nexts.Failed = ⊤
NextIsTaken lanes nexts.NoMemory = ⊤

-- 1 to 65,536 bytes
abbrev pub IsPiece : List ℕ → Type 0
IsPiece piece = (0 < length piece) × (length piece ≤ 65536)

abbrev pub EventIsTaken : ℕ → Option Event → Type 0
EventIsTaken lanes None = ⊤
EventIsTaken lanes (Some event) = IsTakenBy lanes event

abbrev pub MeaningIsTaken : ℕ → Meaning → Type 0
MeaningIsTaken lanes (meanings.Act event) = IsTakenBy lanes event
MeaningIsTaken lanes meanings.Nothing = ⊤
MeaningIsTaken lanes meanings.Stop = ⊤
MeaningIsTaken lanes meanings.Unlawful = ⊤

-- an event takes at least one byte of what is pending or may be read
abbrev pub next_cost : Next → ℕ
next_cost (nexts.Act event) = 1
next_cost nexts.Over = 0
next_cost (nexts.Line number) = 0
next_cost nexts.Failed = 0
next_cost nexts.NoMemory = 0

abbrev pub StepCause : ℕ → ℕ → Option Next → Type 0
StepCause before now None = ⊤
StepCause before now (Some next) = NextCause before now next

abbrev pub StepIsTaken : ℕ → Option Next → Type 0
StepIsTaken lanes None = ⊤
StepIsTaken lanes (Some next) = NextIsTaken lanes next

-- a step that goes on takes out pending bytes, or turns bytes that may be read into pending ones
abbrev pub StepFewer : Progress → Progress → Option Next → Type 0
StepFewer old new None = (2 * new.room + length new.pending.items < 2 * old.room + length old.pending.items) × (new.room + length new.pending.items ≤ old.room + length old.pending.items)
StepFewer old new (Some next) = new.room + length new.pending.items + next_cost next ≤ old.room + length old.pending.items

-- what a read's answer says of the buffer
abbrev pub filled_of : ReadAnswer → Filled
filled_of (reads.Got count) = filled.Got count
filled_of reads.End = filled.End
filled_of reads.Failed = filled.Failed

abbrev pub filled_count : Filled → ℕ
filled_count (filled.Got count) = count
filled_count filled.End = 0
filled_count filled.Failed = 0
filled_count filled.NoMemory = 0
