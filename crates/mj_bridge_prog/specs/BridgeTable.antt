-- What the command `bridge` does to its two links and prints, by the status that it answers.
use Rattle.std.specs.Prelude.{ℕ, ◌≡◌, ◌⊎◌, Bool, true, false, List, [], ◌∷◌, ◌++◌, take, Option, None, Some, codes}
use Rattle.std.specs.Fmt.{decimal}
use Rattle.std.specs.Io.KnownBytes.{Appends}
use Rattle.mj_base.specs.Rising.{Rose}
use Rattle.mj_base.specs.declared.sink.WriteAnswer.{WriteAnswer}
use Rattle.mj_base.specs.declared.sink.WriteAnswer.TheVariants as writes
use Rattle.mj_bridge.specs.BridgeRules.{Bridge, Call, after, fresh, turn_of}
use Rattle.mj_bridge_prog.specs.BridgeRun.{AreInTurn, Halted, acts_by, acts_of, leaving_in, round_of, rounds}
use Rattle.mj_bridge_prog.specs.Sides.{AreDone, Cause, Counts, Sides}
use Rattle.mj_bridge_prog.specs.declared.ending.Ending.{Ending}
use Rattle.mj_bridge_prog.specs.declared.ending.Ending.TheVariants as endings
use Rattle.mj_bridge_prog.specs.declared.status.Status.{Status}
use Rattle.mj_bridge_prog.specs.declared.status.Status.TheVariants as statuses
use Rattle.mj_bridge_prog.specs.declared.words.Bridging.{Bridging}
use Rattle.mj_peering.specs.declared.leaving.Leaving.{Leaving}
use Rattle.mj_peering.specs.declared.leaving.Leaving.TheVariants as leaves
use Rattle.mj_peering.specs.declared.stop.Stop.{Stop}
use Rattle.mj_peering.specs.declared.stop.Stop.TheVariants as stops
use Rattle.mj_words.specs.Lines.{AppendsLine, fault_read}
use Rattle.mj_words.specs.SinkCounts.{SinkCounts}

-- ---- the numbers that the program exits with

abbrev pub code_of : Status → ℕ
code_of statuses.Done = 0
code_of statuses.Words = 1
code_of statuses.NoMemory = 4
code_of statuses.Read = 6
code_of statuses.Write = 7
code_of statuses.NoAnswer = 8

-- one of these numbers
abbrev pub IsStatus : ℕ → Type 0
IsStatus number = (status : Status) × (number ≡ code_of status)

-- ---- the last line

abbrev pub ending_by : Leaving → ℕ → Ending
ending_by leaves.Finished n = endings.Bridged n
ending_by leaves.NoAnswer n = endings.NoAnswer n

abbrev pub no_answer_line : ℕ → List ℕ
no_answer_line n = codes "fault no-answer " ++ (decimal n ++ codes "\n")

-- `bridged N`, `fault no-answer N`
abbrev pub ending_line : Ending → List ℕ
ending_line (endings.Bridged n) = codes "bridged " ++ (decimal n ++ codes "\n")
ending_line (endings.NoAnswer n) = no_answer_line n

-- it wasn't given up
abbrev pub is_good : Ending → Bool
is_good (endings.Bridged n) = true
is_good (endings.NoAnswer n) = false

-- what the write of the last line makes of the status
abbrev pub status_after : WriteAnswer → Status
status_after writes.Done = statuses.Done
status_after writes.NoMemory = statuses.NoMemory
status_after writes.Failed = statuses.Write

-- ---- the run

-- the bridge that the words ask for
abbrev pub bridge_of : Bridging → Bridge
bridge_of v = fresh v.service v.remote v.tries v.wait v.count

-- the run to its end: these calls, by which the bridge doesn't leave, and one more, by which it leaves so; and the number
-- of REQUESTs that were answered
pub record Ends (leaving : Leaving) (n : ℕ) (first : Bridge) (old now : Sides) : Type 0 where
  pub calls : List Call
  pub last : Call
  pub in_turn : AreInTurn (calls ++ last ∷ [])
  pub at_work : leaving_in (acts_of calls first) ≡ None
  pub leaves : leaving_in (acts_by last (after calls first)) ≡ Some leaving
  pub served : n ≡ (turn_of last (after calls first)).0.near.duty.served
  pub done : AreDone old now (rounds calls first ++ round_of last (after calls first) ∷ [])

abbrev pub CameTo : Bridge → Sides → Sides → Ending → Type 0
CameTo first old now (endings.Bridged n) = Ends leaves.Finished n first old now
CameTo first old now (endings.NoAnswer n) = Ends leaves.NoAnswer n first old now

-- it broke off, and why
abbrev pub IsHalted : Bridge → Sides → Sides → Counts → Counts → Stop → Type 0
IsHalted first old now before later stop = Cause stop before later × Halted stop first old now

-- ---- statuses

-- what the links told before and tell now, and their counts; what the sink had and has got, and its counts
pub record Scene : Type 0 where
  pub old : Sides
  pub now : Sides
  pub before : Counts
  pub after : Counts
  pub had : Option (List ℕ)
  pub got : Option (List ℕ)
  pub sink_before : SinkCounts
  pub sink_after : SinkCounts

abbrev pub scene : Sides → Sides → Counts → Counts → Option (List ℕ) → Option (List ℕ) → SinkCounts → SinkCounts → Scene
scene old now before after had got sink_before sink_after = record {
  old = old;
  now = now;
  before = before;
  after = after;
  had = had;
  got = got;
  sink_before = sink_before;
  sink_after = sink_after;
}

-- status 0: as many REQUESTs were answered as were to be; `bridged N`
abbrev pub IsFinished : Bridge → Scene → Type 0
IsFinished first s = (n : ℕ) × Ends leaves.Finished n first s.old s.now × Appends s.had s.got (ending_line (endings.Bridged n))

-- status 8: a side has given up; `fault no-answer N`
abbrev pub IsGivenUp : Bridge → Scene → Type 0
IsGivenUp first s = (n : ℕ) × Ends leaves.NoAnswer n first s.old s.now × AppendsLine s.had s.got s.sink_before s.sink_after [] (no_answer_line n)

-- status 6: a read of a link failed; the run up to it, and `fault read`
abbrev pub IsUnread : Bridge → Scene → Type 0
IsUnread first s =
    Cause stops.Read s.before s.after × Halted stops.Read first s.old s.now × AppendsLine s.had s.got s.sink_before s.sink_after [] fault_read

-- status 7: a write of a link failed, and the run up to it; or the last line's, and a front of that line
abbrev pub IsUnwritten : Bridge → Scene → Type 0
IsUnwritten first s =
    (Cause stops.Write s.before s.after × Halted stops.Write first s.old s.now × Appends s.had s.got [])
    ⊎ (Rose s.sink_before.faults s.sink_after.faults
    × ((n : ℕ) × Ends leaves.Finished n first s.old s.now × ((k : ℕ) × Appends s.had s.got (take k (ending_line (endings.Bridged n))))))

-- status 4: there was no memory; the run up to there, or to its end, and no line
abbrev pub IsStarved : Bridge → Scene → Type 0
IsStarved first s = (Halted stops.NoMemory first s.old s.now × Appends s.had s.got []) ⊎ ((ending : Ending) × CameTo first s.old s.now ending × Appends s.had s.got [])

abbrev pub IsRow : Status → Bridge → Scene → Type 0
IsRow statuses.Done first s = IsFinished first s
IsRow statuses.Words first s = ⊥
IsRow statuses.NoMemory first s = IsStarved first s
IsRow statuses.Read first s = IsUnread first s
IsRow statuses.Write first s = IsUnwritten first s
IsRow statuses.NoAnswer first s = IsGivenUp first s
