-- What a replay prints, by the status that it answers.
use Rattle.std.specs.Prelude.{ℕ, ◌≡◌, ◌≤◌, ◌^◌, ◌⊎◌, List, ◌++◌, length, take, Option, Some, None}
use Rattle.std.specs.Io.KnownBytes.{Appends, Consumes}
use Rattle.mj_base.specs.Writing.{AppendsFront}
use Rattle.mj_machine.specs.MachineState.{Machine}
use Rattle.mj_prog.specs.Made.{IsMadeOf, IsMadeWhole, Made, printed}
use Rattle.mj_prog.specs.Script.{Ending, WithText, AtStop, AtUnlawful, script, IsLawful, ended_part}
use Rattle.mj_words.specs.Lines.{AppendsLine, done_line, fault_read}
use Rattle.mj_words.specs.SinkCounts.{SinkCounts}
use Rattle.mj_prog.specs.Shown.{fault_line, store_line}
use Rattle.mj_prog.specs.declared.halt.StoreFault.{StoreFault}

-- the script's text: the first 2^40 bytes of what the source has, where it tells
abbrev pub IsInput : Option (List ℕ) → List ℕ → Type 0
IsInput None text = length text ≤ 2 ^ 40
IsInput (Some all) text = text ≡ take (2 ^ 40) all

-- status 0: no line is unlawful, and all is printed, with `done N` behind it
abbrev pub IsDone : ℕ → Machine → Made → Option (List ℕ) → Option (List ℕ) → Option (List ℕ) → Type 0
IsDone lanes first made from old new =
    (text : List ℕ) × IsInput from text × IsMadeWhole (script lanes text).events made × IsLawful (script lanes text).ending
    × Appends old new (printed first made ++ done_line (length (script lanes text).events))

-- status 2: line n is the first unlawful one, and all before it is printed
abbrev pub IsRefused : ℕ → Machine → Made → Option (List ℕ) → Option (List ℕ) → Option (List ℕ) → SinkCounts → SinkCounts → Type 0
IsRefused lanes first made from old new before now =
    (text : List ℕ) × (number : ℕ) × IsInput from text × IsMadeWhole (script lanes text).events made × ((script lanes text).ending ≡ AtUnlawful number)
    × AppendsLine old new before now (printed first made) (fault_line number)

-- status 3, of a disk that doesn't tell: why the file is refused, behind a front of what the events print
abbrev pub IsCutByStore : ℕ → Machine → Made → Option (List ℕ) → Option (List ℕ) → Option (List ℕ) → SinkCounts → SinkCounts → Type 0
IsCutByStore lanes first made from old new before now =
    (text : List ℕ) × (n : ℕ) × (fault : StoreFault) × IsInput from text × IsMadeOf (script lanes text).events made
    × AppendsLine old new before now (take n (printed first made)) (store_line fault)

-- status 4: a front of what the events print that happened
abbrev pub IsCutOff : ℕ → Machine → Made → Option (List ℕ) → Option (List ℕ) → Option (List ℕ) → Type 0
IsCutOff lanes first made from old new = (text : List ℕ) × IsInput from text × IsMadeOf (script lanes text).events made × AppendsFront old new (printed first made)

-- status 7: a front of what the events print that happened, or of all that and `done N`
abbrev pub IsUnwritten : ℕ → Machine → Made → Option (List ℕ) → Option (List ℕ) → Option (List ℕ) → Type 0
IsUnwritten lanes first made from old new =
    IsCutOff lanes first made from old new
    ⊎ ((text : List ℕ) × IsInput from text × IsMadeWhole (script lanes text).events made × AppendsFront old new (printed first made ++ done_line (length (script lanes text).events)))

-- status 6: the whole lines that were read are all events, and what they give is printed
abbrev pub IsUnread : ℕ → Machine → Made → Option (List ℕ) → Option (List ℕ) → Option (List ℕ) → Option (List ℕ) → SinkCounts → SinkCounts → Type 0
IsUnread lanes first made from left old new before now =
    (read : List ℕ) × Consumes from left read × IsMadeWhole (script lanes (ended_part read)).events made × ((script lanes (ended_part read)).ending ≡ WithText)
    × AppendsLine old new before now (printed first made) fault_read

-- no other status than 0, 2 and 4 where nothing failed, and which of 0 and 2 the script decides
abbrev pub AnswersFor : Ending → ℕ → Type 0
AnswersFor WithText status = (status ≡ 0) ⊎ (status ≡ 4)
AnswersFor (AtStop number) status = (status ≡ 0) ⊎ (status ≡ 4)
AnswersFor (AtUnlawful number) status = (status ≡ 2) ⊎ (status ≡ 4)
