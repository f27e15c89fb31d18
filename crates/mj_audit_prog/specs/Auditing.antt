-- What `audit` prints, by the status that it answers.
use Rattle.std.specs.Prelude.{ℕ, ◌≡◌, ◌≤◌, ◌+◌, ◌^◌, false, List, [], ◌++◌, length, map, take, Option, Some, None, codes}
use Rattle.std.specs.Fmt.{decimal}
use Rattle.std.specs.Io.KnownBytes.{Appends, Consumes, Keeps}
use Rattle.std.specs.List.{list_any}
use Rattle.mj_base.specs.Rising.{Rose}
use Rattle.mj_base.specs.Writing.{AppendsFront}
use Rattle.mj_audit_prog.specs.Reading.{AreHeld}
use Rattle.mj_audit_prog.specs.TextLines.{IsJudged, is_newline, lines_of}
use Rattle.mj_transcript.specs.Text.{line_of}
use Rattle.mj_transcript.specs.declared.verdict.Law.{Law}
use Rattle.mj_transcript.specs.declared.verdict.Law.TheVariants as laws
use Rattle.mj_transcript.specs.declared.verdict.Verdict.{Verdict}
use Rattle.mj_transcript.specs.declared.verdict.Verdict.TheVariants as verdicts
use Rattle.mj_words.specs.Lines.{AppendsLine, fault_read}
use Rattle.mj_words.specs.SinkCounts.{SinkCounts}

-- ---- lines

abbrev pub law_word : Law → List ℕ
law_word laws.Wire = codes "wire"
law_word laws.Owner = codes "owner"
law_word laws.Busy = codes "busy"
law_word laws.Waiting = codes "waiting"

abbrev pub held_line : ℕ → List ℕ
held_line count = codes "held " ++ (decimal count ++ codes "\n")

abbrev pub broken_line : List ℕ → ℕ → List ℕ
broken_line law number = codes "broken " ++ (law ++ (codes " " ++ (decimal number ++ codes "\n")))

abbrev pub fault_line : ℕ → List ℕ
fault_line number = codes "fault line " ++ (decimal number ++ codes "\n")

-- the line of a verdict that stands behind so many lines that were held
abbrev pub verdict_line : ℕ → Verdict → List ℕ
verdict_line held verdicts.Held = held_line held
verdict_line held verdicts.Unlawful = fault_line (held + 1)
verdict_line held (verdicts.Broken law) = broken_line (law_word law) (held + 1)

-- ---- the text, and how far it is read

-- the text: the first 2^40 bytes of what the source has, where it tells
abbrev pub IsText : Option (List ℕ) → List ℕ → Type 0
IsText None text = length text ≤ 2 ^ 40
IsText (Some all) text = text ≡ take (2 ^ 40) all

-- nothing in this ends the audit: whatever follows, its whole lines are these, all of them held, and what stands behind them isn't too long for a line
pub record IsOpen (read : List ℕ) : Type 0 where
  pub whole : List (List ℕ)
  pub last : List ℕ
  pub split : (rest : List ℕ) → lines_of (read ++ rest) ≡ whole ++ lines_of (last ++ rest)
  pub plain : list_any is_newline last ≡ false
  pub short : length last ≤ 131081
  pub held : AreHeld (map line_of whole)

-- the text has this verdict behind so many lines that were held; of the text no more was read than what leaves the audit open, and a last piece of at most 4,096 bytes
pub record IsAudited (from left : Option (List ℕ)) (held : ℕ) (verdict : Verdict) : Type 0 where
  pub front : List ℕ
  pub piece : List ℕ
  pub rest : List ℕ
  pub text : IsText from ((front ++ piece) ++ rest)
  pub judged : IsJudged ((front ++ piece) ++ rest) held verdict
  pub took : Consumes from left (front ++ piece)
  pub going : IsOpen front
  pub few : length piece ≤ 4096

-- ---- the table

-- status 0: all lines are lawful and keep the laws, to the end; their number is printed
abbrev pub IsHeld : Option (List ℕ) → Option (List ℕ) → Option (List ℕ) → Option (List ℕ) → Type 0
IsHeld from left old new = (held : ℕ) × IsAudited from left held verdicts.Held × Appends old new (held_line held)

-- status 12: a law is broken with this line first, or at the end; the law is printed, and the line's number, which is at the end that behind the last line's
abbrev pub IsBroken : Option (List ℕ) → Option (List ℕ) → Option (List ℕ) → Option (List ℕ) → Type 0
IsBroken from left old new =
    (held : ℕ) × (law : Law) × IsAudited from left held (verdicts.Broken law) × Appends old new (broken_line (law_word law) (held + 1))

-- status 2: this line is the first that isn't lawful, and up to it no law is broken
abbrev pub IsUnlawful : Option (List ℕ) → Option (List ℕ) → Option (List ℕ) → Option (List ℕ) → SinkCounts → SinkCounts → Type 0
IsUnlawful from left old new before now = (held : ℕ) × IsAudited from left held verdicts.Unlawful × AppendsLine old new before now [] (fault_line (held + 1))

-- status 6: what was read leaves the audit open
abbrev pub IsUnread : Option (List ℕ) → Option (List ℕ) → Option (List ℕ) → Option (List ℕ) → SinkCounts → SinkCounts → Type 0
IsUnread from left old new before now = (read : List ℕ) × Consumes from left read × IsOpen read × AppendsLine old new before now [] fault_read

-- status 7: a front of the line of 0 or 12
abbrev pub IsUnwritten : Option (List ℕ) → Option (List ℕ) → Option (List ℕ) → Option (List ℕ) → Type 0
IsUnwritten from left old new =
    (held : ℕ) × (verdict : Verdict) × (verdict ≡ verdicts.Unlawful → ⊥) × IsAudited from left held verdict × AppendsFront old new (verdict_line held verdict)

-- what the source had left and has left, its failures before and now; what the sink had got and has got, and its counts; the status
pub data Audits (from left : Option (List ℕ)) (reads_before reads_now : ℕ) (old new : Option (List ℕ)) (before now : SinkCounts) (status : ℕ) : Type 0 where
  AllHeld : status ≡ 0 → IsHeld from left old new → Audits from left reads_before reads_now old new before now status
  LineUnlawful : status ≡ 2 → IsUnlawful from left old new before now → Audits from left reads_before reads_now old new before now status
  Starved : status ≡ 4 → Keeps old new → Audits from left reads_before reads_now old new before now status
  Unread : status ≡ 6 → Rose reads_before reads_now → IsUnread from left old new before now → Audits from left reads_before reads_now old new before now status
  Unwritten : status ≡ 7 → Rose before.faults now.faults → IsUnwritten from left old new → Audits from left reads_before reads_now old new before now status
  LawBroken : status ≡ 12 → IsBroken from left old new → Audits from left reads_before reads_now old new before now status
