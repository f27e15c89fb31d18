-- The verdict on a transcript, line by line.
use Rattle.std.specs.Prelude.{Bool, not, List, [], ◌∷◌, ◌++◌, Option, Some, None, if◌then◌else◌}
use Rattle.std.specs.List.{list_all}
use Rattle.mj_transcript.specs.Lines.{is_lawful}
use Rattle.mj_ledger.specs.Moments.{moments}
use Rattle.mj_ledger.specs.TranscriptLaws.{keeps_busy, keeps_owner, keeps_wire, nobody_is_kept}
use Rattle.mj_transcript.specs.Said.{said}
use Rattle.mj_transcript.specs.Waiting.{keeps_waiting}
use Rattle.mj_transcript.specs.declared.line.Line.{Line}
use Rattle.mj_transcript.specs.declared.verdict.Law.{Law}
use Rattle.mj_transcript.specs.declared.verdict.Law.TheVariants as laws
use Rattle.mj_transcript.specs.declared.verdict.Verdict.{Verdict}
use Rattle.mj_transcript.specs.declared.verdict.Verdict.TheVariants.{Held, Unlawful, Broken}

-- the first law, in their order, that the lines break
abbrev pub broken : List Line → Option Law
broken lines =
    if not (keeps_wire (said lines)) then Some laws.Wire
    else if not (keeps_owner (said lines)) then Some laws.Owner
    else if not (keeps_busy (said lines)) then Some laws.Busy
    else if not (keeps_waiting lines) then Some laws.Waiting
    else None

abbrev pub verdict_of : Option Law → Verdict
verdict_of None = Held
verdict_of (Some law) = Broken law

-- of a line behind others
abbrev pub verdict_at : List Line → Line → Verdict
verdict_at before line = if is_lawful before line then verdict_of (broken (before ++ line ∷ [])) else Unlawful

-- at the end
abbrev pub verdict_after : List Line → Verdict
verdict_after lines = if nobody_is_kept (said lines) then Held else Broken laws.Waiting

-- all lines are lawful and keep the laws
abbrev pub are_lawful : List Line → Bool
are_lawful lines = list_all (λ m. is_lawful m.0 m.1) (moments lines)

-- the number of the line that ends the audit, with its verdict; or that behind the last line, with the verdict at the end
abbrev pub judged_from : List Line → List Line → List Verdict
judged_from before [] = verdict_after before ∷ []
judged_from before (line ∷ lines) = verdict_at before line ∷ (elim (verdict_at before line) [ Held ↦ judged_from (before ++ line ∷ []) lines | Unlawful ↦ [] | Broken law ↦ [] ])

abbrev pub judged : List Line → List Verdict
judged lines = judged_from [] lines
