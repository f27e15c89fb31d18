-- A transcript that is held keeps the laws.
use Rattle.std.specs.Prelude.{◌≡◌, ◌+◌, true, List, length, replicate}
use Rattle.mj_ledger.specs.TranscriptLaws.{keeps_busy, keeps_owner, keeps_wire, nobody_is_kept}
use Rattle.mj_transcript.specs.Said.{said}
use Rattle.mj_transcript.specs.Verdicts.{are_lawful, judged}
use Rattle.mj_transcript.specs.Waiting.{keeps_waiting}
use Rattle.mj_transcript.specs.declared.line.Line.{Line}
use Rattle.mj_transcript.specs.declared.verdict.Verdict.TheVariants.{Held}

pub record IsKept (lines : List Line) : Type 0 where
  pub lawful : are_lawful lines ≡ true
  pub wire : keeps_wire (said lines) ≡ true
  pub owner : keeps_owner (said lines) ≡ true
  pub busy : keeps_busy (said lines) ≡ true
  pub waiting : keeps_waiting lines ≡ true

abbrev pub HeldIsKept : Type 0
HeldIsKept = (lines : List Line) → judged lines ≡ replicate (length lines + 1) Held → IsKept lines × (nobody_is_kept (said lines) ≡ true)
