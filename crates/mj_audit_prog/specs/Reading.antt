-- How far a text was read.
use Rattle.std.specs.Prelude.{ℕ, ◌≡◌, ◌≤◌, false, List, [], ◌∷◌, ◌++◌, length, map, replicate, Option, Some, None}
use Rattle.std.specs.List.{list_any}
use Rattle.mj_audit.specs.Judging.{StandsFor}
use Rattle.mj_audit_prog.specs.TextLines.{IsJudged, is_newline, lines_of}
use Rattle.mj_audit_prog.specs.declared.reader.Reader.{Reader}
use Rattle.mj_transcript.specs.Text.{line_of}
use Rattle.mj_transcript.specs.Verdicts.{judged, judged_from}
use Rattle.mj_transcript.specs.declared.line.Line.{Line}
use Rattle.mj_transcript.specs.declared.verdict.Verdict.{Verdict}
use Rattle.mj_transcript.specs.declared.verdict.Verdict.TheVariants.{Held}

-- the audit takes a further line
abbrev pub IsReady : Reader → Type 0
IsReady r = (r.audit.over ≡ false) × (r.audit.spent ≡ false)

-- whatever comes, these lines are held
abbrev pub AreHeld : List Line → Type 0
AreHeld lines = (more : List Line) → judged (lines ++ more) ≡ replicate (length lines) Held ++ judged_from lines more

-- the lines that were taken, all of them held
pub record Standing (r : Reader) (done : List (List ℕ)) : Type 0 where
  pub stands : StandsFor r.audit (map line_of done)
  pub held : AreHeld (map line_of done)
  pub count : r.lines ≡ length done

-- a line more, or the verdict that ends the audit there, whatever comes
abbrev pub LineStep : Option Verdict → Reader → Reader → List (List ℕ) → Type 0
LineStep None old new done = Standing new (done ++ old.pending.items ∷ []) × (new.pending.items ≡ [])
LineStep (Some verdict) old new done =
    (new.lines ≡ length done) × ((more : List Line) → judged (map line_of done ++ line_of old.pending.items ∷ more) ≡ replicate (length done) Held ++ verdict ∷ [])

-- this was read: whole lines, and the front of one
pub record IsRead (r : Reader) (read : List ℕ) : Type 0 where
  pub done : List (List ℕ)
  pub standing : Standing r done
  pub split : (rest : List ℕ) → lines_of (read ++ rest) ≡ done ++ lines_of (r.pending.items ++ rest)
  pub plain : list_any is_newline r.pending.items ≡ false
  pub short : length r.pending.items ≤ 131081

-- the text was read, or the audit is over, whatever comes
abbrev pub OctetStep : Option Verdict → Reader → List ℕ → Type 0
OctetStep None r read = IsRead r read
OctetStep (Some verdict) r read = (rest : List ℕ) → IsJudged (read ++ rest) r.lines verdict

abbrev pub IsEnded : List ℕ → ℕ → Verdict → Type 0
IsEnded read held verdict = IsJudged read held verdict

-- all lines of the text were taken and held, or one ended the audit
abbrev pub LastStep : Option Verdict → Reader → List ℕ → Type 0
LastStep None r read = (done : List (List ℕ)) × Standing r done × (lines_of read ≡ done)
LastStep (Some verdict) r read = IsJudged read r.lines verdict
