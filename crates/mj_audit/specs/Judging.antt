-- What an audit stands for.
use Rattle.std.specs.Prelude.{Bool, true, false, List}
use Rattle.mj_audit.specs.Following.{Follows}
use Rattle.mj_audit.specs.declared.audit.Audit.{Audit}
use Rattle.mj_transcript.specs.declared.line.Line.{Line}
use Rattle.mj_transcript.specs.declared.verdict.Law.{Law}
use Rattle.mj_transcript.specs.declared.verdict.Verdict.{Verdict}
use Rattle.mj_transcript.specs.declared.verdict.Verdict.TheVariants.{Held, Unlawful, Broken}

-- the audit has taken these lines, and all of them were held
abbrev pub StandsFor : Audit → List Line → Type 0
StandsFor audit lines = Follows audit.lanes.items audit.tables lines

abbrev pub is_held : Verdict → Bool
is_held Held = true
is_held Unlawful = false
is_held (Broken law) = false
