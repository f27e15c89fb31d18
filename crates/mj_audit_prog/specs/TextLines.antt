-- A text as the lines of a transcript, and its verdict.
use Rattle.std.specs.Prelude.{ℕ, ◌≡◌, Bool, nat_eq, List, [], ◌∷◌, ◌++◌, map, replicate, if◌then◌else◌}
use Rattle.mj_transcript.specs.Text.{line_of}
use Rattle.mj_transcript.specs.Verdicts.{judged}
use Rattle.mj_transcript.specs.declared.line.Line.{Line}
use Rattle.mj_transcript.specs.declared.verdict.Verdict.{Verdict}
use Rattle.mj_transcript.specs.declared.verdict.Verdict.TheVariants.{Held}

abbrev pub is_newline : ℕ → Bool
is_newline c = nat_eq c 10

-- a newline ends each line, and the last may lack it
abbrev pub in_front : ℕ → List (List ℕ) → List (List ℕ)
in_front c [] = (c ∷ []) ∷ []
in_front c (line ∷ lines) = (c ∷ line) ∷ lines

abbrev pub lines_of : List ℕ → List (List ℕ)
lines_of [] = []
lines_of (c ∷ cs) = if is_newline c then [] ∷ lines_of cs else in_front c (lines_of cs)

abbrev pub transcript : List ℕ → List Line
transcript text = map line_of (lines_of text)

-- the verdict that ends the audit of a text stands behind so many that were held
abbrev pub IsJudged : List ℕ → ℕ → Verdict → Type 0
IsJudged text held verdict = judged (transcript text) ≡ replicate held Held ++ verdict ∷ []
