-- Verdicts, line by line.
use Rattle.std.proofs.Common.{◌≡◌, ◌+◌, ℕ, zero, suc, List, [], ◌∷◌, ◌++◌, length, refl, sym, ap, ◌∙◌, arith, append_assoc, append-nil, length-append}
use Rattle.std.specs.Prelude.{replicate}
use Rattle.mj_audit_prog.specs.Reading.{AreHeld}
use Rattle.mj_transcript.specs.Verdicts.{judged, judged_from, verdict_after, verdict_at}
use Rattle.mj_transcript.specs.declared.line.Line.{Line}
use Rattle.mj_transcript.specs.declared.verdict.Verdict.{Verdict}
use Rattle.mj_transcript.specs.declared.verdict.Verdict.TheVariants.{Held, Unlawful, Broken}

pub held-none : AreHeld []
held-none more = refl

behind : (n : ℕ) → suc (n + 1) ≡ suc n + 1
behind n = omega arith

one-held : (n : ℕ) (xs : List Verdict) → replicate n Held ++ Held ∷ xs ≡ replicate (n + 1) Held ++ xs
one-held zero xs = refl
one-held (suc n) xs = ap (λ (l : List Verdict). Held ∷ l) (one-held n xs) ∙ ap (λ (m : ℕ). replicate m Held ++ xs) (behind n)

abbrev going : Verdict → List Verdict → List Verdict
going v xs = v ∷ (elim v [ Held ↦ xs | Unlawful ↦ [] | Broken law ↦ [] ])

pub held-more : (lines : List Line) (line : Line) → verdict_at lines line ≡ Held → AreHeld lines → AreHeld (lines ++ line ∷ [])
held-more lines line held before more =
    ap judged (append_assoc lines (line ∷ []) more)
    ∙ before (line ∷ more)
    ∙ ap (λ (v : Verdict). replicate (length lines) Held ++ going v (judged_from (lines ++ line ∷ []) more)) held
    ∙ one-held (length lines) (judged_from (lines ++ line ∷ []) more)
    ∙ ap (λ (n : ℕ). replicate n Held ++ judged_from (lines ++ line ∷ []) more) (sym (length-append lines (line ∷ [])))

stopped : (v : Verdict) (xs : List Verdict) → (v ≡ Held → ⊥) → going v xs ≡ v ∷ []
stopped Held xs other = absurd (other refl)
stopped Unlawful xs other = refl
stopped (Broken law) xs other = refl

pub held-over : (lines : List Line) (line : Line) (v : Verdict) → v ≡ verdict_at lines line → (v ≡ Held → ⊥) → AreHeld lines → (more : List Line) → judged (lines ++ line ∷ more) ≡ replicate (length lines) Held ++ v ∷ []
held-over lines line v is other before more =
    before (line ∷ more)
    ∙ ap (λ (w : Verdict). replicate (length lines) Held ++ going w (judged_from (lines ++ line ∷ []) more)) (sym is)
    ∙ ap (λ (l : List Verdict). replicate (length lines) Held ++ l) (stopped v (judged_from (lines ++ line ∷ []) more) other)

pub held-end : (lines : List Line) → AreHeld lines → judged lines ≡ replicate (length lines) Held ++ verdict_after lines ∷ []
held-end lines before = ap judged (sym (append-nil lines)) ∙ before []
