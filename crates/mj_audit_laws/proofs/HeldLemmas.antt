-- A transcript that is held, line by line.
use Rattle.std.proofs.Common.{◌≡◌, ◌+◌, ℕ, suc, Bool, true, false, cond, not, List, [], ◌∷◌, ◌++◌, length, Some, None, refl, sym, ap, subst, ◌∙◌, append-nil, append_assoc, arith}
use Rattle.std.specs.Prelude.{replicate}
use Rattle.std.proofs.lemmas.Bool.{and_from}
use Rattle.mj_ledger.specs.TranscriptLaws.{keeps_busy, keeps_owner, keeps_wire, nobody_is_kept}
use Rattle.mj_ledger.proofs.Lists.{all-moments-push}
use Rattle.mj_transcript.specs.Lines.{is_lawful}
use Rattle.mj_transcript.specs.Said.{said}
use Rattle.mj_transcript.specs.Verdicts.{are_lawful, broken, judged_from, verdict_after, verdict_at, verdict_of}
use Rattle.mj_transcript.specs.Waiting.{keeps_waiting}
use Rattle.mj_transcript.specs.declared.line.Line.{Line}
use Rattle.mj_transcript.specs.declared.verdict.Law.TheVariants as laws
use Rattle.mj_transcript.specs.declared.verdict.Verdict.{Verdict}
use Rattle.mj_transcript.specs.declared.verdict.Verdict.TheVariants.{Held, Unlawful, Broken}
use Rattle.mj_audit_laws.specs.HeldLaw.{HeldIsKept, IsKept}

lawful-held : (b : Bool) (v : Verdict) → cond b v Unlawful ≡ Held → (b ≡ true) × (v ≡ Held)
lawful-held true v h = (refl, h)
lawful-held false v h = cc

none-broken : (w o b k : Bool) → verdict_of (cond (not w) (Some laws.Wire) (cond (not o) (Some laws.Owner) (cond (not b) (Some laws.Busy) (cond (not k) (Some laws.Waiting) None)))) ≡ Held → (w ≡ true) × (o ≡ true) × (b ≡ true) × (k ≡ true)
none-broken false o b k h = cc
none-broken true false b k h = cc
none-broken true true false k h = cc
none-broken true true true false h = cc
none-broken true true true true h = (refl, refl, refl, refl)

nobody-held : (b : Bool) → cond b Held (Broken laws.Waiting) ≡ Held → b ≡ true
nobody-held true h = refl
nobody-held false h = cc

abbrev going : Verdict → List Verdict → List Verdict
going v xs = v ∷ (elim v [ Held ↦ xs | Unlawful ↦ [] | Broken law ↦ [] ])

first-held : (v : Verdict) (xs ys : List Verdict) → going v xs ≡ Held ∷ ys → (v ≡ Held) × (xs ≡ ys)
first-held Held xs ys h = (refl, (cc))
first-held Unlawful xs ys h = cc
first-held (Broken law) xs ys h = cc

one-held : (v : Verdict) → v ∷ [] ≡ Held ∷ [] → v ≡ Held
one-held v h = cc

kept-more : (before : List Line) (line : Line) → IsKept before → verdict_at before line ≡ Held → IsKept (before ++ line ∷ [])
kept-more before line kept held =
    let all = before ++ line ∷ [] in
    let l = lawful-held (is_lawful before line) (verdict_of (broken all)) held in
    let n = none-broken (keeps_wire (said all)) (keeps_owner (said all)) (keeps_busy (said all)) (keeps_waiting all) l.1 in
    record { lawful = all-moments-push is_lawful before line ∙ and_from (are_lawful before) (is_lawful before line) kept.lawful l.0; wire = n.0; owner = n.1; busy = n.2; waiting = n.3 }

counted : (n : ℕ) → suc n + 1 ≡ suc (n + 1)
counted n = omega arith

held-from : (before more : List Line) → IsKept before → judged_from before more ≡ replicate (length more + 1) Held → IsKept (before ++ more) × (nobody_is_kept (said (before ++ more)) ≡ true)
held-from before [] kept h =
    subst (λ (l : List Line). IsKept l × (nobody_is_kept (said l) ≡ true)) (sym (append-nil before))
    (kept, nobody-held (nobody_is_kept (said before)) (one-held (verdict_after before) h))
held-from before (line ∷ more) kept h =
    let first = first-held (verdict_at before line) (judged_from (before ++ line ∷ []) more) (replicate (length more + 1) Held) (h ∙ ap (λ (n : ℕ). replicate n Held) (counted (length more))) in
    subst (λ (l : List Line). IsKept l × (nobody_is_kept (said l) ≡ true)) (append_assoc before (line ∷ []) more)
    (held-from (before ++ line ∷ []) more (kept-more before line kept first.0) first.1)

pub held-is-kept : HeldIsKept
held-is-kept lines h = held-from [] lines (record { lawful = refl; wire = refl; owner = refl; busy = refl; waiting = refl }) h
