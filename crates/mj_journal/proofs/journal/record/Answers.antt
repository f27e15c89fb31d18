use Rattle.std.proofs.Common.{List, ℕ, [], ◌∷◌, ◌++◌, length, ap, ◌∙◌}
use Rattle.mj_journal.specs.FileText.{length_octets}
use Rattle.mj_journal.proofs.Appends.{length-recorded}
use Rattle.mj_journal.proofs.journal.record.Goals as goal

pub returns-clause-size : goal.returns-clause-size
returns-clause-size c =
    ap (λ (l : List ℕ). length l)
    (c.in_ok-push_all-2.ensures.ok
    ∙ ap (λ (l : List ℕ). l ++ 0 ∷ [])
    (c.in_ok-push_all.ensures.ok
    ∙ ap (λ (l : List ℕ). l ++ c.args.payload.now) (c.in_ok-push_length.ensures ∙ ap (λ (l : List ℕ). l ++ length_octets (length c.args.payload.now)) c.new-octets.ensures)))
    ∙ length-recorded c.args.payload.now
