use Rattle.std.proofs.Common.{◌++◌, ◌∷◌, [], List, ℕ, ap, map, rules, subst, sym, ◌∙◌}
use Rattle.mj_audit.specs.Judging.{StandsFor}
use Rattle.mj_transcript.specs.Text.{line_of}
use Rattle.mj_transcript.specs.Verdicts.{verdict_at}
use Rattle.mj_audit_prog.proofs.ReadLemmas.{line-held, line-over}
use Rattle.mj_audit_prog.proofs.reader.Reader.take_line.Goals as goal

pub returns-in_ok-self-in-Held-clause-goes : goal.returns-in_ok-self-in-Held-clause-goes
returns-in_ok-self-in-Held-clause-goes c = λ done s.
    let h = line-held c.args.self.now.audit c.line.new.self c.args.self.now.lines c.in_ok-self-in-Held.field-0 done c.args.self.now.pending.items
    (subst (λ (t : List ℕ). StandsFor c.line.new.self (map line_of done ++ line_of t ∷ [])) c.as_slice.ensures.value (c.in_ok-verdict.ensures.stands c.in-Held.is (map line_of done) s.stands))
    (ap (λ (t : List ℕ). verdict_at (map line_of done) (line_of t)) (sym c.as_slice.ensures.value) ∙ sym (c.in_ok-verdict.ensures.verdict (map line_of done) s.stands) ∙ c.in-Held.is)
    s.held s.count c.in_ok-self-in-Held.ensures in
    (record { stands = h.0; held = h.1; count = h.2 }, search rules)

pub returns-in_default-clause-goes : goal.returns-in_default-clause-goes
returns-in_default-clause-goes c = λ done s. (
  s.count,
  line-over done (line_of c.args.self.now.pending.items) c.in_ok-verdict.verdict
      (c.in_ok-verdict.ensures.verdict (map line_of done) s.stands ∙ ap (λ (t : List ℕ). verdict_at (map line_of done) (line_of t)) c.as_slice.ensures.value)
      c.in_default.not-Held s.held,
)
