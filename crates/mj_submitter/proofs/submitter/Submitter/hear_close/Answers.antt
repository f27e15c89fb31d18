use Rattle.std.proofs.Common.{sym, ◌∙◌}
use Rattle.mj_submitter.proofs.CourseLemmas.{close-done, close-refused}
use Rattle.mj_submitter.proofs.submitter.Submitter.hear_close.Goals as goal

pub returns-then-not-has_code-clause-turn : goal.returns-then-not-has_code-clause-turn
returns-then-not-has_code-clause-turn c =
    close-refused c.args.self.now c.refuse.new.self c.args.body.now c.args.effects.now c.refuse.new.effects (sym c.has_code.ensures ∙ c.if-not-has_code.true) c.in_ok-refuse.ensures.turn

pub returns-clause-turn : goal.returns-clause-turn
returns-clause-turn c =
    close-done c.args.self.now c.close.new.self c.args.body.now c.args.effects.now c.close.new.effects (sym c.has_code.ensures ∙ c.if-not-has_code.false) c.in_ok-close.ensures.turn
