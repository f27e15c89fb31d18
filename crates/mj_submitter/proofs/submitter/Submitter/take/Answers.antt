use Rattle.std.proofs.Common.{◌∙◌, sym}
use Rattle.mj_submitter.proofs.CourseLemmas.{took}
use Rattle.mj_submitter.proofs.submitter.Submitter.take.Goals as goal

pub returns-clause-turn : goal.returns-clause-turn
returns-clause-turn c =
    took c.args.self.now c.go_on.new.self c.args.line c.in_ok-number.number c.new-effects.result c.go_on.new.effects c.in_ok-number.ensures (sym c.is_closed.ensures ∙ c.if-is_closed.false) c.new-effects.ensures c.in_ok-go_on.ensures.turn
