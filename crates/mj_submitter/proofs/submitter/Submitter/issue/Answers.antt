use Rattle.std.proofs.lemmas.Result.{on_ok_weaker}
use Rattle.mj_submitter.proofs.CourseLemmas.{issued, not-issued}
use Rattle.mj_submitter.proofs.submitter.Submitter.issue.Goals as goal

pub returns-in_default-clause-turn : goal.returns-in_default-clause-turn
returns-in_default-clause-turn c =
    on_ok_weaker c.refuse.result (λ f. not-issued c.args.self.now c.refuse.new.self c.args.found c.args.body.now c.args.effects.now c.refuse.new.effects c.in_default.is f) c.refuse.ensures.turn

pub returns-clause-turn : goal.returns-clause-turn
returns-clause-turn c =
    on_ok_weaker c.go_on.result
    (λ f. issued c.args.self.now c.go_on.new.self c.args.found c.in-Some.id c.args.body.now c.in_ok-line.line c.args.effects.now c.push.new.self c.go_on.new.effects c.in-Some.is c.in_ok-line.ensures c.in_ok-push.ensures.ok f)
    c.go_on.ensures.turn
