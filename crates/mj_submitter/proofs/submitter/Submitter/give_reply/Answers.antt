use Rattle.std.proofs.lemmas.Result.{on_ok_weaker}
use Rattle.mj_submitter.proofs.CourseLemmas.{given}
use Rattle.mj_submitter.proofs.submitter.Submitter.give_reply.Goals as goal

pub returns-clause-turn : goal.returns-clause-turn
returns-clause-turn c =
    on_ok_weaker c.go_on.result
    (λ f. given c.args.self.now c.go_on.new.self c.args.id.now c.args.reply c.in_ok-line.line c.args.effects.now c.push.new.self c.push-2.new.self c.go_on.new.effects c.in_ok-line.ensures c.in_ok-push.ensures.ok c.in_ok-push-2.ensures.ok f)
    c.go_on.ensures.turn
