use Rattle.mj_submitter.proofs.CourseLemmas.{ticket-heard}
use Rattle.mj_submitter.proofs.submitter.Submitter.hear_ticket.Goals as goal

pub returns-clause-turn : goal.returns-clause-turn
returns-clause-turn c = ticket-heard c.args.self.now c.issue.new.self c.id_of.result c.args.body.now c.args.effects.now c.issue.new.effects c.id_of.ensures c.in_ok-issue.ensures.turn
