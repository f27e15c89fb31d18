use Rattle.std.proofs.Common.{sym, ◌∙◌}
use Rattle.std.proofs.lemmas.Result.{IfOk-weaker}
use Rattle.mj_submitter.proofs.CourseLemmas.{reply-given, reply-pends, reply-refused}
use Rattle.mj_submitter.proofs.submitter.Submitter.hear_reply.Goals as goal

pub returns-then-not-has_code-clause-turn : goal.returns-then-not-has_code-clause-turn
returns-then-not-has_code-clause-turn c =
    reply-refused c.args.self.now c.refuse.new.self c.args.id.now c.args.body.now c.args.effects.now c.refuse.new.effects (sym c.has_code.ensures ∙ c.if-has_code.false) (sym c.has_code-2.ensures ∙ c.if-not-has_code.true) c.in_ok-refuse.ensures.turn

pub returns-clause-turn : goal.returns-clause-turn
returns-clause-turn c =
    reply-given c.args.self.now c.give_reply.new.self c.args.id.now c.args.body.now _ c.args.effects.now c.give_reply.new.effects (sym c.has_code.ensures ∙ c.if-has_code.false) (sym c.has_code-2.ensures ∙ c.if-not-has_code.false) c.in_ok-behind_first.ensures c.in_ok-give_reply.ensures.turn
