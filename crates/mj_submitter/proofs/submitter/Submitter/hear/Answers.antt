use Rattle.std.proofs.Common.{sym, ◌∙◌}
use Rattle.std.proofs.lemmas.Result.{IfOk-weaker}
use Rattle.mj_submit.specs.declared.progress.Stage.TheVariants.{Fresh, Ticket, Delivered}
use Rattle.mj_submitter.proofs.CourseLemmas.{hears-as}
use Rattle.mj_submitter.proofs.submitter.Submitter.hear.Goals as goal

pub returns-in-Fresh-clause-turn : goal.returns-in-Fresh-clause-turn
returns-in-Fresh-clause-turn c =
    IfOk-weaker c.hear_ticket.result _ _ (λ ended f. hears-as c.args.self.now c.hear_ticket.new.self c.args.body.now c.args.effects.now c.hear_ticket.new.effects ended Fresh (sym c.is_working.ensures ∙ c.if-not-is_working.false) c.in-Fresh.is f) c.hear_ticket.ensures.turn

pub returns-in-Ticket-clause-turn : goal.returns-in-Ticket-clause-turn
returns-in-Ticket-clause-turn c =
    IfOk-weaker c.hear_reply.result _ _ (λ ended f. hears-as c.args.self.now c.hear_reply.new.self c.args.body.now c.args.effects.now c.hear_reply.new.effects ended (Ticket _) (sym c.is_working.ensures ∙ c.if-not-is_working.false) c.in-Ticket.is f) c.hear_reply.ensures.turn

pub returns-in-Delivered-clause-turn : goal.returns-in-Delivered-clause-turn
returns-in-Delivered-clause-turn c =
    IfOk-weaker c.hear_close.result _ _ (λ ended f. hears-as c.args.self.now c.hear_close.new.self c.args.body.now c.args.effects.now c.hear_close.new.effects ended (Delivered c.in-Delivered.field-0) (sym c.is_working.ensures ∙ c.if-not-is_working.false) c.in-Delivered.is (f c.in-Delivered.field-0)) c.hear_close.ensures.turn
