use Rattle.std.proofs.Common.{refl, ◌∙◌, ◌++◌, List, ap}
use Rattle.mj_submitter.specs.Courses.{act_effects}
use Rattle.mj_submitter.specs.declared.effect.Effect.{Effect}
use Rattle.mj_submitter.proofs.CourseLemmas.{begins}
use Rattle.mj_submitter.proofs.submitter.Submitter.go_on.Goals as goal

pub returns-clause-turn : goal.returns-clause-turn
returns-clause-turn c =
    begins c.args.self.now _ c.in-Some.line c.service_at-service.result c.in_ok-body.body c.in_ok-client.client.session c.ask.new.self c.in_ok-acts.acts c.args.effects.now c.push_reopening.new.effects c.push_acts.new.effects
    (record { fields = λ k. refl; client = refl }) c.in-Some.is c.in_ok-body.ensures c.service_at-service.ensures c.in_ok-client.ensures.stands c.in_ok-acts.ensures.turn c.in_ok-push_reopening.ensures
    (c.in_ok-push_acts.ensures ∙ ap (λ l. c.push_reopening.new.effects ++ act_effects l) c.as_slice.ensures)
