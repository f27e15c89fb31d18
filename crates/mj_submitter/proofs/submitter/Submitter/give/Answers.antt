use Rattle.mj_submitter.proofs.CourseLemmas.{met-does}
use Rattle.mj_submitter.proofs.submitter.Submitter.give.Goals as goal

pub returns-clause-turn : goal.returns-clause-turn
returns-clause-turn c =
    met-does c.args.self.now c.count_event.new.self c.sweep.new.self c.wake.new.self c.args.event c.step.new.self c.as_slice.result.now c.in_ok-acts.acts c.new-effects.result c.sweep.new.effects c.wake.new.effects
    c.requires.working c.in_ok-count_event.ensures c.in_ok-acts.ensures.turn c.as_slice.ensures c.in_ok-sweep.ensures.turn c.in_ok-wake.ensures.turn c.new-effects.ensures
