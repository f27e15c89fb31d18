use Rattle.std.proofs.Common.{◌≡◌, ◌+◌, ◌<◌, ◌∙◌, ◌++◌, List, ap, subst, sym, take, length, get_or, append_assoc}
use Rattle.mj_peer.specs.declared.act.Act.{Act}
use Rattle.mj_submitter.specs.Courses.{act_effects, effects_of_act}
use Rattle.mj_submitter.specs.declared.effect.Effect.{Effect}
use Rattle.mj_submitter.proofs.CourseLemmas.{acts-push, taken-more}
use Rattle.mj_submitter.proofs.working.push_acts.Goals as goal

pub loop-act-preserved : goal.loop-act-preserved
loop-act-preserved c =
    let list = c.args.list.now in
    let i = c.loop-act.act-index in
    let a = c.act-item.result in
    c.in_ok-push_act.ensures ∙ ap (λ (l : List Effect). l ++ effects_of_act a) c.loop-act.invariant
    ∙ append_assoc c.args.effects.now (act_effects (take i list)) (effects_of_act a)
    ∙ ap (λ (l : List Effect). c.args.effects.now ++ l) (sym (acts-push (take i list) a) ∙ ap act_effects (sym (taken-more list i a c.loop-act-test.true c.act-item.is)))
