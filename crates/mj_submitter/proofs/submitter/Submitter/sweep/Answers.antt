use Rattle.std.proofs.Common.{◌≡◌, ◌+◌, ◌∷◌, ◌∙◌, Bool, List, drop, ap, sym, subst}
use Rattle.std.proofs.lemmas.List.{drop_more}
use Rattle.mj_peer.specs.declared.act.Act.{Act}
use Rattle.mj_submit.specs.SubmitRules.{acts, sweep}
use Rattle.mj_submitter.specs.Courses.{FollowsTo, with_client}
use Rattle.mj_submitter.proofs.CourseLemmas.{SoFar, sweep-goes}
use Rattle.mj_submitter.proofs.submitter.Submitter.sweep.Goals as goal

pub loop-act-preserved : goal.loop-act-preserved
loop-act-preserved c =
    let list = c.args.list.now in
    let i = c.loop-act.act-index in
    let a = c.act-item.result in
    let at : drop i list ≡ a ∷ drop (i + 1) list = drop_more list i a c.loop-act-test.true ∙ ap (λ (x : Act). x ∷ drop (i + 1) list) (sym c.act-item.is) in
    let f : FollowsTo _ c.loop-act.self c.act.new.self c.loop-act.effects c.act.new.effects (acts a) = c.in_ok-act.ensures.turn in (
      c.in_ok-act.ensures.ready,
      λ k is.
          let whole = sweep list (with_client c.args.self.now k) in
          sweep-goes whole a (drop (i + 1) list) c.loop-act.self c.act.new.self c.args.effects.now c.loop-act.effects c.act.new.effects
          (subst (λ (l : List Act). SoFar whole l c.loop-act.self c.args.effects.now c.loop-act.effects) at (c.loop-act.invariant.1 k is))
          (subst (λ (b : Bool). FollowsTo b c.loop-act.self c.act.new.self c.loop-act.effects c.act.new.effects (acts a)) c.if-branch.false f),
    )
