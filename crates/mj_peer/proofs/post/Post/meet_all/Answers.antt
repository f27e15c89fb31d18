use Rattle.std.proofs.Common.{ap, sym, subst, ◌∙◌, ◌+◌, ◌∷◌, drop, List, Bool}
use Rattle.std.proofs.lemmas.List.{drop_more}
use Rattle.mj_wire.specs.declared.item.WireItem.{WireItem}
use Rattle.mj_peer.specs.WorkerEndRules.{meets}
use Rattle.mj_peer.specs.WorkerStands.{FollowsTo}
use Rattle.mj_peer.specs.Sweeping.{sweep}
use Rattle.mj_peer.proofs.WorkerLemmas.{SoFar, sweep-stops}
use Rattle.mj_peer.proofs.post.Post.meet_all.Goals as goal

pub returns-then-branch-clause-turn : goal.returns-then-branch-clause-turn
returns-then-branch-clause-turn c = λ w s.
    let i = c.loop-item.item-index in
    let x = c.item-item.result in
    let next = drop_more c.args.items.now i x c.loop-item-test.true ∙ ap (λ (y : WireItem). y ∷ drop (i + 1) c.args.items.now) (sym c.item-item.is) in
    let whole = sweep meets c.args.items.now w in
    sweep-stops whole x (drop (i + 1) c.args.items.now) c.loop-item.self c.meet.new.self c.args.acts.now c.loop-item.acts c.meet.new.acts
    (subst (λ (l : List WireItem). SoFar whole l c.loop-item.self c.args.acts.now c.loop-item.acts) next (c.loop-item.invariant.1 w s))
    (subst (λ (b : Bool). FollowsTo b c.loop-item.self c.meet.new.self c.loop-item.acts c.meet.new.acts (meets x)) c.if-branch.true c.in_ok-meet.ensures.turn)
