use Rattle.std.proofs.Common.{subst}
use Rattle.std.specs.Result.{IfOk}
use Rattle.mj_peer.specs.declared.duty.Duty.{Duty}
use Rattle.std.proofs.lemmas.Result.{IfOk-weaker}
use Rattle.mj_peer.specs.WorkerEndRules.{finishing, served, serves}
use Rattle.mj_peer.specs.WorkerStands.{FollowsTo}
use Rattle.mj_peer.proofs.WorkerLemmas.{answered}
use Rattle.mj_peer.proofs.post.Post.answer.Goals as goal

pub returns-clause-turn : goal.returns-clause-turn
returns-clause-turn c =
    let old = c.args.self.now in
    IfOk-weaker c.finish.result
    (λ ended. FollowsTo ended (record old { duty = served old.duty }) c.finish.new.self c.push-2.new.self c.finish.new.acts finishing)
    (λ ended. FollowsTo ended old c.finish.new.self c.args.acts.now c.finish.new.acts (serves c.args.address.now c.args.body.now))
    (λ ended f. answered old c.finish.new.self c.args.address.now c.args.body.now c.in_ok-text.text c.args.acts.now c.answer_parts.new.acts c.push.new.self c.push-2.new.self c.finish.new.acts ended
    c.in_ok-answer_parts.ensures c.in_ok-text.ensures c.in_ok-push.ensures.ok c.in_ok-push-2.ensures.ok f)
    (subst (λ (d : Duty). IfOk c.finish.result (λ ended. FollowsTo ended (record old { duty = d }) c.finish.new.self c.push-2.new.self c.finish.new.acts finishing)) c.count_served.ensures c.finish.ensures.turn)
