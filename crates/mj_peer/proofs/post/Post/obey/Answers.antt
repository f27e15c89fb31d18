use Rattle.std.proofs.Common.{subst}
use Rattle.std.specs.Result.{IfOk}
use Rattle.mj_peer.specs.declared.duty.Duty.{Duty}
use Rattle.std.proofs.lemmas.Result.{IfOk-weaker}
use Rattle.mj_peer.specs.WorkerEndRules.{heard, obeys, serves}
use Rattle.mj_peer.specs.WorkerStands.{FollowsTo}
use Rattle.mj_peer.proofs.WorkerLemmas.{requested}
use Rattle.mj_peer.proofs.post.Post.obey.Goals as goal

pub returns-in-Request-clause-turn : goal.returns-in-Request-clause-turn
returns-in-Request-clause-turn c =
    let old = c.args.self.now in
    IfOk-weaker c.answer.result
    (λ ended. FollowsTo ended (record old { duty = heard old.duty }) c.answer.new.self c.args.acts.now c.answer.new.acts (serves c.in-Request.address c.in-Request.body))
    (λ ended. FollowsTo ended old c.answer.new.self c.args.acts.now c.answer.new.acts (obeys c.args.act))
    (λ ended f. requested old c.answer.new.self c.args.act c.in-Request.address c.in-Request.body c.args.acts.now c.answer.new.acts ended c.in-Request.is f)
    (subst (λ (d : Duty). IfOk c.answer.result (λ ended. FollowsTo ended (record old { duty = d }) c.answer.new.self c.args.acts.now c.answer.new.acts (serves c.in-Request.address c.in-Request.body))) c.hear.ensures c.answer.ensures.turn)
