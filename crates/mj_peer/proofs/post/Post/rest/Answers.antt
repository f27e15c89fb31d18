use Rattle.std.proofs.Common.{sym, subst, ◌∙◌}
use Rattle.mj_peer.specs.WorkerEndRules.{idling, reopens}
use Rattle.mj_peer.specs.WorkerStands.{Follows}
use Rattle.mj_peer.specs.declared.duty.Duty.{Duty}
use Rattle.mj_peer.proofs.WorkerLemmas.{rest-again, rest-stays}
use Rattle.mj_peer.proofs.post.Post.rest.Goals as goal

pub returns-in_ok-reopen-in-Again-clause-turn : goal.returns-in_ok-reopen-in-Again-clause-turn
returns-in_ok-reopen-in-Again-clause-turn c =
    let old = c.args.self.now in
    rest-again old c.reopen.new.self c.args.acts.now c.reopen.new.acts (sym c.count_quiet.ensures.verdict ∙ c.in-Again.is)
    (subst (λ (d : Duty). Follows (record old { duty = d }) c.reopen.new.self c.args.acts.now c.reopen.new.acts reopens) c.count_quiet.ensures.duty c.in_ok-reopen-in-Again.ensures.turn)

pub returns-in_ok-beat-in-Stay-clause-turn : goal.returns-in_ok-beat-in-Stay-clause-turn
returns-in_ok-beat-in-Stay-clause-turn c =
    let old = c.args.self.now in
    rest-stays old c.beat.new.self c.args.acts.now c.beat.new.acts (sym c.count_quiet.ensures.verdict ∙ c.in-Stay.is)
    (subst (λ (d : Duty). Follows (record old { duty = d }) c.beat.new.self c.args.acts.now c.beat.new.acts idling) c.count_quiet.ensures.duty c.in_ok-beat-in-Stay.ensures.turn)
