use Rattle.std.proofs.Common.{sym, subst, ◌∙◌}
use Rattle.mj_peer.specs.WorkerEndRules.{reopens}
use Rattle.mj_peer.specs.WorkerStands.{Follows}
use Rattle.mj_peer.specs.declared.duty.Duty.{Duty}
use Rattle.mj_peer.proofs.WorkerLemmas.{quiet-again}
use Rattle.mj_peer.proofs.post.Post.quiet.Goals as goal

pub returns-in_ok-reopen-in-Again-clause-turn : goal.returns-in_ok-reopen-in-Again-clause-turn
returns-in_ok-reopen-in-Again-clause-turn c =
    let old = c.args.self.now in
    quiet-again old c.reopen.new.self c.args.ended c.args.acts.now c.reopen.new.acts (sym c.count_quiet.ensures.verdict ∙ c.in-Again.is)
    (subst (λ (d : Duty). Follows (record old { duty = d }) c.reopen.new.self c.args.acts.now c.reopen.new.acts reopens) c.count_quiet.ensures.duty c.in_ok-reopen-in-Again.ensures.turn)
