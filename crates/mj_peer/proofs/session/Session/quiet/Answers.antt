use Rattle.std.proofs.Common.{sym, subst, ◌∙◌}
use Rattle.mj_peer.specs.ClientEndRules.{reopens}
use Rattle.mj_peer.specs.ClientStands.{Follows}
use Rattle.mj_peer.specs.declared.talk.Talk.{Talk}
use Rattle.mj_peer.proofs.ClientLemmas.{quiet-again}
use Rattle.mj_peer.proofs.session.Session.quiet.Goals as goal

pub returns-in_ok-reopen-in-Again-clause-turn : goal.returns-in_ok-reopen-in-Again-clause-turn
returns-in_ok-reopen-in-Again-clause-turn c =
    let old = c.args.self.now in
    quiet-again old c.reopen.new.self c.args.ended c.args.acts.now c.reopen.new.acts (sym c.count_quiet.ensures.verdict ∙ c.in-Again.is)
    (subst (λ (t : Talk). Follows (record old { talk = t }) c.reopen.new.self c.args.acts.now c.reopen.new.acts reopens) c.count_quiet.ensures.talk c.in_ok-reopen-in-Again.ensures.turn)
