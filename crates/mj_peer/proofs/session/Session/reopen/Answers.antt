use Rattle.std.proofs.lemmas.Result.{on_ok_weaker}
use Rattle.mj_peer.proofs.ClientLemmas.{reader, reopened}
use Rattle.mj_peer.proofs.session.Session.reopen.Goals as goal

pub returns-clause-turn : goal.returns-clause-turn
returns-clause-turn c =
    on_ok_weaker c.greet.result
    (λ a. reopened c.args.self.now c.in_ok-self.field-0 c.args.acts.now c.push.new.self c.greet.new.acts
    (reader c.peer.result c.in_ok-self.field-0 c.peer.ensures c.in_ok-self.ensures.stands) c.in_ok-push.ensures.ok a)
    c.greet.ensures
