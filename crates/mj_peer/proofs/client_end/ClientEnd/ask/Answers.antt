use Rattle.mj_peer.specs.ClientEndRules.{Asked}
use Rattle.mj_peer.proofs.ClientLemmas.{asked-run, run-is-over}
use Rattle.mj_peer.proofs.client_end.ClientEnd.ask.Goals as goal

pub returns-then-self-clause-run : goal.returns-then-self-clause-run
returns-then-self-clause-run c = run-is-over c.args.self.now.session c.new-acts.result (Asked c.args.body.now) c.if-self.true c.new-acts.ensures

pub returns-clause-run : goal.returns-clause-run
returns-clause-run c = asked-run c.args.self.now.session c.open.new.self c.new-acts.result c.open.new.acts c.args.body.now c.if-self.false c.new-acts.ensures c.in_ok-open.ensures.turn
