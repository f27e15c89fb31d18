use Rattle.mj_peer.specs.ClientEndRules.{Met}
use Rattle.mj_peer.proofs.ClientLemmas.{met-run, run-is-over}
use Rattle.mj_peer.proofs.client_end.ClientEnd.step.Goals as goal

pub returns-then-self-clause-run : goal.returns-then-self-clause-run
returns-then-self-clause-run c = run-is-over c.args.self.now.session c.new-acts.result (Met c.args.event) c.if-self.true c.new-acts.ensures

pub returns-clause-run : goal.returns-clause-run
returns-clause-run c = met-run c.args.self.now.session c.happen.new.self c.new-acts.result c.happen.new.acts c.args.event c.if-self.false c.new-acts.ensures c.in_ok-happen.ensures.turn
