use Rattle.mj_peer.specs.WorkerEndRules.{Met}
use Rattle.mj_peer.proofs.WorkerLemmas.{met-run, run-is-over}
use Rattle.mj_peer.proofs.worker_end.WorkerEnd.step.Goals as goal

pub returns-then-self-clause-run : goal.returns-then-self-clause-run
returns-then-self-clause-run c = run-is-over c.args.self.now.post c.new-acts.result (Met c.args.event) c.if-self.true c.new-acts.ensures

pub returns-clause-run : goal.returns-clause-run
returns-clause-run c = met-run c.args.self.now.post c.happen.new.self c.new-acts.result c.happen.new.acts c.args.event c.if-self.false c.new-acts.ensures c.in_ok-happen.ensures.turn
