use Rattle.mj_peer.specs.WorkerEndRules.{Started}
use Rattle.mj_peer.proofs.WorkerLemmas.{run-is-over, started-run}
use Rattle.mj_peer.proofs.worker_end.WorkerEnd.start.Goals as goal

pub returns-then-self-clause-run : goal.returns-then-self-clause-run
returns-then-self-clause-run c = run-is-over c.args.self.now.post c.new-acts.result Started c.if-self.true c.new-acts.ensures

pub returns-clause-run : goal.returns-clause-run
returns-clause-run c = started-run c.args.self.now.post c.new-acts.result c.greet.new.acts c.if-self.false c.new-acts.ensures c.in_ok-greet.ensures
