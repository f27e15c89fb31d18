use Rattle.std.proofs.Common.{rules}
use Rattle.mj_worker_cmd.proofs.WorkerLemmas.{written_is_read}
use Rattle.mj_worker_cmd.proofs.worker_message.write_worker.Goals as goal

pub returns-clause-read : goal.returns-clause-read
returns-clause-read c = written_is_read c.args.cmd.now c.push_act.new.out c.requires (search rules) (search rules)
