use Rattle.mj_worker_cmd.proofs.WorkerLemmas.{one_list, one_command, read_law, written_command}
use Rattle.mj_worker_cmd.proofs.laws.worker_commands_are_one_to_one.Goals as goal

pub returns : goal.returns
returns c = record { list = one_list; command = one_command; read = read_law; written = written_command }
