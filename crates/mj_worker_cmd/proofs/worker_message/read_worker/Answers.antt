use Rattle.std.proofs.Common.{rules}
use Rattle.mj_worker_cmd.proofs.WorkerLemmas.{command_stands}
use Rattle.mj_worker_cmd.specs.declared.command.WorkerCmd.{WorkerCmd}
use Rattle.mj_worker_cmd.proofs.worker_message.read_worker.Goals as goal

pub returns-clause-found : goal.returns-clause-found
returns-clause-found c =
    let cmd : WorkerCmd = record { version = c.in-Some.opening.version; lead = c.in-Some.opening.lead; act = c.in-Some-2.act } in
    command_stands c.args.message.now cmd (search rules)
