-- Commands of workers, told apart.
use Rattle.std.specs.Prelude.{Bool, true, false}
use Rattle.mj_worker_cmd.specs.declared.command.WorkerAct.{WorkerAct}
use Rattle.mj_worker_cmd.specs.declared.command.WorkerAct.TheVariants.{Ready, Reply, Heartbeat, Disconnect}

abbrev pub ends_it : WorkerAct → Bool
ends_it (Ready service) = false
ends_it (Reply last address body) = false
ends_it Heartbeat = false
ends_it Disconnect = true
