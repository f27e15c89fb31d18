-- What a worker of the load says has a form in both versions: a reply is the last.
use Rattle.std.specs.Prelude.{◌≡◌, ⊤, true}
use Rattle.mj_worker_cmd.specs.declared.command.WorkerAct.{WorkerAct}
use Rattle.mj_worker_cmd.specs.declared.command.WorkerAct.TheVariants.{Ready, Reply, Heartbeat, Disconnect}

abbrev pub MaySay : WorkerAct → Type 0
MaySay (Ready service) = ⊤
MaySay (Reply last address body) = last ≡ true
MaySay Heartbeat = ⊤
MaySay Disconnect = ⊤
