-- Commands are one to one with their lists of frames.
use Rattle.std.specs.Prelude.{ℕ, ◌≡◌, ◌↔◌, List, Some}
use Rattle.mj_worker_cmd.specs.WorkerGrammar.{IsWorkerCommand, IsOrder, IsLed, IsSpoken, IsActNamed}
use Rattle.mj_worker_cmd.specs.WorkerReading.{worker_of, order_of}
use Rattle.mj_worker_cmd.specs.WorkerWriting.{worker_frames, order_frames}
use Rattle.mj_worker_cmd.specs.declared.command.WorkerCmd.{WorkerCmd}
use Rattle.mj_worker_cmd.specs.declared.command.Order.{Order}

abbrev pub OneListOfCommand : Type 0
OneListOfCommand = (cmd : WorkerCmd) (message other : List (List ℕ)) → IsWorkerCommand cmd message → IsWorkerCommand cmd other → message ≡ other

abbrev pub OneCommandOfList : Type 0
OneCommandOfList = (cmd other : WorkerCmd) (message : List (List ℕ)) → IsWorkerCommand cmd message → IsWorkerCommand other message → cmd ≡ other

abbrev pub CommandIsRead : Type 0
CommandIsRead = (cmd : WorkerCmd) (message : List (List ℕ)) → (worker_of message ≡ Some cmd) ↔ IsWorkerCommand cmd message

abbrev pub CommandIsWritten : Type 0
CommandIsWritten = (cmd : WorkerCmd) → IsSpoken cmd.version cmd.lead cmd.act → IsActNamed cmd.act → IsWorkerCommand cmd (worker_frames cmd)

abbrev pub OneListOfOrder : Type 0
OneListOfOrder = (order : Order) (message other : List (List ℕ)) → IsOrder order message → IsOrder order other → message ≡ other

abbrev pub OneOrderOfList : Type 0
OneOrderOfList = (order other : Order) (message : List (List ℕ)) → IsOrder order message → IsOrder other message → order ≡ other

abbrev pub OrderIsRead : Type 0
OrderIsRead = (order : Order) (message : List (List ℕ)) → (order_of message ≡ Some order) ↔ IsOrder order message

abbrev pub OrderIsWritten : Type 0
OrderIsWritten = (order : Order) → IsLed order.version order.lead → IsOrder order (order_frames order)
