-- The frames of a command, as functions (ZeroMQ RFC 7, Majordomo/Worker; the 0.2 profile after ZeroMQ RFC 18).
use Rattle.std.specs.Prelude.{ℕ, List, [], ◌∷◌, ◌++◌}
use Rattle.mj_worker_cmd.specs.declared.command.WorkerCmd.{WorkerCmd}
use Rattle.mj_worker_cmd.specs.declared.command.WorkerAct.{WorkerAct}
use Rattle.mj_worker_cmd.specs.declared.command.WorkerAct.TheVariants.{Ready, Reply, Heartbeat, Disconnect}
use Rattle.mj_worker_cmd.specs.declared.command.Order.{Order}
use Rattle.mj_worker_cmd.specs.declared.command.OrderAct.{OrderAct}
use Rattle.mj_worker_cmd.specs.declared.command.OrderAct.TheVariants as order
use Rattle.mj_worker_cmd.specs.declared.kind.WorkerKind.{WorkerKind}
use Rattle.mj_worker_cmd.specs.declared.kind.WorkerKind.TheVariants as kinds
use Rattle.mj_worker_cmd.specs.declared.kind.OrderKind.{OrderKind}
use Rattle.mj_worker_cmd.specs.declared.kind.OrderKind.TheVariants as order_kinds
use Rattle.mj_opening.specs.declared.party.Party.TheVariants.{Workers}
use Rattle.mj_opening.specs.Opening.{opening_frames}
use Rattle.mj_worker_cmd.specs.Codes.{worker_code, order_code}

abbrev pub act_kind : WorkerAct → WorkerKind
act_kind (Ready service) = kinds.Ready
act_kind (Reply last address body) = kinds.Reply last
act_kind Heartbeat = kinds.Heartbeat
act_kind Disconnect = kinds.Disconnect

-- the frames behind the code
abbrev pub act_frames : WorkerAct → List (List ℕ)
act_frames (Ready service) = service ∷ []
act_frames (Reply last address body) = address ∷ [] ∷ body
act_frames Heartbeat = []
act_frames Disconnect = []

abbrev pub worker_frames : WorkerCmd → List (List ℕ)
worker_frames cmd = opening_frames Workers cmd.version cmd.lead ++ worker_code cmd.version (act_kind cmd.act) ∷ act_frames cmd.act

abbrev pub order_act_kind : OrderAct → OrderKind
order_act_kind (order.Request address body) = order_kinds.Request
order_act_kind order.Heartbeat = order_kinds.Heartbeat
order_act_kind order.Disconnect = order_kinds.Disconnect

abbrev pub order_act_frames : OrderAct → List (List ℕ)
order_act_frames (order.Request address body) = address ∷ [] ∷ body
order_act_frames order.Heartbeat = []
order_act_frames order.Disconnect = []

abbrev pub order_frames : Order → List (List ℕ)
order_frames cmd = opening_frames Workers cmd.version cmd.lead ++ order_code cmd.version (order_act_kind cmd.act) ∷ order_act_frames cmd.act
