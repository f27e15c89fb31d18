-- Which command a list of frames is, as functions (ZeroMQ RFC 7, Majordomo/Worker; the 0.2 profile after ZeroMQ RFC 18).
use Rattle.std.specs.Prelude.{ℕ, Bool, List, [], ◌∷◌, Option, Some, None, option_map, if◌then◌else◌}
use Rattle.std.specs.Str.{bytes_eq}
use Rattle.mj_base.specs.ServiceName.{is_service_name}
use Rattle.mj_base.specs.declared.version.Version.{Version}
use Rattle.mj_worker_cmd.specs.declared.command.WorkerCmd.{WorkerCmd}
use Rattle.mj_worker_cmd.specs.declared.command.WorkerAct.{WorkerAct}
use Rattle.mj_worker_cmd.specs.declared.command.WorkerAct.TheVariants.{Ready, Reply, Heartbeat, Disconnect}
use Rattle.mj_worker_cmd.specs.declared.command.Order.{Order}
use Rattle.mj_worker_cmd.specs.declared.command.OrderAct.{OrderAct}
use Rattle.mj_worker_cmd.specs.declared.command.OrderAct.TheVariants as order
use Rattle.mj_worker_cmd.specs.declared.envelope.Envelope.{Envelope}
use Rattle.mj_worker_cmd.specs.declared.kind.WorkerKind.{WorkerKind}
use Rattle.mj_worker_cmd.specs.declared.kind.WorkerKind.TheVariants as kinds
use Rattle.mj_worker_cmd.specs.declared.kind.OrderKind.{OrderKind}
use Rattle.mj_worker_cmd.specs.declared.kind.OrderKind.TheVariants as order_kinds
use Rattle.mj_opening.specs.declared.party.Party.TheVariants.{Workers}
use Rattle.mj_opening.specs.Opening.{Begun, opening_of}
use Rattle.mj_worker_cmd.specs.Codes.{worker_kind, order_kind}

-- ---- the frames behind a code

-- an address, an empty frame and the body
abbrev pub envelope_of : List (List ℕ) → Option Envelope
envelope_of [] = None
envelope_of (address ∷ []) = None
envelope_of (address ∷ empty ∷ body) = if bytes_eq empty [] then Some (record { address = address; body = body }) else None

-- no frame
abbrev pub bare_of : {X : Type 0} → X → List (List ℕ) → Option X
bare_of act [] = Some act
bare_of act (frame ∷ rest) = None

-- a service name
abbrev pub ready_of : List (List ℕ) → Option WorkerAct
ready_of [] = None
ready_of (service ∷ []) = if is_service_name service then Some (Ready service) else None
ready_of (service ∷ next ∷ rest) = None

abbrev pub reply_of : Bool → List (List ℕ) → Option WorkerAct
reply_of last rest = option_map (λ e. Reply last e.address e.body) (envelope_of rest)

abbrev pub request_of : List (List ℕ) → Option OrderAct
request_of rest = option_map (λ e. order.Request e.address e.body) (envelope_of rest)

-- ---- commands of a worker

abbrev pub worker_act : WorkerKind → List (List ℕ) → Option WorkerAct
worker_act kinds.Ready rest = ready_of rest
worker_act (kinds.Reply last) rest = reply_of last rest
worker_act kinds.Heartbeat rest = bare_of Heartbeat rest
worker_act kinds.Disconnect rest = bare_of Disconnect rest

abbrev pub worker_in : Option WorkerKind → List (List ℕ) → Option WorkerAct
worker_in None rest = None
worker_in (Some kind) rest = worker_act kind rest

abbrev pub worker_coded : Version → List (List ℕ) → Option WorkerAct
worker_coded version [] = None
worker_coded version (code ∷ rest) = worker_in (worker_kind version code) rest

abbrev pub worker_cmd : Version → Bool → WorkerAct → WorkerCmd
worker_cmd version lead act = record { version = version; lead = lead; act = act }

abbrev pub worker_begun : Option Begun → Option WorkerCmd
worker_begun None = None
worker_begun (Some b) = option_map (worker_cmd b.version b.lead) (worker_coded b.version b.rest)

-- the worker's command that a message is
abbrev pub worker_of : List (List ℕ) → Option WorkerCmd
worker_of message = worker_begun (opening_of Workers message)

-- ---- commands of the broker

abbrev pub order_act : OrderKind → List (List ℕ) → Option OrderAct
order_act order_kinds.Request rest = request_of rest
order_act order_kinds.Heartbeat rest = bare_of order.Heartbeat rest
order_act order_kinds.Disconnect rest = bare_of order.Disconnect rest

abbrev pub order_in : Option OrderKind → List (List ℕ) → Option OrderAct
order_in None rest = None
order_in (Some kind) rest = order_act kind rest

abbrev pub order_coded : Version → List (List ℕ) → Option OrderAct
order_coded version [] = None
order_coded version (code ∷ rest) = order_in (order_kind version code) rest

abbrev pub order_cmd : Version → Bool → OrderAct → Order
order_cmd version lead act = record { version = version; lead = lead; act = act }

abbrev pub order_begun : Option Begun → Option Order
order_begun None = None
order_begun (Some b) = option_map (order_cmd b.version b.lead) (order_coded b.version b.rest)

-- the broker's command to a worker that a message is
abbrev pub order_of : List (List ℕ) → Option Order
order_of message = order_begun (opening_of Workers message)
