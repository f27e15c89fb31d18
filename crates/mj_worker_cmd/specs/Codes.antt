-- The codes of commands in both versions (ZeroMQ RFC 7, Majordomo/Worker; the 0.2 profile after ZeroMQ RFC 18).
use Rattle.std.specs.Prelude.{ℕ, true, false, List, [], ◌∷◌, Option, Some, None, if◌then◌else◌}
use Rattle.std.specs.Str.{bytes_eq}
use Rattle.mj_base.specs.declared.version.Version.{Version}
use Rattle.mj_base.specs.declared.version.Version.TheVariants.{One, Two}
use Rattle.mj_worker_cmd.specs.declared.kind.WorkerKind.{WorkerKind}
use Rattle.mj_worker_cmd.specs.declared.kind.WorkerKind.TheVariants.{Ready, Reply, Heartbeat, Disconnect}
use Rattle.mj_worker_cmd.specs.declared.kind.OrderKind.{OrderKind}
use Rattle.mj_worker_cmd.specs.declared.kind.OrderKind.TheVariants as order

abbrev pub worker_code : Version → WorkerKind → List ℕ
worker_code One Ready = 1 ∷ []
worker_code One (Reply last) = 3 ∷ []
worker_code One Heartbeat = 4 ∷ []
worker_code One Disconnect = 5 ∷ []
worker_code Two Ready = 1 ∷ []
worker_code Two (Reply false) = 3 ∷ []
worker_code Two (Reply true) = 4 ∷ []
worker_code Two Heartbeat = 5 ∷ []
worker_code Two Disconnect = 6 ∷ []

abbrev pub order_code : Version → OrderKind → List ℕ
order_code One order.Request = 2 ∷ []
order_code One order.Heartbeat = 4 ∷ []
order_code One order.Disconnect = 5 ∷ []
order_code Two order.Request = 2 ∷ []
order_code Two order.Heartbeat = 5 ∷ []
order_code Two order.Disconnect = 6 ∷ []

-- the command with this code, or what else is said of it
abbrev pub or_code : {X : Type 0} → List ℕ → List ℕ → X → Option X → Option X
or_code frame code kind other = if bytes_eq frame code then Some kind else other

abbrev pub worker_kind_one : List ℕ → Option WorkerKind
worker_kind_one frame = or_code frame (1 ∷ []) Ready (or_code frame (3 ∷ []) (Reply true) (or_code frame (4 ∷ []) Heartbeat (or_code frame (5 ∷ []) Disconnect None)))

abbrev pub worker_kind_two : List ℕ → Option WorkerKind
worker_kind_two frame =
    or_code frame (1 ∷ []) Ready (or_code frame (3 ∷ []) (Reply false) (or_code frame (4 ∷ []) (Reply true) (or_code frame (5 ∷ []) Heartbeat (or_code frame (6 ∷ []) Disconnect None))))

abbrev pub worker_kind : Version → List ℕ → Option WorkerKind
worker_kind One frame = worker_kind_one frame
worker_kind Two frame = worker_kind_two frame

abbrev pub order_kind : Version → List ℕ → Option OrderKind
order_kind version frame =
    or_code frame (2 ∷ []) order.Request
    (or_code frame (order_code version order.Heartbeat) order.Heartbeat (or_code frame (order_code version order.Disconnect) order.Disconnect None))
