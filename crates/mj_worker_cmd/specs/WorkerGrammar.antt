-- What workers and the broker say to each other, and as which frames: 0.1 as in ZeroMQ RFC 7 (Majordomo/Worker), 0.2
-- by this project's profile after ZeroMQ RFC 18. There the first empty frame may be left out.
use Rattle.std.specs.Prelude.{ℕ, ◌≡◌, Bool, true, false, IsTrue, ⊤, List, [], ◌∷◌, codes}
use Rattle.mj_base.specs.ServiceName.{is_service_name}
use Rattle.mj_base.specs.declared.version.Version.{Version}
use Rattle.mj_base.specs.declared.version.Version.TheVariants.{One, Two}
use Rattle.mj_worker_cmd.specs.declared.command.WorkerCmd.{WorkerCmd}
use Rattle.mj_worker_cmd.specs.declared.command.WorkerAct.{WorkerAct}
use Rattle.mj_worker_cmd.specs.declared.command.WorkerAct.TheVariants.{Ready, Reply, Heartbeat, Disconnect}
use Rattle.mj_worker_cmd.specs.declared.command.Order.{Order}
use Rattle.mj_worker_cmd.specs.declared.command.OrderAct.{OrderAct}
use Rattle.mj_worker_cmd.specs.declared.command.OrderAct.TheVariants as order

-- the frames of a worker's command: version, whether the empty frame stands first, the command
abbrev pub IsWorkerRow : Version → Bool → WorkerAct → List (List ℕ) → Type 0
IsWorkerRow One true (Ready service) message = IsTrue (is_service_name service) × (message ≡ [] ∷ codes "MDPW01" ∷ (1 ∷ []) ∷ service ∷ [])
IsWorkerRow One true (Reply false address body) message = ⊥
IsWorkerRow One true (Reply true address body) message = message ≡ [] ∷ codes "MDPW01" ∷ (3 ∷ []) ∷ address ∷ [] ∷ body
IsWorkerRow One true Heartbeat message = message ≡ [] ∷ codes "MDPW01" ∷ (4 ∷ []) ∷ []
IsWorkerRow One true Disconnect message = message ≡ [] ∷ codes "MDPW01" ∷ (5 ∷ []) ∷ []
IsWorkerRow One false act message = ⊥
IsWorkerRow Two true (Ready service) message = IsTrue (is_service_name service) × (message ≡ [] ∷ codes "MDPW02" ∷ (1 ∷ []) ∷ service ∷ [])
IsWorkerRow Two true (Reply false address body) message = message ≡ [] ∷ codes "MDPW02" ∷ (3 ∷ []) ∷ address ∷ [] ∷ body
IsWorkerRow Two true (Reply true address body) message = message ≡ [] ∷ codes "MDPW02" ∷ (4 ∷ []) ∷ address ∷ [] ∷ body
IsWorkerRow Two true Heartbeat message = message ≡ [] ∷ codes "MDPW02" ∷ (5 ∷ []) ∷ []
IsWorkerRow Two true Disconnect message = message ≡ [] ∷ codes "MDPW02" ∷ (6 ∷ []) ∷ []
IsWorkerRow Two false (Ready service) message = IsTrue (is_service_name service) × (message ≡ codes "MDPW02" ∷ (1 ∷ []) ∷ service ∷ [])
IsWorkerRow Two false (Reply false address body) message = message ≡ codes "MDPW02" ∷ (3 ∷ []) ∷ address ∷ [] ∷ body
IsWorkerRow Two false (Reply true address body) message = message ≡ codes "MDPW02" ∷ (4 ∷ []) ∷ address ∷ [] ∷ body
IsWorkerRow Two false Heartbeat message = message ≡ codes "MDPW02" ∷ (5 ∷ []) ∷ []
IsWorkerRow Two false Disconnect message = message ≡ codes "MDPW02" ∷ (6 ∷ []) ∷ []

-- the message is this worker's command
pub record IsWorkerCommand (cmd : WorkerCmd) (message : List (List ℕ)) : Type 0 where
  pub row : IsWorkerRow cmd.version cmd.lead cmd.act message

-- the frames of a broker's command to a worker
abbrev pub IsOrderRow : Version → Bool → OrderAct → List (List ℕ) → Type 0
IsOrderRow One true (order.Request address body) message = message ≡ [] ∷ codes "MDPW01" ∷ (2 ∷ []) ∷ address ∷ [] ∷ body
IsOrderRow One true order.Heartbeat message = message ≡ [] ∷ codes "MDPW01" ∷ (4 ∷ []) ∷ []
IsOrderRow One true order.Disconnect message = message ≡ [] ∷ codes "MDPW01" ∷ (5 ∷ []) ∷ []
IsOrderRow One false act message = ⊥
IsOrderRow Two true (order.Request address body) message = message ≡ [] ∷ codes "MDPW02" ∷ (2 ∷ []) ∷ address ∷ [] ∷ body
IsOrderRow Two true order.Heartbeat message = message ≡ [] ∷ codes "MDPW02" ∷ (5 ∷ []) ∷ []
IsOrderRow Two true order.Disconnect message = message ≡ [] ∷ codes "MDPW02" ∷ (6 ∷ []) ∷ []
IsOrderRow Two false (order.Request address body) message = message ≡ codes "MDPW02" ∷ (2 ∷ []) ∷ address ∷ [] ∷ body
IsOrderRow Two false order.Heartbeat message = message ≡ codes "MDPW02" ∷ (5 ∷ []) ∷ []
IsOrderRow Two false order.Disconnect message = message ≡ codes "MDPW02" ∷ (6 ∷ []) ∷ []

-- the message is this command of the broker
pub record IsOrder (cmd : Order) (message : List (List ℕ)) : Type 0 where
  pub row : IsOrderRow cmd.version cmd.lead cmd.act message

-- in 0.1 the empty frame stands first
abbrev pub IsLed : Version → Bool → Type 0
IsLed One lead = IsTrue lead
IsLed Two lead = ⊤

-- and each reply is the last
abbrev pub IsSpoken : Version → Bool → WorkerAct → Type 0
IsSpoken One lead (Ready service) = IsTrue lead
IsSpoken One lead (Reply last address body) = IsTrue lead × IsTrue last
IsSpoken One lead Heartbeat = IsTrue lead
IsSpoken One lead Disconnect = IsTrue lead
IsSpoken Two lead act = ⊤

-- the service of a READY is a service name
abbrev pub IsActNamed : WorkerAct → Type 0
IsActNamed (Ready service) = IsTrue (is_service_name service)
IsActNamed (Reply last address body) = ⊤
IsActNamed Heartbeat = ⊤
IsActNamed Disconnect = ⊤
