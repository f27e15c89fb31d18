-- Connections by their number and by their lane, and one of them changed.
use Rattle.std.specs.Prelude.{ℕ, ◌==◌, Bool, true, false, List, [], ◌∷◌, Option, None, Some, if◌then◌else◌}
use Rattle.std.specs.Option.{option_map}
use Rattle.std.specs.List.{find}
use Rattle.mj_base.specs.declared.version.Version.TheVariants.{One}
use Rattle.mj_machine.specs.declared.connection.Connection.{Connection}
use Rattle.mj_machine.specs.declared.connection.Registration.{Registration}
use Rattle.mj_machine.specs.declared.connection.Role.{Role}
use Rattle.mj_machine.specs.declared.connection.Voice.{Voice}
use Rattle.mj_machine.specs.declared.connection.Role.TheVariants.{Fresh, Client, Worker, Gone}

abbrev pub connection_of : ℕ → List Connection → Option Connection
connection_of n connections = find (λ c. c.number == n) connections

abbrev pub connection_on : ℕ → List Connection → Option Connection
connection_on lane connections = find (λ c. c.lane == lane) connections

-- the number of the lane's connection
abbrev pub number_on : ℕ → List Connection → Option ℕ
number_on lane connections = option_map (λ c. c.number) (connection_on lane connections)

-- the first connection of this number changed
abbrev pub changed : ℕ → (Connection → Connection) → List Connection → List Connection
changed n f [] = []
changed n f (c ∷ cs) = if c.number == n then f c ∷ cs else c ∷ changed n f cs

abbrev pub with_role : Role → Connection → Connection
with_role role c = record c { role = role }

-- a worker was heard at this moment
abbrev pub heard : ℕ → Role → Role
heard now Fresh = Fresh
heard now Client = Client
heard now (Worker r) = Worker (record r { mark = now })
heard now Gone = Gone

-- a worker was spoken to at this moment
abbrev pub spoken_to : ℕ → Role → Role
spoken_to now Fresh = Fresh
spoken_to now Client = Client
spoken_to now (Worker r) = Worker (record r { spoken = now })
spoken_to now Gone = Gone

abbrev pub worker_voice : Registration → Voice
worker_voice r = record { version = r.version; lead = r.lead }

-- a worker is spoken to in its version and form, all others in that of 0.1
abbrev pub role_voice : Role → Voice
role_voice Fresh = record { version = One; lead = true }
role_voice Client = record { version = One; lead = true }
role_voice (Worker r) = worker_voice r
role_voice Gone = record { version = One; lead = true }

abbrev pub voice_of : Option Connection → Voice
voice_of None = record { version = One; lead = true }
voice_of (Some c) = role_voice c.role

abbrev pub is_client_role : Role → Bool
is_client_role Fresh = false
is_client_role Client = true
is_client_role (Worker r) = false
is_client_role Gone = false

-- the connection is there and has asked
abbrev pub is_asking : Option Connection → Bool
is_asking None = false
is_asking (Some c) = is_client_role c.role

abbrev pub service_in : Role → Option (List ℕ)
service_in Fresh = None
service_in Client = None
service_in (Worker r) = Some r.service
service_in Gone = None

-- the service of a connection that is a worker
abbrev pub service_of : Option Connection → Option (List ℕ)
service_of None = None
service_of (Some c) = service_in c.role
