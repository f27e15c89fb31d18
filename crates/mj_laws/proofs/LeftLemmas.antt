-- Who has left: what stands at its number, and that it is no worker.
use Rattle.std.proofs.Common.{◌≡◌, ℕ, true, List, Option, None, Some, refl, ap, ◌∙◌}
use Rattle.std.specs.Option.{option_map}
use Rattle.mj_machine.specs.declared.connection.Connection.{Connection}
use Rattle.mj_machine.specs.declared.connection.Role.{Role}
use Rattle.mj_machine.specs.declared.connection.Role.TheVariants.{Fresh, Client, Worker, Gone}
use Rattle.mj_machine.specs.Connections.{changed, connection_of, heard, service_in, service_of, spoken_to, with_role}
use Rattle.mj_machine.proofs.ConnectionLemmas.{changed-same}
use Rattle.mj_laws.specs.Requests.{has_left, is_gone}

pub heard-gone : (now : ℕ) (role : Role) → is_gone (heard now role) ≡ is_gone role
heard-gone now Fresh = refl
heard-gone now Client = refl
heard-gone now (Worker r) = refl
heard-gone now Gone = refl

pub spoken-gone : (now : ℕ) (role : Role) → is_gone (spoken_to now role) ≡ is_gone role
spoken-gone now Fresh = refl
spoken-gone now Client = refl
spoken-gone now (Worker r) = refl
spoken-gone now Gone = refl

-- who has left is no worker
pub left-idle : (o : Option Connection) → has_left o ≡ true → service_of o ≡ None
left-idle None gone = refl
left-idle (Some c) gone = by c.role gone
  where
    by : (role : Role) → is_gone role ≡ true → service_in role ≡ None
    by Fresh gone = refl
    by Client gone = refl
    by (Worker r) gone = absurd (cc gone)
    by Gone gone = refl

-- a connection that was passed over has left
pub left-given : (n : ℕ) (cs : List Connection) → has_left (connection_of n (changed n (with_role Gone) cs)) ≡ true
left-given n cs = ap has_left (changed-same n (with_role Gone) (λ d. refl) cs) ∙ by (connection_of n cs)
  where
    by : (o : Option Connection) → has_left (option_map (with_role Gone) o) ≡ true
    by None = refl
    by (Some c) = refl
