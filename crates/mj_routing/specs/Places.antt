-- A connection's place in a list, and what is looked up there.
use Rattle.std.specs.Prelude.{ℕ, ◌≡◌, ◌+◌, ◌<◌, ◌^◌, ⊤, Bool, true, false, List, sum, slice_get, slice_set, remove, Option, None, Some}
use Rattle.mj_base.specs.declared.limits.Limits.{Limits}
use Rattle.mj_machine.specs.declared.connection.Connection.{Connection}
use Rattle.mj_machine.specs.declared.connection.Role.{Role}
use Rattle.mj_machine.specs.declared.connection.Role.TheVariants.{Fresh, Client, Worker, Gone}
use Rattle.mj_machine.specs.Connections.{changed, connection_of}
use Rattle.mj_machine.specs.Leaving.{connections_without}
use Rattle.mj_machine.specs.Sending.{is_slow}
use Rattle.mj_machine.specs.TickStep.{is_unspoken, numbers}
use Rattle.std.specs.List.{filter}
use Rattle.mj_routing.specs.declared.connections.Standing.{Standing}
use Rattle.mj_routing.specs.declared.connections.Verdict.{Verdict}
use Rattle.mj_routing.specs.declared.connections.Verdict.TheVariants.{Nobody, Sends, Slow}

pub record IsPlaceOf (n : ℕ) (connections : List Connection) (at : ℕ) (c : Connection) : Type 0 where
  pub here : slice_get connections at ≡ Some c
  pub found : connection_of n connections ≡ Some c
  pub changed_is : (f : Connection → Connection) → changed n f connections ≡ slice_set connections at (f c)
  pub without_is : connections_without n connections ≡ remove connections at

pub record IsNowhere (n : ℕ) (connections : List Connection) : Type 0 where
  pub none : connection_of n connections ≡ None
  pub same : (f : Connection → Connection) → changed n f connections ≡ connections
  pub whole : connections_without n connections ≡ connections

-- the place of the connection of this number, or None where there is none
abbrev pub IsPlace : ℕ → List Connection → Option ℕ → Type 0
IsPlace n connections None = IsNowhere n connections
IsPlace n connections (Some at) = (c : Connection) × IsPlaceOf n connections at c

abbrev pub standing_of : Option Connection → Option Standing
standing_of None = None
standing_of (Some c) = Some (record { lane = c.lane; role = c.role })

abbrev pub verdict_if : Bool → Connection → Verdict
verdict_if true c = Slow c.lane (sum c.outstanding)
verdict_if false c = Sends c.lane

-- whether so many bytes more may be sent
abbrev pub verdict_of : Limits → ℕ → Option Connection → Verdict
verdict_of limits octets None = Nobody
verdict_of limits octets (Some c) = verdict_if (is_slow limits c octets) c

abbrev pub IsSending : Verdict → Type 0
IsSending Nobody = ⊥
IsSending (Sends lane) = ⊤
IsSending (Slow lane total) = ⊥

-- the sum of what is on its way stays a number that is kept
abbrev pub IsRoomFor : ℕ → Option Connection → Type 0
IsRoomFor octets None = ⊤
IsRoomFor octets (Some c) = sum c.outstanding + octets < 2 ^ 64

abbrev pub role_mark : Role → Option ℕ
role_mark Fresh = None
role_mark Client = None
role_mark (Worker r) = Some r.mark
role_mark Gone = None

-- the mark of a worker
abbrev pub mark_in : Option Connection → Option ℕ
mark_in None = None
mark_in (Some c) = role_mark c.role

-- the workers to which nothing was sent for an interval
abbrev pub silent_in : Limits → ℕ → List Connection → List ℕ
silent_in limits now connections = numbers (filter (λ c. is_unspoken limits now c.role) connections)
