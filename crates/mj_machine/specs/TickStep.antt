-- What the passing of time does: leases end, and heartbeats are sent (the guide, chapter 4).
use Rattle.std.specs.Prelude.{ℕ, ◌+◌, ◌==◌, nat_le, Bool, false, List, [], ◌∷◌, map, Option, None, Some, max, if◌then◌else◌}
use Rattle.std.specs.List.{filter, list_any}
use Rattle.mj_base.specs.declared.event.Out.{Out}
use Rattle.mj_base.specs.declared.limits.Limits.{Limits}
use Rattle.mj_worker_cmd.specs.declared.command.OrderAct.TheVariants as order
use Rattle.mj_machine.specs.declared.connection.Connection.{Connection}
use Rattle.mj_machine.specs.declared.connection.Role.{Role}
use Rattle.mj_machine.specs.declared.connection.Role.TheVariants.{Fresh, Client, Worker, Gone}
use Rattle.mj_machine.specs.declared.held.Held.{Held}
use Rattle.mj_machine.specs.StoreState.{Told}
use Rattle.mj_machine.specs.MachineState.{Done, State}
use Rattle.mj_machine.specs.Connections.{connection_of, voice_of}
use Rattle.mj_machine.specs.Acts.{each}
use Rattle.mj_machine.specs.Leaving.{becomes, left}
use Rattle.mj_machine.specs.Sending.{order_text, sends}

abbrev pub is_holding : ℕ → List Held → Bool
is_holding n held = list_any (λ h. h.worker == n) held

-- a worker's lease, from its mark on: a longer one while it holds a request
abbrev pub lease_of : Limits → List Held → ℕ → ℕ
lease_of limits held n = if is_holding n held then limits.busy_lease else limits.lease

-- the moment at which a worker's lease ends
abbrev pub deadline_of : Limits → List Held → ℕ → Role → Option ℕ
deadline_of limits held n Fresh = None
deadline_of limits held n Client = None
deadline_of limits held n (Worker r) = Some (r.mark + lease_of limits held n)
deadline_of limits held n Gone = None

abbrev pub has_passed : ℕ → Option ℕ → Bool
has_passed now None = false
has_passed now (Some deadline) = nat_le deadline now

abbrev pub is_due : State → Connection → Bool
is_due s c = has_passed s.now (deadline_of s.limits s.held c.number c.role)

abbrev pub numbers : List Connection → List ℕ
numbers connections = map (λ c. c.number) connections

-- the workers whose lease has ended, by number
abbrev pub due_numbers : State → List ℕ
due_numbers s = numbers (filter (is_due s) s.connections)

-- it leaves, and may register anew; it is told nothing
abbrev pub expires : ℕ → Told → State → State
expires n told s = becomes n Fresh (left n told s)

abbrev pub all_expire : List ℕ → Told → State → State
all_expire [] told s = s
all_expire (n ∷ ns) told s = all_expire ns told (expires n told s)

-- nothing was sent to this worker for an interval
abbrev pub is_unspoken : Limits → ℕ → Role → Bool
is_unspoken limits now Fresh = false
is_unspoken limits now Client = false
is_unspoken limits now (Worker r) = nat_le (r.spoken + limits.interval) now
is_unspoken limits now Gone = false

-- the workers to which nothing was sent for an interval, by number
abbrev pub silent_numbers : State → List ℕ
silent_numbers s = numbers (filter (λ c. is_unspoken s.limits s.now c.role) s.connections)

abbrev pub beats : ℕ → Told → State → Done Out
beats n told s = sends n (order_text (voice_of (connection_of n s.connections)) order.Heartbeat) told s

abbrev pub at_moment : ℕ → State → State
at_moment ms s = record s { now = max s.now ms }

-- all leases end before the first heartbeat
abbrev pub leases_end : Told → State → State
leases_end told s = all_expire (due_numbers s) told s

abbrev pub all_beat : Told → State → Done Out
all_beat told s = each (λ n t. beats n told t) (silent_numbers s) s

abbrev pub ticks : ℕ → Told → State → Done Out
ticks ms told s = all_beat told (leases_end told (at_moment ms s))
