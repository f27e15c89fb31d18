-- The table of deadlines, which stands for the marks of the workers.
use Rattle.std.specs.Prelude.{ℕ, ◌≡◌, ◌≢◌, ◌-◌, ◌^◌, min, List, Option, None, Some}
use Rattle.std.specs.Option.{option_map}
use Rattle.std.specs.FinMap as leases_by
use Rattle.std.specs.FinMap.{FinMap}
use Rattle.std.specs.Ordering.{nat_cmp}
use Rattle.mj_base.specs.declared.limits.Limits.{Limits}
use Rattle.mj_machine.specs.declared.connection.Connection.{Connection}
use Rattle.mj_machine.specs.declared.held.Held.{Held}
use Rattle.mj_machine.specs.Connections.{connection_of}
use Rattle.mj_machine.specs.TickStep.{deadline_of}

abbrev pub deadline_at : Limits → List Held → ℕ → Option Connection → Option ℕ
deadline_at limits held n None = None
deadline_at limits held n (Some c) = deadline_of limits held n c.role

-- the moment at which the lease of this number ends
abbrev pub deadline_on : Limits → List Connection → List Held → ℕ → Option ℕ
deadline_on limits connections held n = deadline_at limits held n (connection_of n connections)

-- moments that no clock reaches are one
abbrev pub kept : ℕ → ℕ
kept moment = min moment (2 ^ 64 - 1)

abbrev pub LeasesStand : Limits → List Connection → List Held → FinMap nat_cmp ℕ → Type 0
LeasesStand limits connections held leases = (n : ℕ) → leases_by.get leases n ≡ option_map kept (deadline_on limits connections held n)

-- the deadlines of all other numbers are as before
abbrev pub SameBut : ℕ → Limits → List Connection → List Held → List Connection → List Held → Type 0
SameBut n limits before held_before now held_now = (q : ℕ) → q ≢ n → deadline_on limits now held_now q ≡ deadline_on limits before held_before q
