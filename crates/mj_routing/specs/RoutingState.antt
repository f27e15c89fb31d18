-- What the broker's lists stand for, and what holds of them between two calls.
use Rattle.std.specs.Prelude.{ℕ, ◌≡◌, ◌≤◌, List, [], ◌++◌, map, Option, None, Some}
use Rattle.std.specs.FinMap.{FinMap}
use Rattle.std.specs.Ordering.{nat_cmp}
use Rattle.mj_base.specs.declared.event.Out.{Out}
use Rattle.mj_base.specs.declared.limits.Limits.{Limits}
use Rattle.mj_queue.specs.HallState.{HallState}
use Rattle.mj_queue.specs.Settling.{Pair, pair}
use Rattle.mj_machine.specs.declared.connection.Connection.{Connection}
use Rattle.mj_machine.specs.declared.held.Held.{Held}
use Rattle.mj_machine.specs.MachineState.{State}
use Rattle.mj_machine.specs.Acts.{Doing}
use Rattle.mj_machine.specs.Connections.{connection_of, voice_of}
use Rattle.mj_machine.specs.Pairing.{handed}
use Rattle.mj_machine.specs.MessageStep.{busy_of}
use Rattle.mj_machine.specs.TickStep.{at_moment, due_numbers, silent_numbers}
use Rattle.mj_routing.specs.Deadlines.{LeasesStand}
use Rattle.mj_routing.specs.Holding.{IsOnceEach}
use Rattle.mj_routing.specs.Lanes.{AreRising}
use Rattle.mj_routing.specs.declared.routing.Handed.{Handed}

-- the machine's state that these lists are
abbrev pub seen : Limits → ℕ → ℕ → List Connection → HallState → List Held → State
seen limits moment next connections hall held = record {
  limits = limits;
  now = moment;
  next = next;
  connections = connections;
  waiting = hall.waiting;
  held = held;
  queue = hall.requests;
}

-- the hall's busy workers are those that hold, and no worker waits or holds twice; the connections stand by rising
-- number, below the next one; and the table of deadlines stands for the workers' marks
pub record AreKept (limits : Limits) (moment next : ℕ) (connections : List Connection) (hall : HallState) (held : List Held) (leases : FinMap nat_cmp ℕ) : Type 0 where
  pub limited : hall.limits ≡ limits
  pub busy : hall.busy ≡ map busy_of held
  pub once : IsOnceEach hall.waiting held
  pub rising : AreRising next connections
  pub deadlines : LeasesStand limits connections held leases
  pub clock : moment ≤ 1000000000000000

-- an act was done: the state after it, and what it added
pub record Does {S : Type 0} (now : S) (before after : List Out) (act : Doing S Out) : Type 0 where
  pub state : now ≡ act.0
  pub outs : after ≡ before ++ act.1

abbrev pub handed_of : Pair → State → Handed
handed_of p s = record { worker = p.waiter.worker; voice = voice_of (connection_of p.waiter.worker s.connections); origin = p.request.origin; body = p.request.body }

-- the first pair was handed over, or there is none
abbrev pub HandsOver : State → State → Option Handed → Type 0
HandsOver old now None = (pair old.waiting old.queue ≡ None) × (now ≡ old)
HandsOver old now (Some given) = (p : Pair) × (pair old.waiting old.queue ≡ Some p) × (now ≡ handed p old) × (given ≡ handed_of p old)

-- there is a first pair, and this holds of it
abbrev pub Gives : State → (Pair → Type 0) → Type 0
Gives s P = (p : Pair) × (pair s.waiting s.queue ≡ Some p) × P p

-- of an act in parts: what was done so far and what is left are the whole
pub record Goes {S : Type 0} (whole left : Doing S Out) (before now : List Out) : Type 0 where
  pub state : left.0 ≡ whole.0
  pub outs : now ++ left.1 ≡ before ++ whole.1

-- a tick to this moment ends no lease, and no heartbeat is due then
abbrev pub IsIdleAt : ℕ → State → Type 0
IsIdleAt ms s = (due_numbers (at_moment ms s) ≡ []) × (silent_numbers (at_moment ms s) ≡ [])
