use Rattle.std.proofs.Common.{◌≤◌, ◌-◌, length, drop}
use Rattle.mj_wire.specs.WireState.{IsReadTo}
use Rattle.mj_wire.specs.KeptByWire.{Weighs}
use Rattle.mj_wire.proofs.read.read_all.Given as goal

-- so many bytes are read, and what that makes of what is kept
abbrev pub invariant-loop-step : goal.invariant-loop-step
invariant-loop-step l =
    ((l.used ≤ length l.octets) × IsReadTo l.limits l.fn.place l.octets l.fn.items.items l.place (drop l.used l.octets) l.items.items)
    × Weighs l.limits l.fn.place l.fn.items.items l.place l.items.items l.used

abbrev pub decreases-loop-step : goal.decreases-loop-step
decreases-loop-step l = length l.octets - l.used
