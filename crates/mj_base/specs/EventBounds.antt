-- Which events a broker may be given.
use Rattle.std.specs.Prelude.{ℕ, ◌<◌, ◌≤◌, ⊤, length}
use Rattle.mj_base.specs.declared.event.Event.{Event}
use Rattle.mj_base.specs.declared.event.Event.TheVariants.{Open, Bytes, Sent, Close, Tick, Stop}

-- a lane that there is, 1 to 65,536 bytes, a tick of at most 10^15 ms
abbrev pub IsWithin : ℕ → Event → Type 0
IsWithin lanes (Open lane) = lane < lanes
IsWithin lanes (Bytes lane piece) = (lane < lanes) × (0 < length piece) × (length piece ≤ 65536)
IsWithin lanes (Sent lane) = lane < lanes
IsWithin lanes (Close lane) = lane < lanes
IsWithin lanes (Tick ms) = ms ≤ 1000000000000000
IsWithin lanes Stop = ⊤

-- the same without the end, which no broker takes
abbrev pub IsTakenBy : ℕ → Event → Type 0
IsTakenBy lanes (Open lane) = lane < lanes
IsTakenBy lanes (Bytes lane piece) = (lane < lanes) × (0 < length piece) × (length piece ≤ 65536)
IsTakenBy lanes (Sent lane) = lane < lanes
IsTakenBy lanes (Close lane) = lane < lanes
IsTakenBy lanes (Tick ms) = ms ≤ 1000000000000000
IsTakenBy lanes Stop = ⊥
