-- Who sends what into the inbox.
use Rattle.std.specs.Prelude.{◌≡◌, ℕ, ◌+◌, ◌*◌, ◌<◌, ◌≤◌, ⊤, length}
use Rattle.mj_base.specs.declared.event.Event.{Event}
use Rattle.mj_base.specs.declared.event.Event.TheVariants.{Open, Bytes, Sent, Close, Tick, Stop}

-- the numbers of the senders: the ticker, and the reader and the writer of each lane
abbrev pub ticker : ℕ
ticker = 0

abbrev pub reader : ℕ → ℕ
reader lane = 2 * lane + 1

abbrev pub writer : ℕ → ℕ
writer lane = 2 * lane + 2

-- a lane's reader sends what comes of its peer, its writer what has left, and the ticker the time and the end
abbrev pub sender_of : Event → ℕ
sender_of (Open lane) = reader lane
sender_of (Bytes lane piece) = reader lane
sender_of (Sent lane) = writer lane
sender_of (Close lane) = reader lane
sender_of (Tick ms) = ticker
sender_of Stop = ticker

-- a piece has 1 to 65,536 bytes, and a tick is at most 10^15 ms
abbrev pub IsSized : Event → Type 0
IsSized (Open lane) = ⊤
IsSized (Bytes lane piece) = (0 < length piece) × (length piece ≤ 65536)
IsSized (Sent lane) = ⊤
IsSized (Close lane) = ⊤
IsSized (Tick ms) = ms ≤ 1000000000000000
IsSized Stop = ⊤

-- what the reader of a lane may send
abbrev pub IsOfReader : ℕ → Event → Type 0
IsOfReader lane (Open at) = at ≡ lane
IsOfReader lane (Bytes at piece) = (at ≡ lane) × (0 < length piece) × (length piece ≤ 65536)
IsOfReader lane (Sent at) = ⊥
IsOfReader lane (Close at) = at ≡ lane
IsOfReader lane (Tick ms) = ⊥
IsOfReader lane Stop = ⊥
