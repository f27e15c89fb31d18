-- Where the generated load stands, and what is still to come of it.
use Rattle.std.specs.Prelude.{ℕ, ◌≡◌, ◌+◌, ◌-◌, ◌≤◌, Bool, true, ◌&&◌, nat_eq, nat_le, List, [], ◌∷◌, ◌++◌, map, flat_map, drop, nat_lt, if◌then◌else◌}
use Rattle.std.specs.List.{range_with_len}
use Rattle.mj_base.specs.declared.event.Event.{Event}
use Rattle.mj_base.specs.declared.event.Event.TheVariants as events
use Rattle.mj_gen.specs.Generated.{answering, asker, asking, below, filing, hello, joining, replying, server, serving, storing, tickets}
use Rattle.mj_gen.specs.declared.load.Turn.{Turn}
use Rattle.mj_gen.specs.declared.load.Turn.TheVariants.{Open, Hello, Greeted, Shaken, Ask, Serve, Taken, Reply, Answered, File, Filed, Over}

-- the event of a turn, of the lane, the request, the worker or the ticket of this number
abbrev pub event_of : Turn → ℕ → Event
event_of Open lane = events.Open lane
event_of Hello lane = events.Bytes lane hello
event_of Greeted lane = events.Sent lane
event_of Shaken lane = events.Sent lane
event_of Ask i = asking i
event_of Serve w = serving w
event_of Taken i = events.Sent (server i)
event_of Reply i = replying i
event_of Answered i = events.Sent (asker i)
event_of File j = filing j
event_of Filed j = events.Sent 4
event_of Over number = events.Stop

-- there is such a turn in a load of N requests
abbrev pub is_turn : ℕ → Bool → Turn → ℕ → Bool
is_turn n stored Open lane = nat_lt lane 8
is_turn n stored Hello lane = nat_lt lane 8
is_turn n stored Greeted lane = nat_lt lane 8
is_turn n stored Shaken lane = nat_lt lane 8
is_turn n stored Ask i = nat_lt i n
is_turn n stored Serve w = nat_lt w 4
is_turn n stored Taken i = nat_lt i n
is_turn n stored Reply i = nat_lt i n
is_turn n stored Answered i = nat_lt i n
is_turn n stored File j = nat_le 1 j && nat_le j (tickets n stored)
is_turn n stored Filed j = nat_le 1 j && nat_le j (tickets n stored)
is_turn n stored Over number = nat_eq number 0

-- a load is of 1 to 60,000 requests
pub record IsPlace (n : ℕ) (stored : Bool) (turn : Turn) (number : ℕ) : Type 0 where
  pub some : 1 ≤ n
  pub few : n ≤ 60000
  pub turn_is : is_turn n stored turn number ≡ true

-- the same turn of the next number below the end, or the other turn of the first
abbrev pub next_of : ℕ → Turn → Turn → ℕ → Turn × ℕ
next_of end same other number = if nat_lt (number + 1) end then (same, number + 1) else (other, 0)

abbrev pub first_ticket : Bool → Turn × ℕ
first_ticket stored = if stored then (File, 1) else (Over, 0)

-- ---- what is to come

-- the numbers from this one on, below that one
abbrev pub from_to : ℕ → ℕ → List ℕ
from_to first end = range_with_len first (end - first)

module _ (n : ℕ) (stored : Bool) where
  abbrev pub all_tickets : List Event
  all_tickets = flat_map storing (range_with_len 1 (tickets n stored))

  abbrev pub all_answers : List Event
  all_answers = flat_map answering (below n) ++ all_tickets

  abbrev pub all_workers : List Event
  all_workers = map serving (below 4) ++ all_answers

  abbrev pub all_requests : List Event
  all_requests = map asking (below n) ++ all_workers

  abbrev pub behind_join : ℕ → List Event
  behind_join lane = flat_map joining (from_to (lane + 1) 8) ++ all_requests

  abbrev pub behind_answer : ℕ → List Event
  behind_answer i = flat_map answering (from_to (i + 1) n) ++ all_tickets

  abbrev pub behind_ticket : ℕ → List Event
  behind_ticket j = flat_map storing (from_to (j + 1) (tickets n stored + 1))

  -- from this turn on
  abbrev pub to_come : Turn → ℕ → List Event
  to_come Open lane = joining lane ++ behind_join lane
  to_come Hello lane = drop 1 (joining lane) ++ behind_join lane
  to_come Greeted lane = drop 2 (joining lane) ++ behind_join lane
  to_come Shaken lane = drop 3 (joining lane) ++ behind_join lane
  to_come Ask i = asking i ∷ (map asking (from_to (i + 1) n) ++ all_workers)
  to_come Serve w = serving w ∷ (map serving (from_to (w + 1) 4) ++ all_answers)
  to_come Taken i = answering i ++ behind_answer i
  to_come Reply i = drop 1 (answering i) ++ behind_answer i
  to_come Answered i = drop 2 (answering i) ++ behind_answer i
  to_come File j = storing j ++ behind_ticket j
  to_come Filed j = drop 1 (storing j) ++ behind_ticket j
  to_come Over number = []

  -- the next turn, and its number
  abbrev pub turn_behind : Turn → ℕ → Turn × ℕ
  turn_behind Open lane = (Hello, lane)
  turn_behind Hello lane = (Greeted, lane)
  turn_behind Greeted lane = (Shaken, lane)
  turn_behind Shaken lane = next_of 8 Open Ask lane
  turn_behind Ask i = next_of n Ask Serve i
  turn_behind Serve w = next_of 4 Serve Taken w
  turn_behind Taken i = (Reply, i)
  turn_behind Reply i = (Answered, i)
  turn_behind Answered i = if nat_lt (i + 1) n then (Taken, i + 1) else first_ticket stored
  turn_behind File j = (Filed, j)
  turn_behind Filed j = if nat_lt j (tickets n stored) then (File, j + 1) else (Over, 0)
  turn_behind Over number = (Over, 0)
