-- Which request goes to which worker, until no queued request has a waiting worker (the guide, chapter 4).
use Rattle.std.specs.Prelude.{ℕ, zero, suc, List, [], ◌∷◌, ◌++◌, length, Option, None, Some}
use Rattle.mj_base.specs.declared.event.Out.{Out}
use Rattle.mj_queue.specs.declared.request.Origin.{Origin}
use Rattle.mj_queue.specs.declared.request.Origin.TheVariants as origins
use Rattle.mj_queue.specs.declared.request.Request.{Request}
use Rattle.mj_queue.specs.Settling.{Pair, pair, without_worker}
use Rattle.mj_worker_cmd.specs.declared.command.OrderAct.TheVariants as order
use Rattle.mj_machine.specs.declared.connection.Connection.{Connection}
use Rattle.mj_machine.specs.declared.connection.Voice.{Voice}
use Rattle.mj_machine.specs.declared.held.Held.{Held}
use Rattle.mj_machine.specs.StoreState.{Store, Told, ticket_body}
use Rattle.mj_machine.specs.MachineState.{Act, Done, State}
use Rattle.mj_machine.specs.Connections.{changed, connection_of, heard, voice_of}
use Rattle.mj_machine.specs.Acts.{quiet, ◌then◌}
use Rattle.mj_machine.specs.Leaving.{held_without}
use Rattle.mj_machine.specs.Sending.{address, order_text, sends}
use Rattle.mj_machine.specs.DiskActs.{reading, routes}

-- a worker was heard now
abbrev pub mark_set : ℕ → Connection → Connection
mark_set now c = record c { role = heard now c.role }

abbrev pub marks : ℕ → State → State
marks n s = record s { connections = changed n (mark_set s.now) s.connections }

-- a worker stands last among those that wait, and holds nothing
abbrev pub waits : ℕ → List ℕ → State → State
waits n service s = record s {
  held = held_without n s.held;
  waiting = without_worker n s.waiting ++ record { worker = n; service = service } ∷ [];
}

abbrev pub with_body : List (List ℕ) → Request → Request
with_body body request = record request { body = body }

abbrev pub bodiless : Request → Request
bodiless request = with_body [] request

abbrev pub held_by_pair : Pair → Held
held_by_pair p = record { worker = p.waiter.worker; request = bodiless p.request }

-- the pair's request is its worker's, whose lease begins anew
abbrev pub handed : Pair → State → State
handed p s = marks p.waiter.worker (record s { waiting = p.waiting; queue = p.requests; held = s.held ++ held_by_pair p ∷ [] })

abbrev pub request_text : Voice → Request → List ℕ
request_text voice request = order_text voice (order.Request (address request.origin) request.body)

-- the body that is sent with a request: a ticket's is in the file
abbrev pub body_from : Origin → Request → Store → List (List ℕ)
body_from (origins.Client n) request store = request.body
body_from (origins.Ticket n) request store = ticket_body n store

abbrev pub body_for : Request → Store → List (List ℕ)
body_for request store = body_from request.origin request store

-- and is sent to it with this body
abbrev pub hands : List (List ℕ) → Pair → Told → State → Done Out
hands body p told s = sends p.waiter.worker (request_text (voice_of (connection_of p.waiter.worker s.connections)) (with_body body p.request)) told (handed p s)

-- the worker waits last, and its mark is as it was
abbrev pub passes : Pair → Told → State → Done Out
passes p told s = quiet (waits p.waiter.worker p.waiter.service s)

-- a ticket's body is read first; where that fails nothing is sent, and the store is shut
abbrev pub dispatched : Origin → Pair → Act
dispatched (origins.Client n) p w = routes (hands p.request.body p) w
dispatched (origins.Ticket n) p w = reading (routes (passes p)) (routes (hands (ticket_body n w.store) p)) w

abbrev pub dispatches : Option Pair → Act
dispatches None w = quiet w
dispatches (Some p) w = dispatched p.request.origin p w

-- at most so many pairs in a row
abbrev pub turns : ℕ → Act
turns zero w = quiet w
turns (suc n) w = dispatches (pair w.routing.waiting w.routing.queue) w then turns n

-- as long as there is a pair. Each takes a waiting worker, and only a reading that fails gives one back: then no ticket is
-- queued any more, so that it does so once
unfoldable pub settles : Act
settles w = turns (suc (length w.routing.waiting)) w
