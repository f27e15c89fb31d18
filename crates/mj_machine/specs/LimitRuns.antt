-- Worked runs of full queues, slow peers and settling, written out by hand.
use Rattle.std.specs.Prelude.{ℕ, true, List, [], ◌∷◌, ◌++◌, codes}
use Rattle.mj_base.specs.StandardLimits.{standard_limits}
use Rattle.mj_base.specs.declared.event.Out.TheVariants.{End}
use Rattle.mj_base.specs.declared.reason.Reason.TheVariants.{QueueFull, Slow}
use Rattle.mj_base.specs.declared.version.Version.TheVariants.{One}
use Rattle.mj_queue.specs.declared.request.Origin.TheVariants.{Ticket}
use Rattle.mj_tickets.specs.declared.command.TicketCmd.TheVariants.{Accept}
use Rattle.mj_machine.specs.declared.connection.Role.TheVariants.{Worker}
use Rattle.mj_machine.specs.StoreState.{opened_store}
use Rattle.mj_machine.specs.EventStep.{Closes, Reports, Ticks}
use Rattle.mj_machine.specs.MachineState.{Whole, entered, start_state}
use Rattle.mj_machine.specs.RunSpelling.{Gives, Goes, asking, code, hears, joins, ready, reply, request, says, who_serves, worker, ◌gives◌}
use Rattle.mj_machine.specs.StoreSpelling.{first_id, zeros}

-- ---- the queue

-- where one request may wait, the second one ends its asker, who is told how many wait, its own among them
abbrev pub QueuesFillByNumber : Type 0
QueuesFillByNumber = Gives (record standard_limits { queued = 1 }) (
    joins 0
    ∷ (says 0 (asking (codes "echo") (codes "a")) gives [])
    ∷ (says 0 (asking (codes "echo") (codes "b")) gives End 0 QueueFull 1 ∷ [])
    ∷ [])

-- a body of one byte weighs 33: two of them are 66
abbrev pub QueuesFillByWeight : Type 0
QueuesFillByWeight = Gives (record standard_limits { queued_weight = 66 }) (
    joins 0
    ∷ (says 0 (asking (codes "echo") (codes "a")) gives [])
    ∷ (says 0 (asking (codes "echo") (codes "b")) gives [])
    ∷ (says 0 ([] ∷ codes "MDPC01" ∷ codes "echo" ∷ []) gives [])
    ∷ (says 0 ([] ∷ codes "MDPC01" ∷ codes "echo" ∷ [] ∷ []) gives End 0 QueueFull 3 ∷ [])
    ∷ [])

-- and 65 is too little for two
abbrev pub QueuesFillByOneByte : Type 0
QueuesFillByOneByte = Gives (record standard_limits { queued_weight = 65 }) (
    joins 0
    ∷ (says 0 (asking (codes "echo") (codes "a")) gives [])
    ∷ (says 0 (asking (codes "echo") (codes "b")) gives End 0 QueueFull 1 ∷ [])
    ∷ [])

-- what a waiting worker gets at once needs no place in the queue
abbrev pub WaitingWorkersNeedNoQueue : Type 0
WaitingWorkersNeedNoQueue = Gives (record standard_limits { queued = 0 }) (
    joins 0
    ∷ joins 1
    ∷ (says 0 (ready (codes "echo")) gives [])
    ∷ (says 1 (asking (codes "echo") (codes "a")) gives hears 0 (request 2 (codes "a")))
    ∷ (says 1 (asking (codes "echo") (codes "b")) gives End 1 QueueFull 0 ∷ [])
    ∷ (says 0 (reply 2 (codes "A")) gives [])
    ∷ [])

-- ---- slow peers

-- greeting and READY are 94 bytes in two pieces; a third piece is one too many, until one is known to be sent
abbrev pub SlowPeersAreCutOff : Type 0
SlowPeersAreCutOff = Gives (record standard_limits { out_pieces = 2 }) (
    joins 0
    ∷ joins 1
    ∷ (Reports 0 gives [])
    ∷ (says 0 (who_serves (codes "echo")) gives hears 0 (code (codes "404")))
    ∷ (says 0 (who_serves (codes "echo")) gives End 0 Slow 58 ∷ [])
    ∷ (says 1 (who_serves (codes "echo")) gives End 1 Slow 94 ∷ [])
    ∷ [])

-- the answer to a question has 28 bytes: 122 are room for it
abbrev pub BytesOnTheWayAreCounted : Type 0
BytesOnTheWayAreCounted = Gives (record standard_limits { out_octets = 122 }) (
    joins 0
    ∷ (says 0 (who_serves (codes "echo")) gives hears 0 (code (codes "404")))
    ∷ (says 0 (who_serves (codes "echo")) gives End 0 Slow 122 ∷ [])
    ∷ [])

-- and 121 are not
abbrev pub BytesOnTheWayAreCountedOneByOne : Type 0
BytesOnTheWayAreCountedOneByOne = Gives (record standard_limits { out_octets = 121 }) (
    joins 0
    ∷ (says 0 (who_serves (codes "echo")) gives End 0 Slow 94 ∷ [])
    ∷ [])

-- a worker that is too slow for its request is cut off, and the request is lost
abbrev pub SlowWorkersLoseTheirRequest : Type 0
SlowWorkersLoseTheirRequest = Gives (record standard_limits { out_pieces = 2 }) (
    joins 0
    ∷ joins 1
    ∷ joins 2
    ∷ (says 0 (ready (codes "echo")) gives [])
    ∷ (Reports 1 gives [])
    ∷ (says 1 (asking (codes "echo") (codes "a")) gives End 0 Slow 94 ∷ [])
    ∷ (says 1 (who_serves (codes "echo")) gives hears 1 (code (codes "404")))
    ∷ (Reports 2 gives [])
    ∷ (says 2 (ready (codes "echo")) gives [])
    ∷ [])

-- ---- settling

-- a worker waits on lane 0 since moment 0 while the request of the file's one ticket is queued
abbrev pub unsettled : Whole
unsettled = entered (record (start_state standard_limits) {
  next = 2;
  connections = record { lane = 0; number = 1; role = Worker (record { version = One; lead = true; service = codes "echo"; mark = 0; spoken = 0 }); outstanding = [] } ∷ [];
  waiting = record { worker = 1; service = codes "echo" } ∷ [];
  queue = record { origin = Ticket 1; service = codes "echo"; version = One; lead = true; body = [] } ∷ [];
}) (opened_store zeros 1 (Accept first_id (codes "echo") (codes "hi" ∷ []) ∷ [])) []

-- the request of the first ticket
abbrev pub ticket_request : List (List ℕ)
ticket_request = worker ((2 ∷ []) ∷ (84 ∷ 0 ∷ 0 ∷ 0 ∷ 0 ∷ 0 ∷ 0 ∷ 0 ∷ 1 ∷ []) ∷ [] ∷ codes "hi" ∷ [])

-- settling comes last in every event, also in one that does nothing else
abbrev pub EveryEventSettles : Type 0
EveryEventSettles = Goes unsettled ((Ticks 1 gives hears 0 ticket_request) ∷ (Ticks 2501 gives hears 0 (worker ((4 ∷ []) ∷ []))) ∷ [])

-- and behind what the event does
abbrev pub SettlingComesLast : Type 0
SettlingComesLast = Goes unsettled ((Ticks 2500 gives hears 0 (worker ((4 ∷ []) ∷ [])) ++ hears 0 ticket_request) ∷ [])

-- what has gone isn't settled
abbrev pub TheGoneAreNotSettled : Type 0
TheGoneAreNotSettled = Goes unsettled ((Closes 0 gives []) ∷ (Ticks 1 gives []) ∷ [])
