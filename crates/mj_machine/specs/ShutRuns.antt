-- Worked runs with a store whose disk fails, written out by hand: a failed act costs the request that met it.
use Rattle.std.specs.Prelude.{true, false, [], ◌∷◌, ◌++◌, codes}
use Rattle.mj_base.specs.StandardLimits.{standard_limits}
use Rattle.mj_machine.specs.EventStep.{Closes, Ticks}
use Rattle.mj_machine.specs.RunSpelling.{GivesWith, asking, asking_with, code, hears, heartbeat, joins, ready, reply, request, says, who_serves, ◌gives◌}
use Rattle.mj_machine.specs.StoreSpelling.{again, fetch, fetch_code, fetched, finish, finish_code, first, order, over, second, serving, shut, submit, submit_code, submitted}

-- ---- an append fails

-- an accept that isn't found again costs its request alone
abbrev pub LostAcceptsAreTriedAgain : Type 0
LostAcceptsAreTriedAgain = GivesWith standard_limits (over []) (
    joins 0
    ∷ (says 0 (submit (codes "echo") (codes "hi")) gives shut 0 ++ hears 0 (submit_code (codes "500")))
    ∷ (says 0 (submit (codes "echo") (codes "hi")) gives again 0 false ++ hears 0 (submitted first))
    ∷ [])

-- one that is found is a ticket, and is queued before the next one
abbrev pub FoundAcceptsAreTickets : Type 0
FoundAcceptsAreTickets = GivesWith standard_limits (over []) (
    joins 0
    ∷ (says 0 (submit (codes "echo") (codes "hi")) gives shut 0 ++ hears 0 (submit_code (codes "500")))
    ∷ (says 0 (submit (codes "echo") (codes "ho")) gives again 0 true ++ hears 0 (submitted second))
    ∷ joins 1
    ∷ (says 1 (ready (codes "echo")) gives hears 1 (order 1 (codes "hi")))
    ∷ (says 1 (serving 1 (codes "hi!")) gives hears 1 (order 2 (codes "ho")))
    ∷ [])

-- a reply that isn't found leaves its ticket pending, and the ticket is dispatched again
abbrev pub LostRepliesAreServedAgain : Type 0
LostRepliesAreServedAgain = GivesWith standard_limits (over []) (
    joins 0
    ∷ (says 0 (ready (codes "echo")) gives [])
    ∷ joins 1
    ∷ (says 1 (submit (codes "echo") (codes "hi")) gives hears 1 (submitted first) ++ hears 0 (order 1 (codes "hi")))
    ∷ (says 0 (serving 1 (codes "hi!")) gives shut 0)
    ∷ (says 1 (who_serves (codes "echo")) gives hears 1 (code (codes "200")))
    ∷ (says 1 (fetch first) gives again 0 false ++ (hears 1 (fetch_code (codes "300")) ++ hears 0 (order 1 (codes "hi"))))
    ∷ [])

-- one that is found is the ticket's
abbrev pub FoundRepliesAreShown : Type 0
FoundRepliesAreShown = GivesWith standard_limits (over []) (
    joins 0
    ∷ (says 0 (ready (codes "echo")) gives [])
    ∷ joins 1
    ∷ (says 1 (submit (codes "echo") (codes "hi")) gives hears 1 (submitted first) ++ hears 0 (order 1 (codes "hi")))
    ∷ (says 0 (serving 1 (codes "hi!")) gives shut 0)
    ∷ (says 1 (fetch first) gives again 0 true ++ hears 1 (fetched (codes "hi!")))
    ∷ [])

-- a close that isn't found leaves its ticket open and queued
abbrev pub LostClosesLeaveTheTicket : Type 0
LostClosesLeaveTheTicket = GivesWith standard_limits (over []) (
    joins 0
    ∷ (says 0 (submit (codes "echo") (codes "hi")) gives hears 0 (submitted first))
    ∷ (says 0 (finish first) gives shut 0 ++ hears 0 (finish_code (codes "500")))
    ∷ (says 0 (fetch first) gives again 0 false ++ hears 0 (fetch_code (codes "300")))
    ∷ joins 1
    ∷ (says 1 (ready (codes "echo")) gives hears 1 (order 1 (codes "hi")))
    ∷ [])

-- one that is found has closed it
abbrev pub FoundClosesCloseTheTicket : Type 0
FoundClosesCloseTheTicket = GivesWith standard_limits (over []) (
    joins 0
    ∷ (says 0 (submit (codes "echo") (codes "hi")) gives hears 0 (submitted first))
    ∷ (says 0 (finish first) gives shut 0 ++ hears 0 (finish_code (codes "500")))
    ∷ (says 0 (fetch first) gives again 0 true ++ hears 0 (fetch_code (codes "400")))
    ∷ joins 1
    ∷ (says 1 (ready (codes "echo")) gives [])
    ∷ [])

-- the append behind an opening again is the event's second act
abbrev pub AppendsBehindAnOpeningFail : Type 0
AppendsBehindAnOpeningFail = GivesWith standard_limits (over []) (
    joins 0
    ∷ (says 0 (submit (codes "echo") (codes "hi")) gives shut 0 ++ hears 0 (submit_code (codes "500")))
    ∷ (says 0 (submit (codes "echo") (codes "ho")) gives again 0 false ++ (shut 1 ++ hears 0 (submit_code (codes "500"))))
    ∷ joins 1
    ∷ (says 1 (ready (codes "echo")) gives [])
    ∷ (says 0 (fetch first) gives again 0 true ++ (hears 0 (fetch_code (codes "300")) ++ hears 1 (order 1 (codes "ho"))))
    ∷ [])

-- ---- a reading fails

-- at a dispatch nothing is sent, and the worker is there for the next request in the same settling
abbrev pub FailedDispatchesSendNothing : Type 0
FailedDispatchesSendNothing = GivesWith standard_limits (over []) (
    joins 0
    ∷ (says 0 (submit (codes "echo") (codes "hi")) gives hears 0 (submitted first))
    ∷ (says 0 (asking (codes "echo") (codes "a")) gives [])
    ∷ joins 1
    ∷ (says 1 (ready (codes "echo")) gives shut 0 ++ hears 1 (request 1 (codes "a")))
    ∷ (says 1 (reply 1 (codes "A")) gives hears 0 (asking (codes "echo") (codes "A")))
    ∷ (says 0 (fetch first) gives again 0 false ++ (hears 0 (fetch_code (codes "300")) ++ hears 1 (order 1 (codes "hi"))))
    ∷ [])

-- and it may fail again at the next try, behind the opening and the answer
abbrev pub DispatchesFailAgain : Type 0
DispatchesFailAgain = GivesWith standard_limits (over []) (
    joins 0
    ∷ joins 1
    ∷ (says 1 (ready (codes "echo")) gives [])
    ∷ (says 0 (submit (codes "echo") (codes "hi")) gives hears 0 (submitted first) ++ shut 1)
    ∷ (says 0 (fetch first) gives again 0 false ++ (hears 0 (fetch_code (codes "300")) ++ shut 1))
    ∷ (says 0 (fetch first) gives again 0 false ++ (hears 0 (fetch_code (codes "300")) ++ hears 1 (order 1 (codes "hi"))))
    ∷ [])

-- the worker's lease runs on from its last word
abbrev pub FailedDispatchesSetNoMark : Type 0
FailedDispatchesSetNoMark = GivesWith standard_limits (over []) (
    joins 0
    ∷ joins 1
    ∷ (says 1 (ready (codes "echo")) gives [])
    ∷ (Ticks 5000 gives hears 1 heartbeat)
    ∷ (says 0 (submit (codes "echo") (codes "hi")) gives hears 0 (submitted first) ++ shut 1)
    ∷ (Ticks 7499 gives [])
    ∷ (says 0 (who_serves (codes "echo")) gives hears 0 (code (codes "200")))
    ∷ (Ticks 7500 gives [])
    ∷ (says 0 (who_serves (codes "echo")) gives hears 0 (code (codes "404")))
    ∷ [])

-- a worker whose ticket wasn't read waits behind the others
abbrev pub FailedDispatchesPutTheWorkerLast : Type 0
FailedDispatchesPutTheWorkerLast = GivesWith standard_limits (over []) (
    joins 0
    ∷ joins 1
    ∷ joins 2
    ∷ (says 1 (ready (codes "echo")) gives [])
    ∷ (says 2 (ready (codes "echo")) gives [])
    ∷ (says 0 (submit (codes "echo") (codes "hi")) gives hears 0 (submitted first) ++ shut 1)
    ∷ (says 0 (asking (codes "echo") (codes "a")) gives hears 2 (request 1 (codes "a")))
    ∷ (says 0 (asking (codes "echo") (codes "b")) gives hears 1 (request 1 (codes "b")))
    ∷ [])

-- a stored reply that can't be read is asked for again
abbrev pub FailedReadingsAreAskedForAgain : Type 0
FailedReadingsAreAskedForAgain = GivesWith standard_limits (over []) (
    joins 0
    ∷ (says 0 (submit (codes "echo") (codes "hi")) gives hears 0 (submitted first))
    ∷ joins 1
    ∷ (says 1 (ready (codes "echo")) gives hears 1 (order 1 (codes "hi")))
    ∷ (says 1 (serving 1 (codes "hi!")) gives [])
    ∷ (says 0 (fetch first) gives shut 0 ++ hears 0 (fetch_code (codes "500")))
    ∷ (says 0 (fetch first) gives again 0 false ++ (shut 1 ++ hears 0 (fetch_code (codes "500"))))
    ∷ (says 0 (fetch first) gives again 0 false ++ hears 0 (fetched (codes "hi!")))
    ∷ [])

-- ---- an opening again fails

-- what was in doubt stays so over openings that fail
abbrev pub DoubtsOutliveFailedOpenings : Type 0
DoubtsOutliveFailedOpenings = GivesWith standard_limits (over []) (
    joins 0
    ∷ (says 0 (submit (codes "echo") (codes "hi")) gives shut 0 ++ hears 0 (submit_code (codes "500")))
    ∷ (says 0 (fetch first) gives shut 0 ++ hears 0 (fetch_code (codes "500")))
    ∷ (says 0 (finish first) gives shut 0 ++ hears 0 (finish_code (codes "500")))
    ∷ (says 0 (fetch first) gives again 0 true ++ hears 0 (fetch_code (codes "300")))
    ∷ [])

-- requests that are refused don't open the store
abbrev pub BadRequestsDontOpenTheStore : Type 0
BadRequestsDontOpenTheStore = GivesWith standard_limits (over []) (
    joins 0
    ∷ (says 0 (submit (codes "echo") (codes "hi")) gives shut 0 ++ hears 0 (submit_code (codes "500")))
    ∷ (says 0 (asking_with (codes "titanic.request") []) gives hears 0 (submit_code (codes "400")))
    ∷ (says 0 (fetch (codes "x")) gives hears 0 (fetch_code (codes "400")))
    ∷ (says 0 (finish (codes "x")) gives hears 0 (finish_code (codes "400")))
    ∷ (says 0 (asking (codes "titanic.other") (codes "a")) gives hears 0 (asking (codes "titanic.other") (codes "501")))
    ∷ (says 0 (finish first) gives again 0 true ++ hears 0 (finish_code (codes "200")))
    ∷ (says 0 (fetch first) gives hears 0 (fetch_code (codes "400")))
    ∷ [])

-- ---- while the store is shut

-- clients and workers trade as before
abbrev pub TradeGoesOn : Type 0
TradeGoesOn = GivesWith standard_limits (over []) (
    joins 0
    ∷ joins 1
    ∷ joins 2
    ∷ (says 2 (submit (codes "echo") (codes "hi")) gives shut 0 ++ hears 2 (submit_code (codes "500")))
    ∷ (says 0 (ready (codes "echo")) gives [])
    ∷ (says 1 (ready (codes "echo")) gives [])
    ∷ (says 2 (asking (codes "echo") (codes "a")) gives hears 0 (request 3 (codes "a")))
    ∷ (says 2 (asking (codes "echo") (codes "b")) gives hears 1 (request 3 (codes "b")))
    ∷ (says 2 (asking (codes "echo") (codes "c")) gives [])
    ∷ (says 1 (reply 3 (codes "B")) gives hears 2 (asking (codes "echo") (codes "B")) ++ hears 1 (request 3 (codes "c")))
    ∷ [])

-- no ticket is queued
abbrev pub TicketsWaitForTheStore : Type 0
TicketsWaitForTheStore = GivesWith standard_limits (over []) (
    joins 0
    ∷ (says 0 (submit (codes "echo") (codes "hi")) gives hears 0 (submitted first))
    ∷ (says 0 (submit (codes "echo") (codes "ho")) gives shut 0 ++ hears 0 (submit_code (codes "500")))
    ∷ joins 1
    ∷ (says 1 (ready (codes "echo")) gives [])
    ∷ (says 0 (fetch first) gives again 0 false ++ (hears 0 (fetch_code (codes "300")) ++ hears 1 (order 1 (codes "hi"))))
    ∷ [])

-- what a worker holds then isn't queued again by an opening
abbrev pub HeldTicketsAreNotQueuedAgain : Type 0
HeldTicketsAreNotQueuedAgain = GivesWith standard_limits (over []) (
    joins 0
    ∷ joins 1
    ∷ joins 2
    ∷ (says 1 (ready (codes "echo")) gives [])
    ∷ (says 0 (submit (codes "echo") (codes "hi")) gives hears 0 (submitted first) ++ hears 1 (order 1 (codes "hi")))
    ∷ (says 2 (ready (codes "echo")) gives [])
    ∷ (says 0 (submit (codes "later") (codes "ho")) gives shut 0 ++ hears 0 (submit_code (codes "500")))
    ∷ (says 0 (fetch first) gives again 0 false ++ hears 0 (fetch_code (codes "300")))
    ∷ (says 1 (serving 1 (codes "hi!")) gives [])
    ∷ (says 0 (fetch first) gives hears 0 (fetched (codes "hi!")))
    ∷ [])

-- a worker that leaves takes its ticket along until the store opens
abbrev pub LeavingWorkersTakeTicketsAlong : Type 0
LeavingWorkersTakeTicketsAlong = GivesWith standard_limits (over []) (
    joins 0
    ∷ joins 1
    ∷ (says 1 (ready (codes "echo")) gives [])
    ∷ (says 0 (submit (codes "echo") (codes "hi")) gives hears 0 (submitted first) ++ hears 1 (order 1 (codes "hi")))
    ∷ (says 0 (submit (codes "echo") (codes "ho")) gives shut 0 ++ hears 0 (submit_code (codes "500")))
    ∷ (Closes 1 gives [])
    ∷ joins 1
    ∷ (says 1 (ready (codes "echo")) gives [])
    ∷ (says 0 (fetch first) gives again 0 false ++ (hears 0 (fetch_code (codes "300")) ++ hears 1 (order 1 (codes "hi"))))
    ∷ [])

-- a final reply to a ticket opens the store, and is kept
abbrev pub RepliesOpenTheStore : Type 0
RepliesOpenTheStore = GivesWith standard_limits (over []) (
    joins 0
    ∷ joins 1
    ∷ (says 1 (ready (codes "echo")) gives [])
    ∷ (says 0 (submit (codes "echo") (codes "hi")) gives hears 0 (submitted first) ++ hears 1 (order 1 (codes "hi")))
    ∷ (says 0 (submit (codes "later") (codes "ho")) gives shut 0 ++ hears 0 (submit_code (codes "500")))
    ∷ (says 1 (serving 1 (codes "hi!")) gives again 0 true)
    ∷ (says 0 (fetch first) gives hears 0 (fetched (codes "hi!")))
    ∷ (says 0 (fetch second) gives hears 0 (fetch_code (codes "300")))
    ∷ [])

-- one that can't open it is dropped, and so is one whose append fails behind the opening; its worker waits again
abbrev pub RepliesThatCantBeKeptAreDropped : Type 0
RepliesThatCantBeKeptAreDropped = GivesWith standard_limits (over []) (
    joins 0
    ∷ joins 1
    ∷ (says 1 (ready (codes "echo")) gives [])
    ∷ (says 0 (submit (codes "echo") (codes "hi")) gives hears 0 (submitted first) ++ hears 1 (order 1 (codes "hi")))
    ∷ (says 0 (submit (codes "later") (codes "ho")) gives shut 0 ++ hears 0 (submit_code (codes "500")))
    ∷ (says 1 (serving 1 (codes "hi!")) gives shut 0)
    ∷ (says 0 (asking (codes "echo") (codes "a")) gives hears 1 (request 1 (codes "a")))
    ∷ (says 1 (reply 1 (codes "A")) gives hears 0 (asking (codes "echo") (codes "A")))
    ∷ (says 0 (fetch first) gives again 0 false ++ (hears 0 (fetch_code (codes "300")) ++ hears 1 (order 1 (codes "hi"))))
    ∷ (says 0 (submit (codes "later") (codes "ho")) gives shut 0 ++ hears 0 (submit_code (codes "500")))
    ∷ (says 1 (serving 1 (codes "hi?")) gives again 0 false ++ shut 1)
    ∷ (says 0 (fetch first) gives again 0 true ++ hears 0 (fetched (codes "hi?")))
    ∷ [])
