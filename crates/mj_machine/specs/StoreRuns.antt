-- Worked runs with a store whose disk doesn't fail, written out by hand from ZeroMQ RFC 7, RFC 8 and RFC 9.
use Rattle.std.specs.Prelude.{◌≡◌, List, [], ◌∷◌, ◌++◌, codes}
use Rattle.mj_base.specs.StandardLimits.{standard_limits}
use Rattle.mj_base.specs.declared.event.Out.TheVariants.{End}
use Rattle.mj_base.specs.declared.reason.Reason.TheVariants.{Slow}
use Rattle.mj_tickets.specs.declared.command.TicketCmd.{TicketCmd}
use Rattle.mj_tickets.specs.declared.command.TicketCmd.TheVariants.{Close, Store}
use Rattle.mj_machine.specs.StoreState.{file_length}
use Rattle.mj_machine.specs.MachineState.{between, start_with}
use Rattle.mj_machine.specs.EventStep.{Closes, Reports, Ticks}
use Rattle.mj_machine.specs.RunSpelling.{Gives, GivesWith, Turn, asking, asking_with, code, disconnect, end_of_turns, hears, heartbeat, joins, ready, reply, request, says, who_serves, ◌gives◌}
use Rattle.mj_machine.specs.StoreSpelling.{accept, fetch, fetch_code, fetched, finish, finish_code, first, first_id, order, over, second, second_id, serving, submit, submit_code, submitted, ticket}
use Rattle.mj_machine.specs.VersionRuns.{long_session, ready_two, worker_two}

-- the commands that are kept at the end of these turns
abbrev pub Keeps : List Turn → List TicketCmd → Type 0
Keeps turns commands = (end_of_turns turns (between (start_with standard_limits (over [])))).store.commands ≡ commands

-- ---- a ticket's life

-- it is kept, served, fetched and closed; an id that is closed is as one that never was
abbrev pub ticket_life : List Turn
ticket_life =
    joins 0
    ∷ (says 0 (submit (codes "echo") (codes "hi")) gives hears 0 (submitted first))
    ∷ (says 0 (fetch first) gives hears 0 (fetch_code (codes "300")))
    ∷ joins 1
    ∷ (says 1 (ready (codes "echo")) gives hears 1 (order 1 (codes "hi")))
    ∷ (says 1 (serving 1 (codes "hi!")) gives [])
    ∷ (says 0 (fetch first) gives hears 0 (fetched (codes "hi!")))
    ∷ (says 0 (finish first) gives hears 0 (finish_code (codes "200")))
    ∷ (says 0 (finish first) gives hears 0 (finish_code (codes "200")))
    ∷ []

abbrev pub TicketsAreServed : Type 0
TicketsAreServed = GivesWith standard_limits (over []) ticket_life

abbrev pub TicketsAreKept : Type 0
TicketsAreKept = Keeps ticket_life (accept first_id (codes "echo") (codes "hi") ∷ Store 1 (codes "hi!" ∷ []) ∷ Close 1 ∷ [])

-- the file's length in bytes after each of the three commands
abbrev pub FilesGrow : Type 0
FilesGrow =
    (file_length [] ≡ 17)
    × (file_length (accept first_id (codes "echo") (codes "hi") ∷ []) ≡ 52)
    × (file_length (accept first_id (codes "echo") (codes "hi") ∷ Store 1 (codes "hi!" ∷ []) ∷ []) ≡ 75)
    × (file_length (accept first_id (codes "echo") (codes "hi") ∷ Store 1 (codes "hi!" ∷ []) ∷ Close 1 ∷ []) ≡ 89)

-- whoever kept it may go: another asks for its reply
abbrev pub TicketsOutliveTheirClients : Type 0
TicketsOutliveTheirClients = GivesWith standard_limits (over []) (
    joins 0
    ∷ (says 0 (submit (codes "echo") (codes "hi")) gives hears 0 (submitted first))
    ∷ (Closes 0 gives [])
    ∷ joins 0
    ∷ joins 1
    ∷ (says 1 (ready (codes "echo")) gives hears 1 (order 1 (codes "hi")))
    ∷ (says 1 (serving 1 (codes "hi!")) gives [])
    ∷ (says 0 (fetch first) gives hears 0 (fetched (codes "hi!")))
    ∷ [])

-- and so may its worker, at whose lease's end another gets it
abbrev pub TicketsOutliveLeases : Type 0
TicketsOutliveLeases = GivesWith standard_limits (over []) (
    joins 0
    ∷ (says 0 (ready (codes "echo")) gives [])
    ∷ joins 1
    ∷ (says 1 (submit (codes "echo") (codes "hi")) gives hears 1 (submitted first) ++ hears 0 (order 1 (codes "hi")))
    ∷ (Ticks 59000 gives hears 0 heartbeat)
    ∷ joins 2
    ∷ (says 2 (ready (codes "echo")) gives [])
    ∷ (Ticks 60000 gives hears 2 (order 1 (codes "hi")))
    ∷ [])

-- a worker that is too slow for it is cut off, and the next one gets it in the same settling
abbrev pub TicketsOutliveSlowWorkers : Type 0
TicketsOutliveSlowWorkers = GivesWith (record standard_limits { out_pieces = 2 }) (over []) (
    joins 0
    ∷ (Reports 0 gives [])
    ∷ joins 1
    ∷ joins 2
    ∷ (Reports 2 gives [])
    ∷ (says 1 (ready (codes "echo")) gives [])
    ∷ (says 2 (ready (codes "echo")) gives [])
    ∷ (says 0 (submit (codes "echo") (codes "hi")) gives hears 0 (submitted first) ++ (End 1 Slow 94 ∷ [] ++ hears 2 (order 1 (codes "hi"))))
    ∷ [])

-- a ticket that goes back stands last
abbrev pub TicketsGoBackToTheEnd : Type 0
TicketsGoBackToTheEnd = GivesWith standard_limits (over []) (
    joins 0
    ∷ joins 1
    ∷ (says 1 (ready (codes "echo")) gives [])
    ∷ (says 0 (submit (codes "echo") (codes "a")) gives hears 0 (submitted first) ++ hears 1 (order 1 (codes "a")))
    ∷ (says 0 (submit (codes "echo") (codes "b")) gives hears 0 (submitted second))
    ∷ (Closes 1 gives [])
    ∷ joins 1
    ∷ (says 1 (ready (codes "echo")) gives hears 1 (order 2 (codes "b")))
    ∷ (says 1 (serving 2 (codes "B")) gives hears 1 (order 1 (codes "a")))
    ∷ [])

-- a closed ticket is dispatched no more
abbrev pub ClosedTicketsAreDropped : Type 0
ClosedTicketsAreDropped = GivesWith standard_limits (over []) (
    joins 0
    ∷ (says 0 (submit (codes "echo") (codes "hi")) gives hears 0 (submitted first))
    ∷ (says 0 (finish first) gives hears 0 (finish_code (codes "200")))
    ∷ joins 1
    ∷ (says 1 (ready (codes "echo")) gives [])
    ∷ (says 0 (fetch first) gives hears 0 (fetch_code (codes "400")))
    ∷ [])

-- and the reply of the worker that has it then is kept no more; the worker waits again
abbrev pub LateRepliesAreDropped : Type 0
LateRepliesAreDropped = GivesWith standard_limits (over []) (
    joins 0
    ∷ joins 1
    ∷ (says 1 (ready (codes "echo")) gives [])
    ∷ (says 0 (submit (codes "echo") (codes "hi")) gives hears 0 (submitted first) ++ hears 1 (order 1 (codes "hi")))
    ∷ (says 0 (finish first) gives hears 0 (finish_code (codes "200")))
    ∷ (says 1 (serving 1 (codes "hi!")) gives [])
    ∷ (says 0 (fetch first) gives hears 0 (fetch_code (codes "400")))
    ∷ (says 0 (submit (codes "echo") (codes "ho")) gives hears 0 (submitted second) ++ hears 1 (order 2 (codes "ho")))
    ∷ [])

-- partial replies to a ticket are dropped, and its worker has it until the final one
abbrev pub PartialRepliesAreNotKept : Type 0
PartialRepliesAreNotKept = GivesWith standard_limits (over []) (
    joins 0
    ∷ joins 1
    ∷ (says 1 (ready_two (codes "echo")) gives [])
    ∷ (says 0 (submit (codes "echo") (codes "hi")) gives hears 0 (submitted first) ++ hears 1 (worker_two ((2 ∷ []) ∷ ticket 1 ∷ [] ∷ codes "hi" ∷ [])))
    ∷ (says 1 (worker_two ((3 ∷ []) ∷ ticket 1 ∷ [] ∷ codes "half" ∷ [])) gives [])
    ∷ (says 0 (fetch first) gives hears 0 (fetch_code (codes "300")))
    ∷ (says 1 (worker_two ((4 ∷ []) ∷ ticket 1 ∷ [] ∷ codes "whole" ∷ [])) gives [])
    ∷ (says 0 (fetch first) gives hears 0 (fetched (codes "whole")))
    ∷ [])

-- ---- a session as users have it, and the next run over its file

abbrev pub with_tickets : List Turn
with_tickets = long_session ++ (
    (says 2 (submit (codes "later") (codes "p")) gives hears 2 (submitted first))
    ∷ (says 2 (submit (codes "later") (codes "q")) gives hears 2 (submitted second))
    ∷ [])

abbrev pub session_commands : List TicketCmd
session_commands = accept first_id (codes "later") (codes "p") ∷ accept second_id (codes "later") (codes "q") ∷ []

abbrev pub TheLongSessionKeeps : Type 0
TheLongSessionKeeps = GivesWith standard_limits (over []) with_tickets

abbrev pub TheSessionsCommands : Type 0
TheSessionsCommands = Keeps with_tickets session_commands

abbrev pub TheNextRunGoesOn : Type 0
TheNextRunGoesOn = GivesWith standard_limits (over session_commands) (
    joins 0
    ∷ (says 0 (ready (codes "later")) gives hears 0 (order 1 (codes "p")))
    ∷ (says 0 (serving 1 (codes "P")) gives hears 0 (order 2 (codes "q")))
    ∷ joins 1
    ∷ (says 1 (fetch first) gives hears 1 (fetched (codes "P")))
    ∷ (says 1 (fetch second) gives hears 1 (fetch_code (codes "300")))
    ∷ [])

-- ---- names

-- with a store the names that begin with `titanic.` are the broker's own; three of them are there
abbrev pub TitanicsNamesAreReserved : Type 0
TitanicsNamesAreReserved = GivesWith standard_limits (over []) (
    joins 0
    ∷ joins 1
    ∷ joins 2
    ∷ (says 0 (ready (codes "mmi.x")) gives hears 0 disconnect)
    ∷ (says 1 (ready (codes "titanic.x")) gives hears 1 disconnect)
    ∷ (says 2 (who_serves (codes "titanic.request")) gives hears 2 (code (codes "200")))
    ∷ (says 2 (who_serves (codes "titanic.reply")) gives hears 2 (code (codes "200")))
    ∷ (says 2 (who_serves (codes "titanic.close")) gives hears 2 (code (codes "200")))
    ∷ (says 2 (who_serves (codes "titanic.x")) gives hears 2 (code (codes "404")))
    ∷ (says 2 (asking (codes "titanic.x") (codes "a")) gives hears 2 (asking (codes "titanic.x") (codes "501")))
    ∷ [])

-- without one nobody serves them, until a worker does
abbrev pub TitanicsNamesAreFree : Type 0
TitanicsNamesAreFree = Gives standard_limits (
    joins 0
    ∷ joins 1
    ∷ (says 0 (who_serves (codes "titanic.close")) gives hears 0 (code (codes "404")))
    ∷ (says 0 (finish first) gives [])
    ∷ (says 1 (ready (codes "titanic.close")) gives hears 1 (request 1 first))
    ∷ (says 1 (reply 1 (codes "done")) gives hears 0 (asking (codes "titanic.close") (codes "done")))
    ∷ [])

-- ---- what is refused

-- the store is full by the number of its open tickets, until one of them is closed
abbrev pub StoresFillByNumber : Type 0
StoresFillByNumber = GivesWith (record standard_limits { tickets = 1 }) (over []) (
    joins 0
    ∷ (says 0 (submit (codes "echo") (codes "hi")) gives hears 0 (submitted first))
    ∷ (says 0 (submit (codes "echo") (codes "ho")) gives hears 0 (submit_code (codes "500")))
    ∷ (says 0 (finish first) gives hears 0 (finish_code (codes "200")))
    ∷ (says 0 (submit (codes "echo") (codes "ho")) gives hears 0 (submitted second))
    ∷ [])

-- a file of 87 bytes has two such tickets
abbrev pub StoresFillBySize : Type 0
StoresFillBySize = GivesWith (record standard_limits { file = 87 }) (over []) (
    joins 0
    ∷ (says 0 (submit (codes "echo") (codes "hi")) gives hears 0 (submitted first))
    ∷ (says 0 (submit (codes "echo") (codes "ho")) gives hears 0 (submitted second))
    ∷ (says 0 (submit (codes "echo") []) gives hears 0 (submit_code (codes "500")))
    ∷ [])

-- and one of 86 has not
abbrev pub StoresFillByOneByte : Type 0
StoresFillByOneByte = GivesWith (record standard_limits { file = 86 }) (over []) (
    joins 0
    ∷ (says 0 (submit (codes "echo") (codes "hi")) gives hears 0 (submitted first))
    ∷ (says 0 (submit (codes "echo") (codes "ho")) gives hears 0 (submit_code (codes "500")))
    ∷ (says 0 (submit (codes "echo") (codes "h")) gives hears 0 (submitted second))
    ∷ [])

-- no service, one of the broker's own, no id, an id that isn't known; no name of the three; and what `mmi.` names say
abbrev pub BadRequestsAreRefused : Type 0
BadRequestsAreRefused = GivesWith standard_limits (over []) (
    joins 0
    ∷ (says 0 (asking_with (codes "titanic.request") []) gives hears 0 (submit_code (codes "400")))
    ∷ (says 0 (asking_with (codes "titanic.request") (codes "mmi.x" ∷ [])) gives hears 0 (submit_code (codes "400")))
    ∷ (says 0 (submit (codes "titanic.request") (codes "hi")) gives hears 0 (submit_code (codes "400")))
    ∷ (says 0 (fetch (codes "x")) gives hears 0 (fetch_code (codes "400")))
    ∷ (says 0 (fetch first) gives hears 0 (fetch_code (codes "400")))
    ∷ (says 0 (finish (codes "x")) gives hears 0 (finish_code (codes "400")))
    ∷ (says 0 (finish first) gives hears 0 (finish_code (codes "200")))
    ∷ (says 0 (asking (codes "titanic.other") (codes "a")) gives hears 0 (asking (codes "titanic.other") (codes "501")))
    ∷ (says 0 (asking (codes "mmi.other") (codes "a")) gives hears 0 (asking (codes "mmi.other") (codes "501")))
    ∷ (says 0 (asking_with (codes "mmi.service") []) gives hears 0 (code (codes "404")))
    ∷ (says 0 (who_serves (codes "titanic.close")) gives hears 0 (code (codes "200")))
    ∷ [])

-- a ticket is known by its whole id, in each form of its text, and not by the number in it
abbrev pub IdsAreWhole : Type 0
IdsAreWhole = GivesWith standard_limits (over []) (
    joins 0
    ∷ (says 0 (submit (codes "echo") (codes "hi")) gives hears 0 (submitted first))
    ∷ (says 0 (fetch (codes "e56a5d4028bd86538000000000000001")) gives hears 0 (fetch_code (codes "300")))
    ∷ (says 0 (fetch (codes "{E56A5D40-28BD-8653-8000-000000000001}")) gives hears 0 (fetch_code (codes "300")))
    ∷ (says 0 (fetch (codes "urn:uuid:e56a5d40-28bd-8653-8000-000000000001")) gives hears 0 (fetch_code (codes "300")))
    ∷ (says 0 (fetch (codes "e56a5d41-28bd-8653-8000-000000000001")) gives hears 0 (fetch_code (codes "400")))
    ∷ (says 0 (finish (codes "e56a5d41-28bd-8653-8000-000000000001")) gives hears 0 (finish_code (codes "200")))
    ∷ (says 0 (fetch first) gives hears 0 (fetch_code (codes "300")))
    ∷ [])
