-- The worked runs with a store, computed.
use Rattle.std.proofs.Common.{refl}
use Rattle.mj_machine.proofs.OnLiterals.{runs_on_literals}
use Rattle.mj_machine.specs.StoreRuns.{TicketsAreServed, TicketsAreKept, FilesGrow, TicketsOutliveTheirClients, TicketsOutliveLeases, TicketsOutliveSlowWorkers, TicketsGoBackToTheEnd, ClosedTicketsAreDropped, LateRepliesAreDropped, PartialRepliesAreNotKept, TheLongSessionKeeps, TheSessionsCommands, TheNextRunGoesOn, TitanicsNamesAreReserved, TitanicsNamesAreFree, StoresFillByNumber, StoresFillBySize, StoresFillByOneByte, BadRequestsAreRefused, IdsAreWhole}
use Rattle.mj_machine.specs.ShutRuns.{LostAcceptsAreTriedAgain, FoundAcceptsAreTickets, LostRepliesAreServedAgain, FoundRepliesAreShown, LostClosesLeaveTheTicket, FoundClosesCloseTheTicket, AppendsBehindAnOpeningFail, FailedDispatchesSendNothing, DispatchesFailAgain, FailedDispatchesSetNoMark, FailedDispatchesPutTheWorkerLast, FailedReadingsAreAskedForAgain, DoubtsOutliveFailedOpenings, BadRequestsDontOpenTheStore, TradeGoesOn, TicketsWaitForTheStore, HeldTicketsAreNotQueuedAgain, LeavingWorkersTakeTicketsAlong, RepliesOpenTheStore, RepliesThatCantBeKeptAreDropped}

pub tickets_are_served : TicketsAreServed
unfolding runs_on_literals
tickets_are_served = refl

pub tickets_are_kept : TicketsAreKept
unfolding runs_on_literals
tickets_are_kept = refl

pub files_grow : FilesGrow
unfolding runs_on_literals
files_grow = (refl, refl, refl, refl)

pub tickets_outlive_their_clients : TicketsOutliveTheirClients
unfolding runs_on_literals
tickets_outlive_their_clients = refl

pub tickets_outlive_leases : TicketsOutliveLeases
unfolding runs_on_literals
tickets_outlive_leases = refl

pub tickets_outlive_slow_workers : TicketsOutliveSlowWorkers
unfolding runs_on_literals
tickets_outlive_slow_workers = refl

pub tickets_go_back_to_the_end : TicketsGoBackToTheEnd
unfolding runs_on_literals
tickets_go_back_to_the_end = refl

pub closed_tickets_are_dropped : ClosedTicketsAreDropped
unfolding runs_on_literals
closed_tickets_are_dropped = refl

pub late_replies_are_dropped : LateRepliesAreDropped
unfolding runs_on_literals
late_replies_are_dropped = refl

pub partial_replies_are_not_kept : PartialRepliesAreNotKept
unfolding runs_on_literals
partial_replies_are_not_kept = refl

pub the_long_session_keeps : TheLongSessionKeeps
unfolding runs_on_literals
the_long_session_keeps = refl

pub the_sessions_commands : TheSessionsCommands
unfolding runs_on_literals
the_sessions_commands = refl

pub the_next_run_goes_on : TheNextRunGoesOn
unfolding runs_on_literals
the_next_run_goes_on = refl

pub titanics_names_are_reserved : TitanicsNamesAreReserved
unfolding runs_on_literals
titanics_names_are_reserved = refl

pub titanics_names_are_free : TitanicsNamesAreFree
unfolding runs_on_literals
titanics_names_are_free = refl

pub stores_fill_by_number : StoresFillByNumber
unfolding runs_on_literals
stores_fill_by_number = refl

pub stores_fill_by_size : StoresFillBySize
unfolding runs_on_literals
stores_fill_by_size = refl

pub stores_fill_by_one_byte : StoresFillByOneByte
unfolding runs_on_literals
stores_fill_by_one_byte = refl

pub bad_requests_are_refused : BadRequestsAreRefused
unfolding runs_on_literals
bad_requests_are_refused = refl

pub ids_are_whole : IdsAreWhole
unfolding runs_on_literals
ids_are_whole = refl

pub lost_accepts_are_tried_again : LostAcceptsAreTriedAgain
unfolding runs_on_literals
lost_accepts_are_tried_again = refl

pub found_accepts_are_tickets : FoundAcceptsAreTickets
unfolding runs_on_literals
found_accepts_are_tickets = refl

pub lost_replies_are_served_again : LostRepliesAreServedAgain
unfolding runs_on_literals
lost_replies_are_served_again = refl

pub found_replies_are_shown : FoundRepliesAreShown
unfolding runs_on_literals
found_replies_are_shown = refl

pub lost_closes_leave_the_ticket : LostClosesLeaveTheTicket
unfolding runs_on_literals
lost_closes_leave_the_ticket = refl

pub found_closes_close_the_ticket : FoundClosesCloseTheTicket
unfolding runs_on_literals
found_closes_close_the_ticket = refl

pub appends_behind_an_opening_fail : AppendsBehindAnOpeningFail
unfolding runs_on_literals
appends_behind_an_opening_fail = refl

pub failed_dispatches_send_nothing : FailedDispatchesSendNothing
unfolding runs_on_literals
failed_dispatches_send_nothing = refl

pub dispatches_fail_again : DispatchesFailAgain
unfolding runs_on_literals
dispatches_fail_again = refl

pub failed_dispatches_set_no_mark : FailedDispatchesSetNoMark
unfolding runs_on_literals
failed_dispatches_set_no_mark = refl

pub failed_dispatches_put_the_worker_last : FailedDispatchesPutTheWorkerLast
unfolding runs_on_literals
failed_dispatches_put_the_worker_last = refl

pub failed_readings_are_asked_for_again : FailedReadingsAreAskedForAgain
unfolding runs_on_literals
failed_readings_are_asked_for_again = refl

pub doubts_outlive_failed_openings : DoubtsOutliveFailedOpenings
unfolding runs_on_literals
doubts_outlive_failed_openings = refl

pub bad_requests_dont_open_the_store : BadRequestsDontOpenTheStore
unfolding runs_on_literals
bad_requests_dont_open_the_store = refl

pub trade_goes_on : TradeGoesOn
unfolding runs_on_literals
trade_goes_on = refl

pub tickets_wait_for_the_store : TicketsWaitForTheStore
unfolding runs_on_literals
tickets_wait_for_the_store = refl

pub held_tickets_are_not_queued_again : HeldTicketsAreNotQueuedAgain
unfolding runs_on_literals
held_tickets_are_not_queued_again = refl

pub leaving_workers_take_tickets_along : LeavingWorkersTakeTicketsAlong
unfolding runs_on_literals
leaving_workers_take_tickets_along = refl

pub replies_open_the_store : RepliesOpenTheStore
unfolding runs_on_literals
replies_open_the_store = refl

pub replies_that_cant_be_kept_are_dropped : RepliesThatCantBeKeptAreDropped
unfolding runs_on_literals
replies_that_cant_be_kept_are_dropped = refl
