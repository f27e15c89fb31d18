use Rattle.mj_machine.proofs.StoreRunLemmas.{tickets_are_served, tickets_are_kept, files_grow, tickets_outlive_their_clients, tickets_outlive_leases, tickets_outlive_slow_workers, tickets_go_back_to_the_end, closed_tickets_are_dropped, late_replies_are_dropped, partial_replies_are_not_kept, the_long_session_keeps, the_sessions_commands, the_next_run_goes_on, titanics_names_are_reserved, titanics_names_are_free, stores_fill_by_number, stores_fill_by_size, stores_fill_by_one_byte, bad_requests_are_refused, ids_are_whole, lost_accepts_are_tried_again, found_accepts_are_tickets, lost_replies_are_served_again, found_replies_are_shown, lost_closes_leave_the_ticket, found_closes_close_the_ticket, appends_behind_an_opening_fail, failed_dispatches_send_nothing, dispatches_fail_again, failed_dispatches_set_no_mark, failed_dispatches_put_the_worker_last, failed_readings_are_asked_for_again, doubts_outlive_failed_openings, bad_requests_dont_open_the_store, trade_goes_on, tickets_wait_for_the_store, held_tickets_are_not_queued_again, leaving_workers_take_tickets_along, replies_open_the_store, replies_that_cant_be_kept_are_dropped}
use Rattle.mj_machine.proofs.worked.the_worked_runs_with_a_store.Goals as goal

pub returns : goal.returns
returns c = record {
  tickets_are_served = tickets_are_served;
  tickets_are_kept = tickets_are_kept;
  files_grow = files_grow;
  tickets_outlive_their_clients = tickets_outlive_their_clients;
  tickets_outlive_leases = tickets_outlive_leases;
  tickets_outlive_slow_workers = tickets_outlive_slow_workers;
  tickets_go_back_to_the_end = tickets_go_back_to_the_end;
  closed_tickets_are_dropped = closed_tickets_are_dropped;
  late_replies_are_dropped = late_replies_are_dropped;
  partial_replies_are_not_kept = partial_replies_are_not_kept;
  the_long_session_keeps = the_long_session_keeps;
  the_sessions_commands = the_sessions_commands;
  the_next_run_goes_on = the_next_run_goes_on;
  titanics_names_are_reserved = titanics_names_are_reserved;
  titanics_names_are_free = titanics_names_are_free;
  stores_fill_by_number = stores_fill_by_number;
  stores_fill_by_size = stores_fill_by_size;
  stores_fill_by_one_byte = stores_fill_by_one_byte;
  bad_requests_are_refused = bad_requests_are_refused;
  ids_are_whole = ids_are_whole;
  lost_accepts_are_tried_again = lost_accepts_are_tried_again;
  found_accepts_are_tickets = found_accepts_are_tickets;
  lost_replies_are_served_again = lost_replies_are_served_again;
  found_replies_are_shown = found_replies_are_shown;
  lost_closes_leave_the_ticket = lost_closes_leave_the_ticket;
  found_closes_close_the_ticket = found_closes_close_the_ticket;
  appends_behind_an_opening_fail = appends_behind_an_opening_fail;
  failed_dispatches_send_nothing = failed_dispatches_send_nothing;
  dispatches_fail_again = dispatches_fail_again;
  failed_dispatches_set_no_mark = failed_dispatches_set_no_mark;
  failed_dispatches_put_the_worker_last = failed_dispatches_put_the_worker_last;
  failed_readings_are_asked_for_again = failed_readings_are_asked_for_again;
  doubts_outlive_failed_openings = doubts_outlive_failed_openings;
  bad_requests_dont_open_the_store = bad_requests_dont_open_the_store;
  trade_goes_on = trade_goes_on;
  tickets_wait_for_the_store = tickets_wait_for_the_store;
  held_tickets_are_not_queued_again = held_tickets_are_not_queued_again;
  leaving_workers_take_tickets_along = leaving_workers_take_tickets_along;
  replies_open_the_store = replies_open_the_store;
  replies_that_cant_be_kept_are_dropped = replies_that_cant_be_kept_are_dropped;
}
