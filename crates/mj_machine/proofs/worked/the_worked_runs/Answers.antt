use Rattle.mj_machine.proofs.ByteLemmas.{pieces_are_read, single_bytes_are_read, long_sizes_are_read, other_mechanisms_are_refused, older_versions_are_refused, faults_end_connections, long_messages_are_refused, requests_are_routed_as_bytes}
use Rattle.mj_machine.proofs.WorkedLemmas.{questions_are_answered, requests_are_routed, services_are_kept_apart, foreign_replies_are_refused, ready_twice_is_refused, strangers_are_refused, roles_are_kept, replies_to_the_gone_are_dropped, replies_to_the_passed_over_are_dropped, requests_of_the_gone_are_dropped, reopened_lanes_begin_anew, reserved_names_are_refused, messages_settle_one_by_one, waiting_leases_end, busy_leases_are_longer, busy_leases_end, lapsed_workers_may_return, heartbeats_are_sent, requests_put_heartbeats_off, words_renew_leases, moments_never_go_back, long_leases_begin_at_the_request, partial_replies_are_passed_on, leads_are_kept, refusals_are_in_the_right_version, leaving_is_taken_in_any_version, partial_replies_renew_leases, the_long_session, queues_fill_by_number, queues_fill_by_weight, queues_fill_by_one_byte, waiting_workers_need_no_queue, slow_peers_are_cut_off, bytes_on_the_way_are_counted, bytes_on_the_way_are_counted_one_by_one, slow_workers_lose_their_request, every_event_settles, settling_comes_last, the_gone_are_not_settled}
use Rattle.mj_machine.proofs.worked.the_worked_runs.Goals as goal

pub returns : goal.returns
returns c = record {
  questions_are_answered = questions_are_answered;
  requests_are_routed = requests_are_routed;
  services_are_kept_apart = services_are_kept_apart;
  foreign_replies_are_refused = foreign_replies_are_refused;
  ready_twice_is_refused = ready_twice_is_refused;
  strangers_are_refused = strangers_are_refused;
  roles_are_kept = roles_are_kept;
  replies_to_the_gone_are_dropped = replies_to_the_gone_are_dropped;
  replies_to_the_passed_over_are_dropped = replies_to_the_passed_over_are_dropped;
  requests_of_the_gone_are_dropped = requests_of_the_gone_are_dropped;
  reopened_lanes_begin_anew = reopened_lanes_begin_anew;
  reserved_names_are_refused = reserved_names_are_refused;
  messages_settle_one_by_one = messages_settle_one_by_one;
  waiting_leases_end = waiting_leases_end;
  busy_leases_are_longer = busy_leases_are_longer;
  busy_leases_end = busy_leases_end;
  lapsed_workers_may_return = lapsed_workers_may_return;
  heartbeats_are_sent = heartbeats_are_sent;
  requests_put_heartbeats_off = requests_put_heartbeats_off;
  words_renew_leases = words_renew_leases;
  moments_never_go_back = moments_never_go_back;
  long_leases_begin_at_the_request = long_leases_begin_at_the_request;
  partial_replies_are_passed_on = partial_replies_are_passed_on;
  leads_are_kept = leads_are_kept;
  refusals_are_in_the_right_version = refusals_are_in_the_right_version;
  leaving_is_taken_in_any_version = leaving_is_taken_in_any_version;
  partial_replies_renew_leases = partial_replies_renew_leases;
  the_long_session = the_long_session;
  queues_fill_by_number = queues_fill_by_number;
  queues_fill_by_weight = queues_fill_by_weight;
  queues_fill_by_one_byte = queues_fill_by_one_byte;
  waiting_workers_need_no_queue = waiting_workers_need_no_queue;
  slow_peers_are_cut_off = slow_peers_are_cut_off;
  bytes_on_the_way_are_counted = bytes_on_the_way_are_counted;
  bytes_on_the_way_are_counted_one_by_one = bytes_on_the_way_are_counted_one_by_one;
  slow_workers_lose_their_request = slow_workers_lose_their_request;
  every_event_settles = every_event_settles;
  settling_comes_last = settling_comes_last;
  the_gone_are_not_settled = the_gone_are_not_settled;
  pieces_are_read = pieces_are_read;
  single_bytes_are_read = single_bytes_are_read;
  long_sizes_are_read = long_sizes_are_read;
  other_mechanisms_are_refused = other_mechanisms_are_refused;
  older_versions_are_refused = older_versions_are_refused;
  faults_end_connections = faults_end_connections;
  long_messages_are_refused = long_messages_are_refused;
  requests_are_routed_as_bytes = requests_are_routed_as_bytes;
}
