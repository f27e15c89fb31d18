use Rattle.mj_transcript.proofs.WorkedLemmas as worked
use Rattle.mj_transcript.proofs.worked.worked_transcripts.Goals as goal

pub returns : goal.returns
returns c = record {
  requests_are_answered = worked.requests_are_answered;
  kept_requests_are_seen = worked.kept_requests_are_seen;
  kept_requests_are_seen_at_the_end = worked.kept_requests_are_seen_at_the_end;
  foreign_answers_are_seen = worked.foreign_answers_are_seen;
  second_answers_are_seen = worked.second_answers_are_seen;
  answers_of_nobody_are_seen = worked.answers_of_nobody_are_seen;
  changed_requests_are_seen = worked.changed_requests_are_seen;
  second_requests_are_seen = worked.second_requests_are_seen;
  busy_workers_are_seen = worked.busy_workers_are_seen;
  unready_workers_are_seen = worked.unready_workers_are_seen;
  lapsed_workers_are_seen = worked.lapsed_workers_are_seen;
  late_replies_are_seen = worked.late_replies_are_seen;
  later_owners_are_seen = worked.later_owners_are_seen;
  wrong_messages_are_seen = worked.wrong_messages_are_seen;
  wrong_bytes_are_seen = worked.wrong_bytes_are_seen;
  own_names_are_passed_over = worked.own_names_are_passed_over;
  other_names_are_judged = worked.other_names_are_judged;
  two_messages_are_unlawful = worked.two_messages_are_unlawful;
  old_addresses_are_unlawful = worked.old_addresses_are_unlawful;
  closed_lanes_are_unlawful = worked.closed_lanes_are_unlawful;
}
