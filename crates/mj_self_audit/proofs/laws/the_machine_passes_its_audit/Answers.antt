use Rattle.mj_self_audit.proofs.AuditedLemmas as audited
use Rattle.mj_self_audit.proofs.laws.the_machine_passes_its_audit.Goals as goal

pub returns : goal.returns
returns c = record {
  requests_are_routed = audited.requests_are_routed;
  busy_leases_are_longer = audited.busy_leases_are_longer;
  busy_leases_end = audited.busy_leases_end;
  lapsed_workers_may_return = audited.lapsed_workers_may_return;
  reopened_lanes_begin_anew = audited.reopened_lanes_begin_anew;
  messages_settle_one_by_one = audited.messages_settle_one_by_one;
  leases_are_recorded = audited.leases_are_recorded;
}
