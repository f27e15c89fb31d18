-- The audited runs, computed.
use Rattle.std.proofs.Common.{refl}
use Rattle.mj_frame.specs.HeadReading.{head_at}
use Rattle.mj_handshake.specs.ReadyGrammar.{ready_of}
use Rattle.mj_handshake.specs.ReadyReading.{properties_of, property_at}
use Rattle.mj_wire.specs.NextReading.{frame_next, next_of}
use Rattle.mj_wire.specs.StreamItems.{items_from, items_within, stream_items}
use Rattle.mj_machine.proofs.OnLiterals.{runs_on_literals}
use Rattle.mj_self_audit.specs.AuditedRuns.{RequestsAreRouted, BusyLeasesAreLonger, BusyLeasesEnd, LapsedWorkersMayReturn, ReopenedLanesBeginAnew, MessagesSettleOneByOne, LeasesAreRecorded}

pub requests_are_routed : RequestsAreRouted
unfolding runs_on_literals stream_items items_from items_within next_of frame_next head_at ready_of property_at properties_of
requests_are_routed = refl

pub busy_leases_are_longer : BusyLeasesAreLonger
unfolding runs_on_literals stream_items items_from items_within next_of frame_next head_at ready_of property_at properties_of
busy_leases_are_longer = refl

pub busy_leases_end : BusyLeasesEnd
unfolding runs_on_literals stream_items items_from items_within next_of frame_next head_at ready_of property_at properties_of
busy_leases_end = refl

pub lapsed_workers_may_return : LapsedWorkersMayReturn
unfolding runs_on_literals stream_items items_from items_within next_of frame_next head_at ready_of property_at properties_of
lapsed_workers_may_return = refl

pub reopened_lanes_begin_anew : ReopenedLanesBeginAnew
unfolding runs_on_literals stream_items items_from items_within next_of frame_next head_at ready_of property_at properties_of
reopened_lanes_begin_anew = refl

pub messages_settle_one_by_one : MessagesSettleOneByOne
unfolding runs_on_literals stream_items items_from items_within next_of frame_next head_at ready_of property_at properties_of
messages_settle_one_by_one = refl

pub leases_are_recorded : LeasesAreRecorded
unfolding runs_on_literals stream_items items_from items_within next_of frame_next head_at ready_of property_at properties_of
leases_are_recorded = refl
