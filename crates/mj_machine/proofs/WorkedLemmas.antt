-- The worked runs, computed.
use Rattle.std.proofs.Common.{refl}
use Rattle.mj_machine.proofs.OnLiterals.{runs_on_literals}
use Rattle.mj_machine.specs.ClientWorkerRuns.{QuestionsAreAnswered, RequestsAreRouted, ServicesAreKeptApart, ForeignRepliesAreRefused, ReadyTwiceIsRefused, StrangersAreRefused, RolesAreKept, RepliesToTheGoneAreDropped, RepliesToThePassedOverAreDropped, RequestsOfTheGoneAreDropped, ReopenedLanesBeginAnew, ReservedNamesAreRefused, MessagesSettleOneByOne}
use Rattle.mj_machine.specs.LeaseRuns.{WaitingLeasesEnd, BusyLeasesAreLonger, BusyLeasesEnd, LapsedWorkersMayReturn, HeartbeatsAreSent, RequestsPutHeartbeatsOff, WordsRenewLeases, MomentsNeverGoBack, LongLeasesBeginAtTheRequest}
use Rattle.mj_machine.specs.VersionRuns.{PartialRepliesArePassedOn, LeadsAreKept, RefusalsAreInTheRightVersion, LeavingIsTakenInAnyVersion, PartialRepliesRenewLeases, TheLongSession}
use Rattle.mj_machine.specs.LimitRuns.{QueuesFillByNumber, QueuesFillByWeight, QueuesFillByOneByte, WaitingWorkersNeedNoQueue, SlowPeersAreCutOff, BytesOnTheWayAreCounted, BytesOnTheWayAreCountedOneByOne, SlowWorkersLoseTheirRequest, EveryEventSettles, SettlingComesLast, TheGoneAreNotSettled}

pub questions_are_answered : QuestionsAreAnswered
unfolding runs_on_literals
questions_are_answered = refl

pub requests_are_routed : RequestsAreRouted
unfolding runs_on_literals
requests_are_routed = refl

pub services_are_kept_apart : ServicesAreKeptApart
unfolding runs_on_literals
services_are_kept_apart = refl

pub foreign_replies_are_refused : ForeignRepliesAreRefused
unfolding runs_on_literals
foreign_replies_are_refused = refl

pub ready_twice_is_refused : ReadyTwiceIsRefused
unfolding runs_on_literals
ready_twice_is_refused = refl

pub strangers_are_refused : StrangersAreRefused
unfolding runs_on_literals
strangers_are_refused = refl

pub roles_are_kept : RolesAreKept
unfolding runs_on_literals
roles_are_kept = refl

pub replies_to_the_gone_are_dropped : RepliesToTheGoneAreDropped
unfolding runs_on_literals
replies_to_the_gone_are_dropped = refl

pub replies_to_the_passed_over_are_dropped : RepliesToThePassedOverAreDropped
unfolding runs_on_literals
replies_to_the_passed_over_are_dropped = refl

pub requests_of_the_gone_are_dropped : RequestsOfTheGoneAreDropped
unfolding runs_on_literals
requests_of_the_gone_are_dropped = refl

pub reopened_lanes_begin_anew : ReopenedLanesBeginAnew
unfolding runs_on_literals
reopened_lanes_begin_anew = refl

pub reserved_names_are_refused : ReservedNamesAreRefused
unfolding runs_on_literals
reserved_names_are_refused = refl

pub messages_settle_one_by_one : MessagesSettleOneByOne
unfolding runs_on_literals
messages_settle_one_by_one = refl

pub waiting_leases_end : WaitingLeasesEnd
unfolding runs_on_literals
waiting_leases_end = refl

pub busy_leases_are_longer : BusyLeasesAreLonger
unfolding runs_on_literals
busy_leases_are_longer = refl

pub busy_leases_end : BusyLeasesEnd
unfolding runs_on_literals
busy_leases_end = refl

pub lapsed_workers_may_return : LapsedWorkersMayReturn
unfolding runs_on_literals
lapsed_workers_may_return = refl

pub heartbeats_are_sent : HeartbeatsAreSent
unfolding runs_on_literals
heartbeats_are_sent = refl

pub requests_put_heartbeats_off : RequestsPutHeartbeatsOff
unfolding runs_on_literals
requests_put_heartbeats_off = refl

pub words_renew_leases : WordsRenewLeases
unfolding runs_on_literals
words_renew_leases = refl

pub moments_never_go_back : MomentsNeverGoBack
unfolding runs_on_literals
moments_never_go_back = refl

pub long_leases_begin_at_the_request : LongLeasesBeginAtTheRequest
unfolding runs_on_literals
long_leases_begin_at_the_request = refl

pub partial_replies_are_passed_on : PartialRepliesArePassedOn
unfolding runs_on_literals
partial_replies_are_passed_on = refl

pub leads_are_kept : LeadsAreKept
unfolding runs_on_literals
leads_are_kept = refl

pub refusals_are_in_the_right_version : RefusalsAreInTheRightVersion
unfolding runs_on_literals
refusals_are_in_the_right_version = refl

pub leaving_is_taken_in_any_version : LeavingIsTakenInAnyVersion
unfolding runs_on_literals
leaving_is_taken_in_any_version = refl

pub partial_replies_renew_leases : PartialRepliesRenewLeases
unfolding runs_on_literals
partial_replies_renew_leases = refl

pub the_long_session : TheLongSession
unfolding runs_on_literals
the_long_session = refl

pub queues_fill_by_number : QueuesFillByNumber
unfolding runs_on_literals
queues_fill_by_number = refl

pub queues_fill_by_weight : QueuesFillByWeight
unfolding runs_on_literals
queues_fill_by_weight = refl

pub queues_fill_by_one_byte : QueuesFillByOneByte
unfolding runs_on_literals
queues_fill_by_one_byte = refl

pub waiting_workers_need_no_queue : WaitingWorkersNeedNoQueue
unfolding runs_on_literals
waiting_workers_need_no_queue = refl

pub slow_peers_are_cut_off : SlowPeersAreCutOff
unfolding runs_on_literals
slow_peers_are_cut_off = refl

pub bytes_on_the_way_are_counted : BytesOnTheWayAreCounted
unfolding runs_on_literals
bytes_on_the_way_are_counted = refl

pub bytes_on_the_way_are_counted_one_by_one : BytesOnTheWayAreCountedOneByOne
unfolding runs_on_literals
bytes_on_the_way_are_counted_one_by_one = refl

pub slow_workers_lose_their_request : SlowWorkersLoseTheirRequest
unfolding runs_on_literals
slow_workers_lose_their_request = refl

pub every_event_settles : EveryEventSettles
unfolding runs_on_literals
every_event_settles = refl

pub settling_comes_last : SettlingComesLast
unfolding runs_on_literals
settling_comes_last = refl

pub the_gone_are_not_settled : TheGoneAreNotSettled
unfolding runs_on_literals
the_gone_are_not_settled = refl
