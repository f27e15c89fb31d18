-- The worked transcripts, computed.
use Rattle.std.proofs.Common.{refl}
use Rattle.mj_frame.specs.HeadReading.{head_at}
use Rattle.mj_handshake.specs.ReadyGrammar.{ready_of}
use Rattle.mj_handshake.specs.ReadyReading.{properties_of, property_at}
use Rattle.mj_wire.specs.NextReading.{frame_next, next_of}
use Rattle.mj_wire.specs.StreamItems.{items_from, items_within, stream_items}
use Rattle.mj_transcript.specs.Worked.{RequestsAreAnswered, KeptRequestsAreSeen, KeptRequestsAreSeenAtTheEnd, ForeignAnswersAreSeen, SecondAnswersAreSeen, AnswersOfNobodyAreSeen, ChangedRequestsAreSeen, SecondRequestsAreSeen, BusyWorkersAreSeen, UnreadyWorkersAreSeen, LapsedWorkersAreSeen, LateRepliesAreSeen, LaterOwnersAreSeen, WrongMessagesAreSeen, WrongBytesAreSeen, OwnNamesArePassedOver, OtherNamesAreJudged, TwoMessagesAreUnlawful, OldAddressesAreUnlawful, ClosedLanesAreUnlawful}

pub requests_are_answered : RequestsAreAnswered
unfolding stream_items items_from items_within next_of frame_next head_at ready_of property_at properties_of
requests_are_answered = refl

pub kept_requests_are_seen : KeptRequestsAreSeen
unfolding stream_items items_from items_within next_of frame_next head_at ready_of property_at properties_of
kept_requests_are_seen = refl

pub kept_requests_are_seen_at_the_end : KeptRequestsAreSeenAtTheEnd
unfolding stream_items items_from items_within next_of frame_next head_at ready_of property_at properties_of
kept_requests_are_seen_at_the_end = refl

pub foreign_answers_are_seen : ForeignAnswersAreSeen
unfolding stream_items items_from items_within next_of frame_next head_at ready_of property_at properties_of
foreign_answers_are_seen = refl

pub second_answers_are_seen : SecondAnswersAreSeen
unfolding stream_items items_from items_within next_of frame_next head_at ready_of property_at properties_of
second_answers_are_seen = refl

pub answers_of_nobody_are_seen : AnswersOfNobodyAreSeen
unfolding stream_items items_from items_within next_of frame_next head_at ready_of property_at properties_of
answers_of_nobody_are_seen = refl

pub changed_requests_are_seen : ChangedRequestsAreSeen
unfolding stream_items items_from items_within next_of frame_next head_at ready_of property_at properties_of
changed_requests_are_seen = refl

pub second_requests_are_seen : SecondRequestsAreSeen
unfolding stream_items items_from items_within next_of frame_next head_at ready_of property_at properties_of
second_requests_are_seen = refl

pub busy_workers_are_seen : BusyWorkersAreSeen
unfolding stream_items items_from items_within next_of frame_next head_at ready_of property_at properties_of
busy_workers_are_seen = refl

pub unready_workers_are_seen : UnreadyWorkersAreSeen
unfolding stream_items items_from items_within next_of frame_next head_at ready_of property_at properties_of
unready_workers_are_seen = refl

pub lapsed_workers_are_seen : LapsedWorkersAreSeen
unfolding stream_items items_from items_within next_of frame_next head_at ready_of property_at properties_of
lapsed_workers_are_seen = refl

pub late_replies_are_seen : LateRepliesAreSeen
unfolding stream_items items_from items_within next_of frame_next head_at ready_of property_at properties_of
late_replies_are_seen = refl

pub later_owners_are_seen : LaterOwnersAreSeen
unfolding stream_items items_from items_within next_of frame_next head_at ready_of property_at properties_of
later_owners_are_seen = refl

pub wrong_messages_are_seen : WrongMessagesAreSeen
unfolding stream_items items_from items_within next_of frame_next head_at ready_of property_at properties_of
wrong_messages_are_seen = refl

pub wrong_bytes_are_seen : WrongBytesAreSeen
unfolding stream_items items_from items_within next_of frame_next head_at ready_of property_at properties_of
wrong_bytes_are_seen = refl

pub own_names_are_passed_over : OwnNamesArePassedOver
unfolding stream_items items_from items_within next_of frame_next head_at ready_of property_at properties_of
own_names_are_passed_over = refl

pub other_names_are_judged : OtherNamesAreJudged
unfolding stream_items items_from items_within next_of frame_next head_at ready_of property_at properties_of
other_names_are_judged = refl

pub two_messages_are_unlawful : TwoMessagesAreUnlawful
unfolding stream_items items_from items_within next_of frame_next head_at ready_of property_at properties_of
two_messages_are_unlawful = refl

pub old_addresses_are_unlawful : OldAddressesAreUnlawful
unfolding stream_items items_from items_within next_of frame_next head_at ready_of property_at properties_of
old_addresses_are_unlawful = refl

pub closed_lanes_are_unlawful : ClosedLanesAreUnlawful
unfolding stream_items items_from items_within next_of frame_next head_at ready_of property_at properties_of
closed_lanes_are_unlawful = refl
