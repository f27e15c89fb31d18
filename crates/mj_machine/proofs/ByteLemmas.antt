-- The worked runs on bytes, computed.
use Rattle.std.proofs.Common.{refl}
use Rattle.mj_frame.specs.HeadReading.{head_at}
use Rattle.mj_handshake.specs.ReadyGrammar.{ready_of}
use Rattle.mj_handshake.specs.ReadyReading.{properties_of, property_at}
use Rattle.mj_wire.specs.NextReading.{frame_next, next_of}
use Rattle.mj_wire.specs.StreamItems.{items_from, items_within, stream_items}
use Rattle.mj_machine.proofs.OnLiterals.{runs_on_literals}
use Rattle.mj_machine.specs.ByteRuns.{PiecesAreRead, SingleBytesAreRead, LongSizesAreRead, OtherMechanismsAreRefused, OlderVersionsAreRefused, FaultsEndConnections, LongMessagesAreRefused, RequestsAreRoutedAsBytes}

pub pieces_are_read : PiecesAreRead
unfolding runs_on_literals stream_items items_from items_within next_of frame_next head_at ready_of property_at properties_of
pieces_are_read = refl

pub single_bytes_are_read : SingleBytesAreRead
unfolding runs_on_literals stream_items items_from items_within next_of frame_next head_at ready_of property_at properties_of
single_bytes_are_read = refl

pub long_sizes_are_read : LongSizesAreRead
unfolding runs_on_literals stream_items items_from items_within next_of frame_next head_at ready_of property_at properties_of
long_sizes_are_read = refl

pub other_mechanisms_are_refused : OtherMechanismsAreRefused
unfolding runs_on_literals stream_items items_from items_within next_of frame_next head_at ready_of property_at properties_of
other_mechanisms_are_refused = refl

pub older_versions_are_refused : OlderVersionsAreRefused
unfolding runs_on_literals stream_items items_from items_within next_of frame_next head_at ready_of property_at properties_of
older_versions_are_refused = refl

pub faults_end_connections : FaultsEndConnections
unfolding runs_on_literals stream_items items_from items_within next_of frame_next head_at ready_of property_at properties_of
faults_end_connections = refl

pub long_messages_are_refused : LongMessagesAreRefused
unfolding runs_on_literals stream_items items_from items_within next_of frame_next head_at ready_of property_at properties_of
long_messages_are_refused = refl

pub requests_are_routed_as_bytes : RequestsAreRoutedAsBytes
unfolding runs_on_literals stream_items items_from items_within next_of frame_next head_at ready_of property_at properties_of
requests_are_routed_as_bytes = refl
