-- The two runs, computed.
use Rattle.std.proofs.Common.{refl}
use Rattle.mj_bridge.specs.BridgeRows.{AnsweredRun, LateRun}
use Rattle.mj_frame.specs.HeadReading.{head_at}
use Rattle.mj_handshake.specs.ReadyGrammar.{ready_of}
use Rattle.mj_handshake.specs.ReadyReading.{properties_of, property_at}
use Rattle.mj_peer.specs.PeerTexts.{hello, order_in, reply_in, request_text, said_text}
use Rattle.mj_wire.specs.NextReading.{frame_next, next_of}
use Rattle.mj_wire.specs.StreamItems.{items_from, items_within, stream_items}

pub answered : AnsweredRun
unfolding stream_items items_from items_within next_of frame_next head_at ready_of properties_of property_at hello said_text request_text reply_in order_in
answered = refl

pub too_late : LateRun
unfolding stream_items items_from items_within next_of frame_next head_at ready_of properties_of property_at hello said_text request_text reply_in order_in
too_late = refl
