-- What an answer unfolds to compute a worked run.
use Rattle.std.specs.Prelude.{⊤}
use Rattle.mj_frame.specs.HeadReading.{head_at}
use Rattle.mj_handshake.specs.ReadyGrammar.{ready_of}
use Rattle.mj_handshake.specs.ReadyReading.{properties_of, property_at}
use Rattle.mj_ids.specs.Ids.{read_of}
use Rattle.mj_journal.specs.FileText.{length_octets}
use Rattle.mj_peer.specs.PeerTexts.{reply_in}
use Rattle.mj_submit.specs.Notes.{line_octets}
use Rattle.mj_wire.specs.NextReading.{frame_next, next_of}
use Rattle.mj_wire.specs.StreamItems.{items_from, items_within, stream_items}
use Rattle.uuid.specs.Text.{by_index}

unfoldable pub runs_on_literals : ⊤
unfolding stream_items items_from items_within next_of frame_next head_at ready_of properties_of property_at reply_in read_of by_index line_octets length_octets
runs_on_literals = tt
