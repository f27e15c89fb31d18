use Rattle.mj_frame.proofs.FrameLemmas.{written_is_spelled, message_is_spelled, one_message}
use Rattle.mj_frame.proofs.laws.written_is_read.Goals as goal

pub returns : goal.returns
returns c = record { frame = written_is_spelled; message = message_is_spelled; once = one_message }
