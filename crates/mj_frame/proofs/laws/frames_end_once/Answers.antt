use Rattle.mj_frame.proofs.FrameLemmas.{frame_starts_none, one_reading}
use Rattle.mj_frame.proofs.laws.frames_end_once.Goals as goal

pub returns : goal.returns
returns c = record { frame = frame_starts_none; list = one_reading }
