use Rattle.mj_frame.proofs.HeadLemmas as heads
use Rattle.mj_frame.proofs.laws.every_head_is_read.Goals as goal

pub returns : goal.returns
returns c = heads.every_head_is_read
