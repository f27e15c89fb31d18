use Rattle.mj_copy_law.proofs.Fronts.{fronts_are_read, written_is_read}
use Rattle.mj_copy_law.proofs.Written.{read_is_written}
use Rattle.mj_copy_law.proofs.laws.messages_are_read.Goals as goal

pub returns : goal.returns
returns c = record { written = written_is_read; fronts = fronts_are_read; back = read_is_written }
