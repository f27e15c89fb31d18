use Rattle.mj_wire.proofs.FaultLemmas.{no_cut_exactly, no_cut_read}
use Rattle.mj_wire.proofs.laws.no_cut_is_read.Goals as goal

pub returns : goal.returns
returns c = record { exactly = no_cut_exactly; read = no_cut_read }
