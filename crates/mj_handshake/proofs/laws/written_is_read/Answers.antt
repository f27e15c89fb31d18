use Rattle.mj_handshake.proofs.LawLemmas.{read_again}
use Rattle.mj_handshake.proofs.laws.written_is_read.Goals as goal

pub returns : goal.returns
returns c = read_again
