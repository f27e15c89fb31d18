use Rattle.mj_handshake.proofs.SpellingLemmas.{one_list}
use Rattle.mj_handshake.proofs.laws.one_list.Goals as goal

pub returns : goal.returns
returns c = one_list
