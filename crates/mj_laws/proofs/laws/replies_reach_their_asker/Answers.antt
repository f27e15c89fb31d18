use Rattle.mj_laws.proofs.ReadLemmas.{one_reply}
use Rattle.mj_laws.proofs.ReplyLemmas.{replies_are_owned, replies_are_owned_without}
use Rattle.mj_laws.proofs.laws.replies_reach_their_asker.Goals as goal

pub returns : goal.returns
returns c = record { owned = replies_are_owned; without = replies_are_owned_without; read = one_reply }
