use Rattle.mj_bridge.proofs.FreeLemmas.{far-is-free}
use Rattle.mj_bridge.proofs.laws.a_bridge_asks_far_where_nothing_is_open.Goals as goal

pub returns : goal.returns
returns c = far-is-free
