use Rattle.mj_queue.proofs.LawLemmas.{pair-is-first}
use Rattle.mj_queue.proofs.laws.a_pair_is_the_first_on_both_sides.Goals as goal

pub returns : goal.returns
returns c = pair-is-first
