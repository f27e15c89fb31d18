use Rattle.mj_copy_law.proofs.Safety.{copy_is_a_prefix}
use Rattle.mj_copy_law.proofs.laws.the_copy_is_a_prefix.Goals as goal

pub returns : goal.returns
returns c = copy_is_a_prefix
