use Rattle.mj_laws.proofs.StorelessLemmas.{nothing_is_kept}
use Rattle.mj_laws.proofs.laws.nothing_is_kept_without_a_store.Goals as goal

pub returns : goal.returns
returns c = nothing_is_kept
