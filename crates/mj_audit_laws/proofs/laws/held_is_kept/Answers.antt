use Rattle.mj_audit_laws.proofs.HeldLemmas.{held-is-kept}
use Rattle.mj_audit_laws.proofs.laws.held_is_kept.Goals as goal

pub returns : goal.returns
returns c = held-is-kept
