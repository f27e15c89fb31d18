use Rattle.mj_submit_laws.proofs.BreakLemmas.{breaks-are-right}
use Rattle.mj_submit_laws.proofs.laws.a_submission_may_break_off_at_any_moment.Goals as goal

pub returns : goal.returns
returns c = breaks-are-right
