use Rattle.mj_submit_laws.proofs.SubmitLemmas.{runs-are-right}
use Rattle.mj_submit_laws.proofs.laws.a_ticket_is_closed_only_behind_its_printed_reply.Goals as goal

pub returns : goal.returns
returns c = runs-are-right
