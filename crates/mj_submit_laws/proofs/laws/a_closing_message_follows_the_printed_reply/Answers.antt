use Rattle.mj_submit_laws.proofs.CloseLemmas.{closings-follow}
use Rattle.mj_submit_laws.proofs.laws.a_closing_message_follows_the_printed_reply.Goals as goal

pub returns : goal.returns
returns c = closings-follow
