use Rattle.mj_tickets.proofs.AgainLemmas.{one_command, one_body}
use Rattle.mj_tickets.proofs.laws.payloads_are_of_one_command.Goals as goal

pub returns-clause-commands : goal.returns-clause-commands
returns-clause-commands c = one_command

pub returns-clause-bodies : goal.returns-clause-bodies
returns-clause-bodies c = one_body
