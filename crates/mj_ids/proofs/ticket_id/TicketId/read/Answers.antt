use Rattle.mj_ids.proofs.TextLemmas.{read_if_some, read_if_none}
use Rattle.mj_ids.proofs.ticket_id.TicketId.read.Goals as goal

pub returns-clause-found : goal.returns-clause-found
returns-clause-found c = read_if_some c.args.text.now c.id_of_text.result c.id_of_text.ensures

pub returns-clause-only : goal.returns-clause-only
returns-clause-only c = read_if_none c.args.text.now c.id_of_text.result c.id_of_text.ensures
