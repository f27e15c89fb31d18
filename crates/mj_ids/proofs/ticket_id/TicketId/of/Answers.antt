use Rattle.std.proofs.Common.{◌∙◌, ap}
use Rattle.mj_ids.specs.Ids.{number_of}
use Rattle.mj_ids.proofs.NumberLemmas.{number-id_with}
use Rattle.mj_ids.proofs.ticket_id.TicketId.of.Goals as goal

pub returns-clause-number : goal.returns-clause-number
returns-clause-number c = ap number_of c.layout-uuid.ensures ∙ number-id_with c.words_of-first.result.0 c.words_of-first.result.1 c.args.number c.requires
