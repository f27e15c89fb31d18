use Rattle.std.proofs.Common.{subst}
use Rattle.mj_tickets.specs.declared.command.TicketCmd.{TicketCmd}
use Rattle.mj_tickets.specs.Payload.{FitsBody, body_of}
use Rattle.mj_tickets.proofs.LengthLemmas.{fits_body}
use Rattle.mj_tickets.proofs.writing.append_cmd.Goals as goal

pub append_body-requires : goal.append_body-requires
append_body-requires c = subst (λ (cmd : TicketCmd). FitsBody (body_of cmd)) c.in-Accept.is (fits_body c.args.cmd.now c.requires)

pub append_body-requires-in-Store : goal.append_body-requires-in-Store
append_body-requires-in-Store c = subst (λ (cmd : TicketCmd). FitsBody (body_of cmd)) c.in-Store.is (fits_body c.args.cmd.now c.requires)
