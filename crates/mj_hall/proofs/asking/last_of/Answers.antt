use Rattle.std.proofs.Common.{ℕ}
use Rattle.mj_queue.specs.declared.request.Origin.TheVariants.{Client, Ticket}
use Rattle.mj_hall.proofs.AskingLemmas.{last_is}
use Rattle.mj_hall.proofs.asking.last_of.Goals as goal

pub returns-in-Client-clause-last : goal.returns-in-Client-clause-last
returns-in-Client-clause-last g c =
    λ requests es asking. last_is (λ (n : ℕ). Client n) c.args.origin c.in-Client.number c.key_for.result c.args.clients.now.pairs es c.in-Client.is c.key_for.ensures.some c.key_for.ensures.none asking.by_client

pub returns-in-Ticket-clause-last : goal.returns-in-Ticket-clause-last
returns-in-Ticket-clause-last g c =
    λ requests es asking. last_is (λ (n : ℕ). Ticket n) c.args.origin c.in-Ticket.number c.key_for-in-Ticket.result c.args.tickets.now.pairs es c.in-Ticket.is c.key_for-in-Ticket.ensures.some c.key_for-in-Ticket.ensures.none asking.by_ticket
