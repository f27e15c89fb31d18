use Rattle.std.proofs.Common.{◌∙◌, ap, sym, subst}
use Rattle.mj_queue.specs.declared.request.Origin.TheVariants.{Client, Ticket}
use Rattle.mj_hall.specs.declared.leaving.Whose.{Whose}
use Rattle.mj_hall.specs.Whose.{stays}
use Rattle.mj_hall.proofs.LeavingLemmas.{ClauseSome, ClauseNone, client_stays, if_last, if_no_last, if_no_ticket, if_ticket, ticket_stays}
use Rattle.mj_hall.proofs.leaving.last_whose.Goals as goal

pub returns-in-Client-clause-some : goal.returns-in-Client-clause-some
returns-in-Client-clause-some g c =
    if_last c.args.whose (Client c.in-Client.number) (λ r. ap (λ (w : Whose). stays w r) c.in-Client.is ∙ client_stays c.in-Client.number r) c.args.clients.now.pairs c.args.tickets.now.pairs c.last_of.result c.last_of.ensures.last

pub returns-in-Client-clause-none : goal.returns-in-Client-clause-none
returns-in-Client-clause-none g c =
    if_no_last c.args.whose (Client c.in-Client.number) (λ r. ap (λ (w : Whose). stays w r) c.in-Client.is ∙ client_stays c.in-Client.number r) c.args.clients.now.pairs c.args.tickets.now.pairs c.last_of.result c.last_of.ensures.last

pub returns-in-Ticket-clause-some : goal.returns-in-Ticket-clause-some
returns-in-Ticket-clause-some g c =
    if_last c.args.whose (Ticket c.in-Ticket.number) (λ r. ap (λ (w : Whose). stays w r) c.in-Ticket.is ∙ ticket_stays c.in-Ticket.number r) c.args.clients.now.pairs c.args.tickets.now.pairs c.last_of-in-Ticket.result c.last_of-in-Ticket.ensures.last

pub returns-in-Ticket-clause-none : goal.returns-in-Ticket-clause-none
returns-in-Ticket-clause-none g c =
    if_no_last c.args.whose (Ticket c.in-Ticket.number) (λ r. ap (λ (w : Whose). stays w r) c.in-Ticket.is ∙ ticket_stays c.in-Ticket.number r) c.args.clients.now.pairs c.args.tickets.now.pairs c.last_of-in-Ticket.result c.last_of-in-Ticket.ensures.last

pub returns-in-Tickets-clause-some : goal.returns-in-Tickets-clause-some
returns-in-Tickets-clause-some g c =
    subst (λ (w : Whose). ClauseSome w c.args.clients.now.pairs c.args.tickets.now.pairs c.some_key.result) (sym c.in-Tickets.is) (if_ticket c.args.clients.now.pairs c.args.tickets.now.pairs c.some_key.result c.some_key.ensures.some)

pub returns-in-Tickets-clause-none : goal.returns-in-Tickets-clause-none
returns-in-Tickets-clause-none g c =
    subst (λ (w : Whose). ClauseNone w c.args.clients.now.pairs c.args.tickets.now.pairs c.some_key.result) (sym c.in-Tickets.is) (if_no_ticket c.args.clients.now.pairs c.args.tickets.now.pairs c.some_key.result c.some_key.ensures.none)
