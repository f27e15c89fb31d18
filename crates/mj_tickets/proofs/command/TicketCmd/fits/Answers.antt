use Rattle.std.proofs.Common.{◌↔◌, ◌+◌, IsTrue, true, length, sym, subst, ap, arith}
use Rattle.mj_tickets.specs.declared.command.TicketCmd.{TicketCmd}
use Rattle.mj_tickets.specs.Payload.{Fits}
use Rattle.mj_tickets.proofs.LengthLemmas.{accept_fits, store_fits, close_fits}
use Rattle.mj_tickets.proofs.command.TicketCmd.fits.Goals as goal

pub returns-in-Accept : goal.returns-in-Accept
returns-in-Accept c =
    let sized = c.octets.ensures.valid.sized in
    let named = ap length c.as_slice.ensures.value in
    subst (λ (cmd : TicketCmd). IsTrue c.body_fits.result ↔ Fits cmd) (sym c.in-Accept.is)
    (accept_fits c.in-Accept.id c.in-Accept.service c.in-Accept.body (18 + length c.as_slice.result.now) c.body_fits.result (omega (arith, sized, named)) c.body_fits.ensures)

pub returns-in-Store : goal.returns-in-Store
returns-in-Store c =
    subst (λ (cmd : TicketCmd). IsTrue c.body_fits-in-Store.result ↔ Fits cmd) (sym c.in-Store.is) (store_fits _ c.in-Store.body c.body_fits-in-Store.result c.body_fits-in-Store.ensures)

pub returns-in-Close : goal.returns-in-Close
returns-in-Close c = subst (λ (cmd : TicketCmd). IsTrue true ↔ Fits cmd) (sym c.in-Close.is) (close_fits _)
