use Rattle.std.proofs.Common.{ap}
use Rattle.mj_tickets.specs.Index.{Kept}
use Rattle.mj_tickets.proofs.KeptLemmas.{are_numbered}
use Rattle.mj_tickets.proofs.TicketLemmas.{known_numbered}
use Rattle.mj_tickets.proofs.tickets.Tickets.state.Goals as goal

pub returns-clause-number : goal.returns-clause-number
returns-clause-number c = λ t is.
    let index = c.args.self.now.index in
    let numbered = are_numbered c.self.inside.entries.items c.self.inside.highest c.self.inside.next c.self.inside.closed index c.self.invariant (ap (λ (k : Kept). k.index) c.self.view_is) in
    known_numbered index.tickets index.highest c.args.id.now t numbered.named numbered.rise is
