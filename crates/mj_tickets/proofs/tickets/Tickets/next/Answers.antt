use Rattle.std.proofs.Common.{ap}
use Rattle.mj_tickets.specs.Index.{Kept}
use Rattle.mj_tickets.proofs.KeptLemmas.{are_numbered}
use Rattle.mj_tickets.proofs.tickets.Tickets.next.Goals as goal

pub returns-clause-numbered : goal.returns-clause-numbered
returns-clause-numbered c = are_numbered c.self.inside.entries.items c.self.inside.highest c.self.inside.next c.self.inside.closed c.args.self.now.index c.self.invariant (ap (λ (k : Kept). k.index) c.self.view_is)
