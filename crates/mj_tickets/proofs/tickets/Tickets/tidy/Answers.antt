use Rattle.std.proofs.Common.{ap}
use Rattle.mj_tickets.specs.Index.{Kept}
use Rattle.mj_tickets.proofs.KeptLemmas.{taken_kept, taken_index}
use Rattle.mj_tickets.proofs.tickets.Tickets.tidy.Goals as goal

pub invariant_of-self : goal.invariant_of-self
invariant_of-self c = taken_kept c.self.inside.entries.items c.take_out_closed.new.entries.items c.self.inside.highest c.self.inside.next c.self.inside.closed c.self.invariant c.take_out_closed.ensures.items

pub returns-then-self-len-clause-index : goal.returns-then-self-len-clause-index
returns-then-self-len-clause-index c =
    taken_index c.self.inside.entries.items c.take_out_closed.new.entries.items c.self.inside.highest c.self.inside.next c.args.self.now.index (ap (λ (k : Kept). k.index) c.self.view_is) c.take_out_closed.ensures.items
