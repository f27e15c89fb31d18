use Rattle.std.proofs.Common.{ap, sym, ◌∙◌}
use Rattle.std.proofs.lemmas.Option.{none-some}
use Rattle.mj_tickets.specs.Index.{Kept}
use Rattle.mj_tickets.proofs.KeptLemmas.{stored_kept, stored_index}
use Rattle.mj_tickets.proofs.tickets.Tickets.store.Goals as goal

pub invariant_of-self : goal.invariant_of-self
invariant_of-self c =
    let found = rw c.deref.ensures.value at c.in-Some.ensures.found in
    stored_kept c.args.number c.self.inside.entries.items c.put_standing.new.entries.items c.in-Some.at c.self.inside.highest c.self.inside.next c.self.inside.closed c.args.reply c.self.invariant found c.put_standing.ensures.items

pub returns-clause-ok : goal.returns-clause-ok
returns-clause-ok c =
    let found = rw c.deref.ensures.value at c.in-Some.ensures.found in
    stored_index c.args.number c.self.inside.entries.items c.put_standing.new.entries.items c.in-Some.at c.self.inside.highest c.self.inside.next c.args.reply c.args.self.now.index (ap (λ (k : Kept). k.index) c.self.view_is) found
    c.put_standing.ensures.items

pub returns-clause-unlawful : goal.returns-clause-unlawful
returns-clause-unlawful c = (λ is. (cc), λ none. let some = returns-clause-ok c in absurd (none-some _ (sym none ∙ some)))
