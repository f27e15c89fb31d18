use Rattle.std.proofs.Common.{ap, sym, ◌∙◌, Some}
use Rattle.std.proofs.lemmas.Option.{none-some}
use Rattle.mj_tickets.specs.Index.{Kept}
use Rattle.mj_tickets.proofs.KeptLemmas.{closed_kept, closed_index}
use Rattle.mj_tickets.proofs.tickets.Tickets.close.Goals as goal

pub invariant_of-self : goal.invariant_of-self
invariant_of-self c =
    let found = rw c.deref.ensures.value at c.in-Some.ensures.found in
    closed_kept c.args.number c.self.inside.entries.items c.put_standing.new.entries.items c.in-Some.at c.self.inside.highest c.self.inside.next c.self.inside.closed c.self.invariant found c.put_standing.ensures.items

pub returns-clause-ok : goal.returns-clause-ok
returns-clause-ok c =
    let found = rw c.deref.ensures.value at c.in-Some.ensures.found in
    closed_index c.args.number c.self.inside.entries.items c.put_standing.new.entries.items c.in-Some.at c.self.inside.highest c.self.inside.next c.args.self.now.index (ap (λ (k : Kept). k.index) c.self.view_is) found c.put_standing.ensures.items
    ∙ ap Some (sym c.tidy.ensures.index)

pub returns-clause-unlawful : goal.returns-clause-unlawful
returns-clause-unlawful c = (λ is. (cc), λ none. let some = returns-clause-ok c in absurd (none-some _ (sym none ∙ some)))
