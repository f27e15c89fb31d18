use Rattle.std.proofs.Common.{ap, option_map, sym, ◌∙◌}
use Rattle.mj_ids.specs.Ids.{number_of}
use Rattle.mj_prog.proofs.Listings.{all-of, next-of, triple}
use Rattle.mj_prog.proofs.listing.next_ticket.Goals as goal

pub returns-in-Some-clause-next : goal.returns-in-Some-clause-next
returns-in-Some-clause-next c =
    let t = c.ticket_of.ensures in
    let own = c.in-Some.id-1-own.given in
    next-of c.args.after c.args.store.now.index c.ticket_of.result.number c.ticket_of.result.id c.ticket_of.result.service c.ticket_of.result.stored c.requires (t.number ∙ ap number_of (sym t.id))
    (triple _ _ _ _ _ _ t.id t.service t.stored ∙ ap (option_map (λ (p : _). (p.0, p.1.now, p.2))) (sym own.1) ∙ c.listed.ensures)

pub returns-in-None-clause-none : goal.returns-in-None-clause-none
returns-in-None-clause-none c = all-of c.args.after c.args.store.now.index c.in-None.ensures
