use Rattle.std.proofs.Common.{List, length, ap, sym, subst, arith}
use Rattle.std.specs.Io.KnownBytes.{Appends}
use Rattle.std.proofs.KnownBytes.{Appends-nil}
use Rattle.mj_tickets.specs.Fold.{Ticket}
use Rattle.mj_tickets.specs.declared.place.Place.{Place}
use Rattle.mj_prog.specs.Listing.{listing}
use Rattle.mj_prog.proofs.Listings.{count-more, cut-in, cut-off, none-yet, one-more, row-of-all}
use Rattle.mj_prog.proofs.listing.print_tickets.Goals as goal

pub loop-ticket-init : goal.loop-ticket-init
loop-ticket-init g c =
    let none = none-yet c.args.store.now.index c.requires in
    record {
      printed = subst (λ (ts : List (Ticket Place)). Appends (g.K.Sink.written c.args.out.now) (g.K.Sink.written c.args.out.now) (listing ts)) (sym none) (Appends-nil (g.K.Sink.written c.args.out.now));
      counted = omega (arith, ap length none);
      within = omega arith;
      later = omega arith;
    }

pub returns-in-NoMemory-clause-row : goal.returns-in-NoMemory-clause-row
returns-in-NoMemory-clause-row g c =
    cut-off c.args.store.now.index c.requires c.loop-ticket.after (g.K.Sink.written c.args.out.now) (g.K.Sink.written c.loop-ticket.out) (g.K.Sink.written c.print_ticket.new.out) c.loop-ticket.invariant.printed c.in-NoMemory.ensures.octets

pub returns-in-Failed-clause-row : goal.returns-in-Failed-clause-row
returns-in-Failed-clause-row g c =
    cut-in c.args.store.now.index c.requires c.loop-ticket.after _ _ _ _ c.in-Some.ensures.next (g.K.Sink.written c.args.out.now) (g.K.Sink.written c.loop-ticket.out) (g.K.Sink.written c.print_ticket.new.out) c.loop-ticket.invariant.printed c.in-Failed.ensures.octets

pub loop-ticket-smaller : goal.loop-ticket-smaller
loop-ticket-smaller g c = let n = c.in-Some.ensures.next in omega (arith, n.above, n.within)

pub loop-ticket-preserved : goal.loop-ticket-preserved
loop-ticket-preserved g c =
    let n = c.in-Some.ensures.next in
    let i = c.loop-ticket.invariant in
    record {
      printed = one-more c.args.store.now.index c.loop-ticket.after _ _ _ _ n (g.K.Sink.written c.args.out.now) (g.K.Sink.written c.loop-ticket.out) (g.K.Sink.written c.print_ticket.new.out) i.printed c.in-Done.ensures.octets;
      counted = count-more c.args.store.now.index c.loop-ticket.after _ _ _ _ n c.loop-ticket.count c.saturating_add-count.result i.counted c.saturating_add-count.ensures;
      within = n.within;
      later = omega (arith, i.later, c.print_ticket.ensures.later);
    }

pub returns-clause-row : goal.returns-clause-row
returns-clause-row g c =
    let i = c.loop-ticket.invariant in
    row-of-all c.args.store.now.index c.loop-ticket.after c.loop-ticket.count _ _ (g.K.Sink.written c.args.out.now) (g.K.Sink.written c.loop-ticket.out) (g.K.Sink.written c.finish_well.new.out) c.finish_well.result
    c.in_default.ensures.none i.counted i.printed c.finish_well.ensures.prints
