use Rattle.std.proofs.Common.{◌≡◌, ◌≤◌, ◌-◌, ◌^◌, length, min}
use Rattle.std.specs.Io.KnownBytes.{Appends}
use Rattle.mj_prog.specs.Listing.{listing, upto}
use Rattle.mj_prog.proofs.listing.print_tickets.Given as goal

-- the tickets up to a number are printed
abbrev pub invariant-loop-ticket : goal.invariant-loop-ticket
invariant-loop-ticket g l = record {
  printed : Appends (g.K.Sink.written l.fn.out) (g.K.Sink.written l.out) (listing (upto l.after l.fn.store.index));
  counted : l.count ≡ min (length (upto l.after l.fn.store.index)) (2 ^ 64 - 1);
  within : l.after ≤ l.fn.store.index.highest;
  later : g.K.Sink.faults l.fn.out ≤ g.K.Sink.faults l.out;
}

abbrev pub decreases-loop-ticket : goal.decreases-loop-ticket
decreases-loop-ticket g l = l.fn.store.index.highest - l.after
