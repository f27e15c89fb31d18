use Rattle.std.proofs.Common.{take, ◌≤◌}
use Rattle.std.specs.Io.KnownBytes.{Appends}
use Rattle.mj_show.specs.Showing.{item_lines}
use Rattle.mj_show.proofs.printing.print_all.Given as goal

abbrev pub invariant-loop-item : goal.invariant-loop-item
invariant-loop-item g l = record {
  done : Appends (g.K.Sink.written l.fn.out) (g.K.Sink.written l.out) (item_lines (take l.item-index l.items));
  later : g.K.Sink.faults l.fn.out ≤ g.K.Sink.faults l.out;
  wants_later : g.K.Sink.wants l.fn.out ≤ g.K.Sink.wants l.out;
}
