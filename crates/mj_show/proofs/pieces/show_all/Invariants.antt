use Rattle.std.proofs.Common.{◌≡◌, ◌<◌, ◌≤◌, ℕ, List, false, length}
use Rattle.mj_show.specs.ShowingSoFar.{SoFar}
use Rattle.mj_show.proofs.pieces.show_all.Given as goal

abbrev pub invariant-loop : goal.invariant-loop
invariant-loop g l = record {
  ready : l.wire.spent ≡ false;
  room : 0 < length l.buffer;
  read : List ℕ;
  so_far : SoFar (g.S.Source.left l.fn.src) (g.S.Source.left l.src) (g.K.Sink.written l.fn.out) (g.K.Sink.written l.out) l.wire read;
  turns : l.counter ≤ length read;
  later : g.K.Sink.faults l.fn.out ≤ g.K.Sink.faults l.out;
  wants_later : g.K.Sink.wants l.fn.out ≤ g.K.Sink.wants l.out;
  reads_later : g.S.Source.faults l.fn.src ≤ g.S.Source.faults l.src;
  misses : g.S.Source.misses l.src ≡ g.S.Source.misses l.fn.src;
}
