use Rattle.std.proofs.Common.{◌≡◌, ◌<◌, ◌≤◌, ℕ, List, length}
use Rattle.mj_audit_prog.specs.AuditingSoFar.{SoFar}
use Rattle.mj_audit_prog.specs.Reading.{IsReady}
use Rattle.mj_audit_prog.proofs.pieces.read_all.Given as goal

abbrev pub invariant-loop : goal.invariant-loop
invariant-loop g l = record {
  ready : IsReady l.reader;
  room : 0 < length l.buffer;
  small : length l.buffer ≤ 4096;
  read : List ℕ;
  so_far : SoFar (g.S.Source.left l.fn.src) (g.S.Source.left l.src) l.reader l.taken read;
  turns : l.counter ≤ length read;
  later : g.S.Source.faults l.fn.src ≤ g.S.Source.faults l.src;
  misses : g.S.Source.misses l.src ≡ g.S.Source.misses l.fn.src;
}
