use Rattle.std.proofs.Common.{◌++◌, List, ℕ, take}
use Rattle.mj_audit_prog.specs.Reading.{IsRead, IsReady}
use Rattle.mj_audit_prog.proofs.reader.Reader.take_piece.Given as goal

abbrev pub invariant-loop-octet : goal.invariant-loop-octet
invariant-loop-octet l = record {
  ready : IsReady l.self;
  goes : (read : List ℕ) → IsRead l.fn.self read → IsRead l.self (read ++ take l.octet-index l.piece);
}
