use Rattle.std.proofs.Common.{◌≡◌, drop}
use Rattle.mj_ledger.specs.TranscriptLaws.{same_body}
use Rattle.mj_ledger.proofs.same.is_same_body.Given as goal

abbrev pub invariant-loop-i : goal.invariant-loop-i
invariant-loop-i l = same_body (drop l.i l.a) (drop l.i l.b) ≡ same_body l.a l.b
