use Rattle.std.proofs.Common.{◌≡◌, ◌++◌, drop}
use Rattle.mj_ledger.specs.Keys.{spelled_frame}
use Rattle.mj_ledger.proofs.key.spell.Given as goal

abbrev pub invariant-loop-octet : goal.invariant-loop-octet
invariant-loop-octet l = l.key.items ++ spelled_frame (drop l.octet-index l.frame) ≡ l.initial.key.items ++ spelled_frame l.frame
