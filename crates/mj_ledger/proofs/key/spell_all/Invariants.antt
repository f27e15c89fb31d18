use Rattle.std.proofs.Common.{◌≡◌, ◌++◌, drop}
use Rattle.mj_ledger.specs.Keys.{spelled}
use Rattle.mj_ledger.proofs.key.spell_all.Given as goal

abbrev pub invariant-loop-i : goal.invariant-loop-i
invariant-loop-i l = l.key.items ++ spelled (drop l.i l.frames) ≡ l.initial.key.items ++ spelled l.frames
