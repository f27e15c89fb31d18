use Rattle.std.proofs.Common.{◌≡◌, List, ℕ, false, take, length, ltb}
use Rattle.std.specs.List.{list_any}
use Rattle.mj_ledger.specs.Found.{queue_at}
use Rattle.mj_ledger.proofs.waiting.some_asks.Given as goal

abbrev pub invariant-loop-who : goal.invariant-loop-who
invariant-loop-who l = list_any (λ (who : List ℕ). ltb 0 (length (queue_at l.peers who l.service))) (take l.who-index l.present) ≡ false
