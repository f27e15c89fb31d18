use Rattle.std.proofs.Common.{◌≡◌, List, ℕ, false, take}
use Rattle.std.specs.List.{list_any}
use Rattle.mj_ledger.specs.Dues.{waits_for_of}
use Rattle.mj_ledger.specs.Found.{hand_at}
use Rattle.mj_ledger.proofs.waiting.some_waits.Given as goal

abbrev pub invariant-loop-who : goal.invariant-loop-who
invariant-loop-who l = list_any (λ (who : List ℕ). waits_for_of (hand_at l.peers who) l.service) (take l.who-index l.present) ≡ false
