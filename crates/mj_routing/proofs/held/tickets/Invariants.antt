use Rattle.std.proofs.Common.{ℕ, ◌≡◌, ◌||◌, nat_eq}
use Rattle.std.specs.HashSet.{contains}
use Rattle.std.specs.HashMap.{values}
use Rattle.mj_routing.proofs.HoldingLemmas.{asks}
use Rattle.mj_routing.proofs.held.tickets.Given as goal

abbrev pub invariant-loop-request : goal.invariant-loop-request
invariant-loop-request l = (n : ℕ) → (contains nat_eq l.tickets n || asks n l.request-iterator) ≡ asks n (values l.held)
