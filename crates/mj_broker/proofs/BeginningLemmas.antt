-- A broker with nobody connected.
use Rattle.std.proofs.Common.{◌≡◌, true, false, ℕ, List, [], ◌∷◌, is_some, Option, None, Some, refl, sym, ◌∙◌}
use Rattle.std.specs.List.{list_any}
use Rattle.mj_base.specs.LawfulLimits.{are_lawful}
use Rattle.mj_base.specs.declared.limits.Limits.{Limits}
use Rattle.mj_queue.specs.Settling.{Pair, has_waiter, pair}
use Rattle.mj_queue.specs.declared.request.Request.{Request}
use Rattle.mj_queue.proofs.LawLemmas.{some-pair}
use Rattle.mj_machine.specs.MachineState.{State, start_state}
use Rattle.mj_keeper.specs.Standing.{told_on}
use Rattle.mj_keeper.specs.declared.keeper.Shelf.{Shelf}
use Rattle.mj_routing.specs.Staying.{IsQueueOf}
use Rattle.mj_broker.specs.BrokerState.{IsKept}
use Rattle.mj_broker.specs.declared.wires.Link.{Link}

nobody : (queue : List Request) → list_any (has_waiter []) queue ≡ false
nobody [] = refl
nobody (r ∷ rs) = nobody rs

no-pair : (found : Option Pair) → is_some found ≡ false → found ≡ None
no-pair None e = refl
no-pair (Some p) e = cc

pub kept-begun : (limits : Limits) (seed : List ℕ) (shelf : Shelf) (queue : List Request) (routing : State) (wires : List Link) → routing ≡ record (start_state limits) { queue = queue } → wires ≡ [] → IsQueueOf shelf queue
    → ((told_on shelf).stored ≡ true → are_lawful limits ≡ true) → IsKept (record { limits = limits; seed = seed; shelf = shelf }) routing wires
kept-begun limits seed shelf queue routing wires is none clients lawful = rw none (rw is (record {
  settled = record {
    ready = record { covered = λ n e. refl; fresh = λ n. tt };
    ended = λ n e. refl;
    settled = no-pair (pair [] queue) (sym (some-pair [] queue) ∙ nobody queue);
  };
  queue = clients;
  lawful = lawful;
  limited = λ n. tt;
}))
