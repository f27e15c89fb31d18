use Rattle.std.proofs.Common.{◌≡◌, ◌-◌, ◌++◌}
use Rattle.mj_tickets.specs.Laws.{AreNumbered}
use Rattle.mj_machine.specs.StoreState.{waiting_tickets}
use Rattle.mj_routing.specs.Holding.{AreTicketsOf}
use Rattle.mj_routing.proofs.WaitingLemmas.{rest_above, with_queue}
use Rattle.mj_routing.proofs.routing.Routing.queue_others.Given as goal

abbrev pub invariant-loop-after : goal.invariant-loop-after
invariant-loop-after l = record {
  numbered : AreNumbered l.store.index;
  end : l.end ≡ l.store.index.next;
  held : AreTicketsOf l.self.held l.held;
  rest : rest_above l.after l.store.index l.self ≡ with_queue l.fn.self (l.fn.self.queue ++ waiting_tickets l.fn.self.held l.store.index);
}

abbrev pub decreases-loop-after : goal.decreases-loop-after
decreases-loop-after l = l.end - l.after
