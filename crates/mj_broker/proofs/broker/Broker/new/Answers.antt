use Rattle.std.proofs.Common.{ap, sym, subst, ◌∙◌, ◌++◌, ◌≡◌, is_some, true, []}
use Rattle.mj_base.specs.LawfulLimits.{are_lawful}
use Rattle.mj_machine.specs.MachineState.{State}
use Rattle.mj_machine.specs.StoreState.{waiting_tickets}
use Rattle.mj_keeper.specs.Standing.{told_on}
use Rattle.mj_keeper.specs.declared.keeper.Shelf.{Shelf}
use Rattle.mj_routing.specs.Staying.{IsQueueOf}
use Rattle.mj_broker.proofs.BeginningLemmas.{kept-begun}
use Rattle.mj_broker.proofs.broker.Broker.new.Goals as goal
use Rattle.mj_broker.proofs.broker.Broker.new.Goals.{in-None, in-Some+in_ok-queue_tickets-in-Some}

pub invariant_of-result : goal.invariant_of-result
invariant_of-result c = λ fresh. elim c.match-store.branch [
  | in-None w ↦
      kept-begun c.args.limits.now c.args.seed c.match-store.shelf [] c.match-store.routing c.new.result.items (w.routing-is ∙ c.new-routing.ensures) c.new.ensures.items
      (subst (λ (s : Shelf). IsQueueOf s []) (sym w.shelf-is) tt)
      (subst (λ (s : Shelf). (told_on s).stored ≡ true → are_lawful c.args.limits.now ≡ true) (sym w.shelf-is) (λ e. cc))
  | in-Some+in_ok-queue_tickets-in-Some w ↦
      kept-begun c.args.limits.now c.args.seed c.match-store.shelf (waiting_tickets [] w.in-Some.store.index) c.match-store.routing c.new.result.items
      (w.routing-is ∙ w.in_ok-queue_tickets-in-Some.ensures ∙ ap (λ (s : State). record s { queue = s.queue ++ waiting_tickets s.held w.in-Some.store.index }) c.new-routing.ensures) c.new.ensures.items
      (subst (λ (s : Shelf). IsQueueOf s (waiting_tickets [] w.in-Some.store.index)) (sym w.shelf-is) tt)
      (λ stored. c.requires.lawful (ap is_some w.in-Some.is))
]
