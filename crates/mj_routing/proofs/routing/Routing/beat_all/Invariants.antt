use Rattle.std.proofs.Common.{ℕ, drop}
use Rattle.mj_base.specs.declared.event.Out.{Out}
use Rattle.mj_machine.specs.StoreState.{Told}
use Rattle.mj_machine.specs.MachineState.{Done, State}
use Rattle.mj_machine.specs.Acts.{each}
use Rattle.mj_machine.specs.TickStep.{beats}
use Rattle.mj_routing.specs.RoutingState.{Goes}
use Rattle.mj_keeper.specs.Standing.{told_on}
use Rattle.mj_routing.proofs.routing.Routing.beat_all.Given as goal

abbrev beat : Told → ℕ → State → Done Out
beat told n s = beats n told s

abbrev pub invariant-loop-number : goal.invariant-loop-number
invariant-loop-number l = Goes (each (beat (told_on l.tickets.shelf)) l.number-items l.fn.self) (each (beat (told_on l.tickets.shelf)) (drop l.number-index l.number-items) l.self) l.fn.outs.items l.outs.items
