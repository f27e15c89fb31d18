use Rattle.std.proofs.Common.{◌≡◌, ◌+◌, List, None, length}
use Rattle.mj_base.specs.declared.event.Out.{Out}
use Rattle.mj_queue.specs.Settling.{pair}
use Rattle.mj_machine.specs.Pairing.{settles}
use Rattle.mj_keeper.specs.Standing.{IsSound}
use Rattle.mj_routing.specs.Staying.{IsQueueOf, StaysBeside}
use Rattle.mj_titanic.specs.Acting.{Did, Stopped, seen}
use Rattle.mj_titanic.specs.declared.fault.ActFault.{ActFault}
use Rattle.mj_titanic.specs.declared.parts.Parts.{Parts}
use Rattle.mj_broker.specs.Acting.{as_it_is}
use Rattle.mj_broker.proofs.settle.settle.Given as goal

-- what is left, done or ended early, is the whole
abbrev pub invariant-loop-offer : goal.invariant-loop-offer
invariant-loop-offer g l = record {
  done : (new : Parts) (after : g.row.D.Denot) (behind : List Out) → Did g.D.Disk (seen l.parts) l.disk (seen new) after l.outs.items behind settles as_it_is
      → Did g.D.Disk (seen l.fn.parts) l.fn.disk (seen new) after l.fn.outs.items behind settles as_it_is;
  stopped : (fault : ActFault) (after : g.row.D.Denot) → Stopped g.D.Disk fault (seen l.parts) l.disk after as_it_is → Stopped g.D.Disk fault (seen l.fn.parts) l.fn.disk after as_it_is;
  sound : IsSound g.D.Disk l.parts.keeping.keeper l.disk;
  stays : StaysBeside l.fn.parts.keeping.keeper.shelf l.parts.keeping.keeper.shelf l.fn.parts.routing l.parts.routing;
  queue : IsQueueOf l.parts.keeping.keeper.shelf l.parts.routing.queue;
  idle : pair l.fn.parts.routing.waiting l.fn.parts.routing.queue ≡ None → pair l.parts.routing.waiting l.parts.routing.queue ≡ None;
  keeper : l.parts.keeping.keeper ≡ record l.fn.parts.keeping.keeper { shelf = l.parts.keeping.keeper.shelf };
}

abbrev pub decreases-loop-offer : goal.decreases-loop-offer
decreases-loop-offer g l = length l.parts.routing.waiting + length l.parts.routing.queue
