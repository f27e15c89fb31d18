use Rattle.std.proofs.Common.{◌≡◌, List, drop}
use Rattle.mj_base.specs.declared.event.Out.{Out}
use Rattle.mj_machine.specs.Acts.{each}
use Rattle.mj_machine.specs.EventStep.{item_step}
use Rattle.mj_keeper.specs.Standing.{IsSound}
use Rattle.mj_keeper.specs.declared.keeper.Shelf.TheVariants.{Absent}
use Rattle.mj_routing.specs.Staying.{IsQueueOf, StaysBeside}
use Rattle.mj_titanic.specs.Acting.{Did, Stopped, seen}
use Rattle.mj_titanic.specs.declared.fault.ActFault.{ActFault}
use Rattle.mj_titanic.specs.declared.parts.Parts.{Parts}
use Rattle.mj_broker.specs.Acting.{stores_each}
use Rattle.mj_broker.proofs.happen.take_all.Given as goal

-- what is left, done or ended early, is the whole
abbrev pub invariant-loop-item : goal.invariant-loop-item
invariant-loop-item g l = record {
  done : (new : Parts) (after : g.row.D.Denot) (behind : List Out) → Did g.D.Disk (seen l.parts) l.disk (seen new) after l.outs.items behind (each (item_step l.number) (drop l.item-index l.items)) (stores_each l.number (drop l.item-index l.items))
      → Did g.D.Disk (seen l.fn.parts) l.fn.disk (seen new) after l.fn.outs.items behind (each (item_step l.number) l.items) (stores_each l.number l.items);
  stopped : (fault : ActFault) (after : g.row.D.Denot) → Stopped g.D.Disk fault (seen l.parts) l.disk after (stores_each l.number (drop l.item-index l.items))
      → Stopped g.D.Disk fault (seen l.fn.parts) l.fn.disk after (stores_each l.number l.items);
  sound : IsSound g.D.Disk l.parts.keeping.keeper l.disk;
  stays : StaysBeside l.fn.parts.keeping.keeper.shelf l.parts.keeping.keeper.shelf l.fn.parts.routing l.parts.routing;
  queue : IsQueueOf l.parts.keeping.keeper.shelf l.parts.routing.queue;
  absent : l.fn.parts.keeping.keeper.shelf ≡ Absent → l.parts.keeping.keeper.shelf ≡ Absent;
  keeper : l.parts.keeping.keeper ≡ record l.fn.parts.keeping.keeper { shelf = l.parts.keeping.keeper.shelf };
}
