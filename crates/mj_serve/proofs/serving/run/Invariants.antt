use Rattle.std.proofs.Common.{◌≡◌, ◌+◌, ◌≤◌, ◌^◌, false, None}
use Rattle.mj_base.specs.declared.limits.Limits.{Limits}
use Rattle.mj_broker.specs.Handling.{limits_of}
use Rattle.mj_keeper.specs.Standing.{IsSound}
use Rattle.mj_keeper.specs.declared.keeper.Shelf.TheVariants.{Absent}
use Rattle.mj_machine.specs.MachineState.{Machine}
use Rattle.mj_serve.specs.Counts.{no_counts}
use Rattle.mj_serve.specs.Running.{Ran, Stood}
use Rattle.mj_serve.proofs.serving.run.Given as goal

abbrev pub invariant-loop : goal.invariant-loop
invariant-loop g l = record {
  ran : (origin : g.row.P.Denot) (began : g.row.D.Denot) (limits : Limits) (first : Machine)
      → Ran g.P.Ports.stand g.D.Disk origin began limits first l.fn.ports l.fn.disk l.fn.broker no_counts
      → Ran g.P.Ports.stand g.D.Disk origin began limits first l.ports l.disk l.broker l.summary;
  stood : (origin : g.row.P.Denot) → Stood g.P.Ports.stand origin l.fn.ports → Stood g.P.Ports.stand origin l.ports;
  silent : g.D.Disk.told l.disk ≡ None → g.D.Disk.told l.fn.disk ≡ None;
  plain : l.fn.broker.keeper.shelf ≡ Absent → (l.broker.keeper.shelf ≡ Absent) × (g.D.Disk.told l.disk ≡ g.D.Disk.told l.fn.disk);
  going : g.P.Ports.stopped l.ports ≡ false;
  lanes : g.P.Ports.lanes_in l.ports ≤ (limits_of l.broker).lanes;
  few : l.broker.state.next + g.P.Ports.left l.ports ≤ 2 ^ 60;
  fresh : l.broker.spent ≡ false;
  sound : IsSound g.D.Disk l.broker.keeper l.disk;
}

abbrev pub decreases-loop : goal.decreases-loop
decreases-loop g l = g.P.Ports.left l.ports
