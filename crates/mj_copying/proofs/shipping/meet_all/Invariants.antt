use Rattle.std.proofs.Common.{◌≡◌, ◌≤◌, ℕ, List, length, false}
use Rattle.mj_copy.specs.ShipStands.{shipping_of}
use Rattle.mj_copy_file.specs.Logs.{IsHeld}
use Rattle.mj_copying.specs.Held.{StandsAt}
use Rattle.mj_copying.specs.Passing.{AreLater, counts}
use Rattle.mj_copying.specs.ShipRun.{Ran}
use Rattle.mj_copying.proofs.shipping.meet_all.Given as goal

abbrev pub invariant-loop : goal.invariant-loop
invariant-loop g l = record {
  ready : l.end.spent ≡ false;
  held : IsHeld g.D.Disk l.log l.disk;
  total : (shipping_of l.end).total ≡ length l.log.spots.items;
  ran : (payloads : List (List ℕ)) → StandsAt payloads l.log (g.D.Disk.told l.fn.disk) → Ran payloads (shipping_of l.fn.end) (g.L.Link.told l.fn.link) (g.L.Link.told l.link) (shipping_of l.end);
  later : AreLater (counts (g.L.Link.read_faults l.fn.link) (g.L.Link.write_faults l.fn.link) (g.D.Disk.faults l.fn.disk)) (counts (g.L.Link.read_faults l.link) (g.L.Link.write_faults l.link) (g.D.Disk.faults l.disk));
  same : g.D.Disk.told l.disk ≡ g.D.Disk.told l.fn.disk;
  time : g.D.Disk.time l.fn.disk ≤ g.D.Disk.time l.disk;
}
