use Rattle.std.proofs.Common.{◌≡◌, ◌≤◌, ℕ, List, take}
use Rattle.mj_copy_file.specs.Logs.{IsHeld}
use Rattle.mj_copying.specs.Held.{StandsAt}
use Rattle.mj_copying.specs.Passing.{AreLater, counts}
use Rattle.mj_copying.specs.ShipRun.{Performs}
use Rattle.mj_copying.proofs.shipping.perform_all.Given as goal

abbrev pub invariant-loop-act : goal.invariant-loop-act
invariant-loop-act g l = record {
  held : IsHeld g.D.Disk l.log l.disk;
  done : (payloads : List (List ℕ)) → StandsAt payloads l.log (g.D.Disk.told l.fn.disk) → Performs payloads (g.L.Link.told l.fn.link) (g.L.Link.told l.link) (take l.act-index l.acts);
  later : AreLater (counts (g.L.Link.read_faults l.fn.link) (g.L.Link.write_faults l.fn.link) (g.D.Disk.faults l.fn.disk)) (counts (g.L.Link.read_faults l.link) (g.L.Link.write_faults l.link) (g.D.Disk.faults l.disk));
  same : g.D.Disk.told l.disk ≡ g.D.Disk.told l.fn.disk;
  time : g.D.Disk.time l.fn.disk ≤ g.D.Disk.time l.disk;
}
