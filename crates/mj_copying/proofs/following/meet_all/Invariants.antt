use Rattle.std.proofs.Common.{◌≡◌, ℕ, Option, false}
use Rattle.mj_copying.specs.FollowRun.{Copying}
use Rattle.mj_copying.specs.FollowState.{Goes, IsRunning, Runs}
use Rattle.mj_copying.specs.Passing.{AreLater, counts}
use Rattle.mj_disk.specs.DiskModel.{History}
use Rattle.mj_copying.proofs.following.meet_all.Given as goal

abbrev pub invariant-loop : goal.invariant-loop
invariant-loop g l = record {
  ready : l.end.spent ≡ false;
  runs : IsRunning g.D.Disk l.end l.log l.disk;
  goes : (start : Option History) (since : ℕ) (c : Copying) → Runs g.D.Disk start since c l.fn.end l.fn.log l.fn.disk → Goes g.D.Disk start since c (g.L.Link.told l.fn.link) (g.L.Link.told l.link) l.end l.log l.disk;
  later : AreLater (counts (g.L.Link.read_faults l.fn.link) (g.L.Link.write_faults l.fn.link) (g.D.Disk.faults l.fn.disk)) (counts (g.L.Link.read_faults l.link) (g.L.Link.write_faults l.link) (g.D.Disk.faults l.disk));
}
