-- What was read so far, on a disk that tells the same.
use Rattle.std.proofs.Common.{◌≡◌, ◌-◌, ◌≤◌, length}
use Rattle.mj_disk.specs.DiskModel.{Now}
use Rattle.mj_journal.specs.Opening.{IsReadTo}
use Rattle.mj_submit_file.specs.Files.{HasRead}
use Rattle.mj_submit_file.proofs.opening.read_all.Given as goal

abbrev pub invariant-reads : goal.invariant-reads
invariant-reads g l = record {
  sized : Now (g.D.Disk.told l.disk) (λ held. l.opening.size ≡ length held.octets);
  ready : Now (g.D.Disk.told l.disk) (IsReadTo l.opening.base l.opening.next);
  read : HasRead l.opening.base l.opening.next l.progress (g.D.Disk.told l.disk);
  base : l.opening.base ≡ l.fn.opening.base;
  same : g.D.Disk.told l.disk ≡ g.D.Disk.told l.fn.disk;
  settled : g.D.Disk.settled_now l.fn.disk → g.D.Disk.settled_now l.disk;
  later : g.D.Disk.time l.fn.disk ≤ g.D.Disk.time l.disk;
  count : g.D.Disk.faults l.fn.disk ≤ g.D.Disk.faults l.disk;
}

abbrev pub decreases-reads : goal.decreases-reads
decreases-reads g l = l.opening.size - l.opening.next
