use Rattle.std.proofs.Common.{◌≡◌, length}
use Rattle.mj_disk.specs.DiskModel.{Now}
use Rattle.mj_journal.specs.Opening.{IsReadTo}
use Rattle.mj_journal_tests.proofs.tests.open.Given as goal

-- what `begin` hands on, and `next`
abbrev pub invariant-loop-count : goal.invariant-loop-count
invariant-loop-count g l = record {
  size : Now (g.D.Disk.told l.disk) (λ held. l.opening.size ≡ length held.octets);
  file : Now (g.D.Disk.told l.disk) (IsReadTo l.opening.base l.opening.next);
}
