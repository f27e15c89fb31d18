use Rattle.std.proofs.Common.{◌≡◌, ◌≤◌, ◌-◌}
use Rattle.mj_store.specs.Standing.{IsHeld, Keeps}
use Rattle.mj_compact.specs.Compacting.{CopiesUpto, IsGoing, Reads, Writes}
use Rattle.mj_compact.proofs.copying.copy_all.Given as goal

-- the commands of all tickets up to a number were copied
abbrev pub invariant-loop-number : goal.invariant-loop-number
invariant-loop-number g l = record {
  copied : CopiesUpto g.D.Disk g.E.Disk l.fn.store l.fn.old l.fn.making l.fn.new l.making l.new l.count l.after;
  same : l.store ≡ l.fn.store;
  held : IsHeld g.D.Disk l.store l.old;
  keeps : Keeps g.D.Disk l.fn.store l.fn.old l.store l.old;
  reads : Reads g.D.Disk l.fn.old l.old;
  going : IsGoing g.E.Disk l.making l.new;
  writes : Writes g.E.Disk l.fn.making l.fn.new l.making l.new;
  few : l.count ≤ l.after;
  within : l.after ≤ l.fn.store.index.highest;
}

abbrev pub decreases-loop-number : goal.decreases-loop-number
decreases-loop-number g l = l.fn.store.index.highest - l.after
