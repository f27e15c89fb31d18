use Rattle.std.proofs.Common.{Err, ap, refl, subst, sym, arith, ◌∙◌}
use Rattle.mj_journal.specs.declared.fault.OpenFault.{OpenFault}
use Rattle.mj_compact.specs.declared.fault.CompactFault.{CompactFault}
use Rattle.mj_compact.specs.Compacting.{IsWhy}
use Rattle.mj_compact.proofs.Ending.{compacted, going_on, not_there, not_whole, not_written, nothing_yet, numbers_above, whole_or_none, why_unopened}
use Rattle.mj_compact.proofs.files.compact.Goals as goal

pub returns-in-Err-clause-images : goal.returns-in-Err-clause-images
returns-in-Err-clause-images g c = nothing_yet g.D.Disk g.E.Disk c.args.old.now c.args.new.now (g.met.E.Disk.in_time c.args.new.now)

pub returns-in-Err-clause-why : goal.returns-in-Err-clause-why
returns-in-Err-clause-why g c =
    subst (λ (fault : CompactFault). IsWhy g.D.Disk g.E.Disk c.args.old.now c.open.new.disk c.args.new.now c.args.new.now fault) (sym c.fault_in.ensures)
    (why_unopened g.D.Disk g.E.Disk c.args.old.now c.open.new.disk c.args.new.now c.in-Err.fault c.in-Err.ensures.unopened (λ e. c.in-Err.ensures.cause (ap (λ (fault : OpenFault). Err fault) e)))

pub returns-then-base-gt-MOST_BASE-clause-images : goal.returns-then-base-gt-MOST_BASE-clause-images
returns-then-base-gt-MOST_BASE-clause-images g c = nothing_yet g.D.Disk g.E.Disk c.args.old.now c.args.new.now (g.met.E.Disk.in_time c.args.new.now)

pub returns-then-base-gt-MOST_BASE-clause-why : goal.returns-then-base-gt-MOST_BASE-clause-why
returns-then-base-gt-MOST_BASE-clause-why g c =
    (refl, numbers_above g.D.Disk c.args.old.now c.open.new.disk c.in-Ok.store c.next-base.result c.in-Ok.ensures.begins c.in-Ok.ensures.telling c.next-base.ensures.value (omega (arith, c.if-base-gt-MOST_BASE.true)))

pub returns-in-Err-DiskFault-clause-unwritten : goal.returns-in-Err-DiskFault-clause-unwritten
returns-in-Err-DiskFault-clause-unwritten g c = not_written g.E.Disk c.args.new.now c.begin.new.disk c.in-Err-DiskFault.ensures.kept

pub returns-in-Err-copy_all-clause-unwritten : goal.returns-in-Err-copy_all-clause-unwritten
returns-in-Err-copy_all-clause-unwritten g c = not_there g.E.Disk c.args.new.now c.copy_all.new.new c.in-Ok-begin.ensures.empty

pub returns-in-Err-copy_all-clause-images : goal.returns-in-Err-copy_all-clause-images
returns-in-Err-copy_all-clause-images g c =
    not_whole g.D.Disk g.E.Disk c.args.old.now c.args.new.now c.copy_all.new.new
    (going_on g.E.Disk c.args.new.now c.begin.new.disk c.copy_all.new.new c.in-Ok-begin.ensures.unfinished c.in-Err-copy_all.ensures.writes.crash)

pub returns-in-Ok-finish-clause-done : goal.returns-in-Ok-finish-clause-done
returns-in-Ok-finish-clause-done g c =
    compacted g.D.Disk g.E.Disk c.args.old.now c.open.new.disk c.copy_all.new.old c.in-Ok.store c.copy_all.new.store c.in-Ok-begin.making c.copy_all.new.making c.begin.new.disk c.copy_all.new.new c.finish.new.disk c.in-Ok-copy_all.count
    c.in-Ok.ensures.begins c.in-Ok.ensures.telling (omega (arith, c.if-base-gt-MOST_BASE.false, c.next-base.ensures.value)) (c.in-Ok-begin.ensures.made.0 ∙ c.next-base.ensures.value) c.in-Ok-begin.ensures.made.1 c.in-Ok-begin.ensures.begun
    c.in-Ok-copy_all.ensures.copied c.in-Ok-copy_all.ensures.keeps c.in-Ok-copy_all.ensures.writes.base c.in-Ok-finish.ensures.finished

pub returns-in-Ok-finish-clause-unwritten : goal.returns-in-Ok-finish-clause-unwritten
returns-in-Ok-finish-clause-unwritten g c = not_there g.E.Disk c.args.new.now c.finish.new.disk c.in-Ok-begin.ensures.empty

pub returns-in-Ok-finish-clause-images : goal.returns-in-Ok-finish-clause-images
returns-in-Ok-finish-clause-images g c =
    whole_or_none g.D.Disk g.E.Disk c.args.old.now c.open.new.disk c.in-Ok.store c.in-Ok-begin.making c.copy_all.new.making c.args.new.now c.begin.new.disk c.copy_all.new.new c.finish.new.disk c.in-Ok-copy_all.count
    c.in-Ok.ensures.begins c.in-Ok.ensures.telling (c.in-Ok-begin.ensures.made.0 ∙ c.next-base.ensures.value) c.in-Ok-begin.ensures.made.1 c.in-Ok-begin.ensures.begun c.in-Ok-copy_all.ensures.copied c.in-Ok-copy_all.ensures.writes.base
    (going_on g.E.Disk c.args.new.now c.begin.new.disk c.copy_all.new.new c.in-Ok-begin.ensures.unfinished c.in-Ok-copy_all.ensures.writes.crash) c.in-Ok-finish.ensures.crash

pub returns-clause-unwritten : goal.returns-clause-unwritten
returns-clause-unwritten g c = not_there g.E.Disk c.args.new.now c.finish.new.disk c.in-Ok-begin.ensures.empty

pub returns-clause-images : goal.returns-clause-images
returns-clause-images g c =
    whole_or_none g.D.Disk g.E.Disk c.args.old.now c.open.new.disk c.in-Ok.store c.in-Ok-begin.making c.copy_all.new.making c.args.new.now c.begin.new.disk c.copy_all.new.new c.finish.new.disk c.in-Ok-copy_all.count
    c.in-Ok.ensures.begins c.in-Ok.ensures.telling (c.in-Ok-begin.ensures.made.0 ∙ c.next-base.ensures.value) c.in-Ok-begin.ensures.made.1 c.in-Ok-begin.ensures.begun c.in-Ok-copy_all.ensures.copied c.in-Ok-copy_all.ensures.writes.base
    (going_on g.E.Disk c.args.new.now c.begin.new.disk c.copy_all.new.new c.in-Ok-begin.ensures.unfinished c.in-Ok-copy_all.ensures.writes.crash) c.finish.ensures.crash
