use Rattle.std.proofs.Common.{sym, subst}
use Rattle.mj_serve.specs.Faults.{IsFileFault, IsUnserved}
use Rattle.mj_serve.specs.declared.fault.ServeFault.{ServeFault}
use Rattle.mj_serve.proofs.Beginning.{begun-over, sound-over, told-still}
use Rattle.mj_serve.proofs.Lawful.{opened-lawfully}
use Rattle.mj_serve.proofs.Refusing.{refusal-of, unserved-of}
use Rattle.mj_serve.proofs.serving.open.Goals as goal

pub returns-in-Ok-new-clause-begun : goal.returns-in-Ok-new-clause-begun
returns-in-Ok-new-clause-begun g c = λ base commands opens.
    begun-over g.D.Disk c.args.limits.now c.args.seed c.in-Ok-new.broker c.open.new.disk c.in-Ok.store c.in-Ok-new.ensures.keeper c.in-Ok.ensures.limits c.in-Ok-new.ensures.state c.in-Ok-new.ensures.wires
    (told-still (g.D.Disk.told c.args.disk.now) (g.D.Disk.told c.open.new.disk) opens.history opens.tells c.open.ensures.telling)
    base commands (c.in-Ok.ensures.begins base commands opens.history opens.tells opens.lawful opens.opens)

pub returns-in-Ok-new-clause-sound : goal.returns-in-Ok-new-clause-sound
returns-in-Ok-new-clause-sound g c =
    sound-over g.D.Disk c.args.limits.now c.args.seed c.in-Ok-new.broker c.open.new.disk c.in-Ok.store c.in-Ok-new.ensures.keeper c.in-Ok.ensures.limits c.in-Ok.ensures.held

pub returns-in-Err-clause-unopened : goal.returns-in-Err-clause-unopened
returns-in-Err-clause-unopened g c =
    subst (λ (fault : ServeFault). IsUnserved fault (g.D.Disk.told c.args.disk.now) (g.D.Disk.told c.open.new.disk)) (sym c.fault_of.ensures)
    (unserved-of c.in-Err.fault (g.D.Disk.told c.args.disk.now) (g.D.Disk.told c.open.new.disk) c.in-Err.ensures.unopened)

pub returns-in-Err-clause-lawful : goal.returns-in-Err-clause-lawful
returns-in-Err-clause-lawful g c = λ is.
    c.in-Err.ensures.lawful (refusal-of c.in-Err.fault (subst (λ (fault : ServeFault). IsFileFault fault) c.fault_of.ensures is))

pub returns-in-Ok-new-clause-opened : goal.returns-in-Ok-new-clause-opened
returns-in-Ok-new-clause-opened g c = opened-lawfully g.D.Disk c.args.disk.now c.open.new.disk c.in-Ok.store c.in-Ok.ensures.held c.in-Ok.ensures.made
