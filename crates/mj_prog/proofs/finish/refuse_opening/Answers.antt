use Rattle.std.proofs.Common.{[], refl, subst, sym, arith}
use Rattle.std.proofs.KnownBytes.{Appends-nil}
use Rattle.mj_journal.specs.declared.fault.OpenFault.{OpenFault}
use Rattle.mj_words.specs.SinkCounts.{counted}
use Rattle.mj_prog.specs.StatusRows.{RefusesOpening}
use Rattle.mj_prog.specs.declared.status.Status.TheVariants as statuses
use Rattle.mj_prog.proofs.finish.refuse_opening.Goals as goal

pub returns-in-DiskFault : goal.returns-in-DiskFault
returns-in-DiskFault g c =
    subst (λ (fault : OpenFault). RefusesOpening fault (g.K.Sink.written c.args.out.now) (g.K.Sink.written c.complain.new.out) (counted (g.K.Sink.faults c.args.out.now) (g.K.Sink.wants c.args.out.now)) (counted (g.K.Sink.faults c.complain.new.out) (g.K.Sink.wants c.complain.new.out)) statuses.Disk) (sym c.in-DiskFault.is)
    (refl, c.complain.ensures (g.K.Sink.written c.args.out.now) [] _ (record { faults = omega arith; wants = omega arith }) (Appends-nil (g.K.Sink.written c.args.out.now)))
