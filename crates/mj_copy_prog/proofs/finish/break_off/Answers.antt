use Rattle.std.proofs.Common.{[], refl, subst, sym, arith}
use Rattle.std.proofs.KnownBytes.{Appends-nil}
use Rattle.mj_words.specs.SinkCounts.{counted}
use Rattle.mj_copying.specs.declared.stop.Stop.{Stop}
use Rattle.mj_copy_prog.specs.Endings.{Breaks}
use Rattle.mj_copy_prog.specs.declared.status.Status.TheVariants as statuses
use Rattle.mj_copy_prog.proofs.finish.break_off.Goals as goal

pub returns-in-Read : goal.returns-in-Read
returns-in-Read g c =
    subst (λ (stop : Stop). Breaks stop (g.K.Sink.written c.args.out.now) (g.K.Sink.written c.complain.new.out) (counted (g.K.Sink.faults c.args.out.now) (g.K.Sink.wants c.args.out.now)) (counted (g.K.Sink.faults c.complain.new.out) (g.K.Sink.wants c.complain.new.out)) statuses.Read) (sym c.in-Read.is)
    (refl, c.complain.ensures (g.K.Sink.written c.args.out.now) [] _ (record { faults = omega arith; wants = omega arith }) (Appends-nil (g.K.Sink.written c.args.out.now)))

pub returns-in-Disk : goal.returns-in-Disk
returns-in-Disk g c =
    subst (λ (stop : Stop). Breaks stop (g.K.Sink.written c.args.out.now) (g.K.Sink.written c.complain-in-Disk.new.out) (counted (g.K.Sink.faults c.args.out.now) (g.K.Sink.wants c.args.out.now)) (counted (g.K.Sink.faults c.complain-in-Disk.new.out) (g.K.Sink.wants c.complain-in-Disk.new.out)) statuses.Disk) (sym c.in-Disk.is)
    (refl, c.complain-in-Disk.ensures (g.K.Sink.written c.args.out.now) [] _ (record { faults = omega arith; wants = omega arith }) (Appends-nil (g.K.Sink.written c.args.out.now)))
