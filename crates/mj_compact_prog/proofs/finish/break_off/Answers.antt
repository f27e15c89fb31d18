use Rattle.std.proofs.Common.{[], refl, subst, sym, arith}
use Rattle.std.proofs.KnownBytes.{Appends-nil}
use Rattle.mj_words.specs.SinkCounts.{counted}
use Rattle.mj_compact_prog.specs.Endings.{Halts}
use Rattle.mj_compact_prog.specs.declared.halt.Halt.{Halt}
use Rattle.mj_compact_prog.specs.declared.status.Status.TheVariants as statuses
use Rattle.mj_compact_prog.proofs.finish.break_off.Goals as goal

pub returns-in-Disk : goal.returns-in-Disk
returns-in-Disk g c =
    subst (λ (halt : Halt). Halts halt (g.K.Sink.written c.args.out.now) (g.K.Sink.written c.complain.new.out) (counted (g.K.Sink.faults c.args.out.now) (g.K.Sink.wants c.args.out.now)) (counted (g.K.Sink.faults c.complain.new.out) (g.K.Sink.wants c.complain.new.out)) statuses.Disk) (sym c.in-Disk.is)
    (refl, c.complain.ensures (g.K.Sink.written c.args.out.now) [] _ (record { faults = omega arith; wants = omega arith }) (Appends-nil (g.K.Sink.written c.args.out.now)))
