use Rattle.std.proofs.Common.{[], refl, arith}
use Rattle.std.proofs.KnownBytes.{Appends-nil}
use Rattle.mj_prog.proofs.Untouched.{alone-untouched}
use Rattle.mj_prog.proofs.top_call.run_command.Goals as goal

pub returns-in-None-clause-refused_words : goal.returns-in-None-clause-refused_words
returns-in-None-clause-refused_words g c = λ _.
    (refl, refl, c.complain.ensures (g.K.Sink.written c.args.out.now) [] _ (record { faults = omega arith; wants = omega arith }) (Appends-nil (g.K.Sink.written c.args.out.now)))

pub returns-in-None-clause-alone : goal.returns-in-None-clause-alone
returns-in-None-clause-alone g c = λ _. alone-untouched (g.D.Disk.time c.args.disk.now) (g.D.Disk.told c.args.disk.now) (g.met.D.Disk.in_time c.args.disk.now)
