use Rattle.std.proofs.Common.{[], refl, arith}
use Rattle.std.proofs.KnownBytes.{Appends-nil}
use Rattle.mj_bridge_prog.proofs.top_call.run_words.Goals as goal

pub returns-in-None-clause-refused_words : goal.returns-in-None-clause-refused_words
returns-in-None-clause-refused_words g c = λ _.
    (refl, refl, c.complain.ensures (g.K.Sink.written c.args.out.now) [] _ (record { faults = omega arith; wants = omega arith }) (Appends-nil (g.K.Sink.written c.args.out.now)))
