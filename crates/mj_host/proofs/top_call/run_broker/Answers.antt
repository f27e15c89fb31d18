use Rattle.std.proofs.Common.{[], refl}
use Rattle.std.proofs.KnownBytes.{Appends-nil}
use Rattle.mj_words.specs.SinkCounts.{counted}
use Rattle.mj_host.proofs.StatusLaws.{later-same}
use Rattle.mj_host.proofs.top_call.run_broker.Goals as goal

pub returns-in-None-clause-refused_words : goal.returns-in-None-clause-refused_words
returns-in-None-clause-refused_words g c = λ words.
    let before = counted (g.K.Sink.faults c.args.out.now) (g.K.Sink.wants c.args.out.now) in
    let old = g.K.Sink.written c.args.out.now in (refl, refl, c.complain.ensures old [] before (later-same before) (Appends-nil old))
