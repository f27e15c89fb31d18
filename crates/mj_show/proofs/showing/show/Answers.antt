use Rattle.mj_words.specs.SinkCounts.{counted}
use Rattle.mj_show.specs.ShowingSoFar.{HaltCause, IsHalted, IsWhole}
use Rattle.mj_show.proofs.TableLemmas.{ended}
use Rattle.mj_show.proofs.showing.show.Goals as goal

pub returns-clause-shows : goal.returns-clause-shows
returns-clause-shows g c =
    c.finish.ensures (g.S.Source.left c.args.src.now) (g.S.Source.left c.run_stream-run.new.src) (g.K.Sink.written c.args.out.now) (g.S.Source.faults c.args.src.now) (g.S.Source.faults c.run_stream-run.new.src)
    (counted (g.K.Sink.faults c.args.out.now) (g.K.Sink.wants c.args.out.now)) c.run_stream-run.ensures.later
    (ended c.run_stream-run.result (IsWhole (g.S.Source.left c.args.src.now) (g.K.Sink.written c.args.out.now) (g.K.Sink.written c.run_stream-run.new.out))
    (λ halt. IsHalted halt (g.S.Source.left c.args.src.now) (g.S.Source.left c.run_stream-run.new.src) (g.K.Sink.written c.args.out.now) (g.K.Sink.written c.run_stream-run.new.out))
    (λ halt. HaltCause halt (g.S.Source.faults c.args.src.now) (g.S.Source.faults c.run_stream-run.new.src) (g.K.Sink.faults c.args.out.now) (g.K.Sink.faults c.run_stream-run.new.out))
    c.run_stream-run.ensures.whole c.run_stream-run.ensures.halted c.run_stream-run.ensures.cause)
