use Rattle.std.proofs.Common.{List, ℕ, subst, ◌∙◌}
use Rattle.mj_base.specs.Writing.{WriteAdds}
use Rattle.mj_words.specs.SinkCounts.{counted}
use Rattle.mj_show.proofs.TableLemmas.{shows-unmade, shows-written}
use Rattle.mj_show.proofs.showing.finish_whole.Goals as goal

pub returns-in-Ok : goal.returns-in-Ok
returns-in-Ok g c = λ from left old reads_before reads_now before later whole.
    shows-written from left old (g.K.Sink.written c.args.out.now) (g.K.Sink.written c.write.new.self) reads_before reads_now before (counted (g.K.Sink.faults c.write.new.self) (g.K.Sink.wants c.write.new.self)) (g.K.Sink.faults c.args.out.now)
    c.args.count c.status_of.result c.write.result later.faults whole
    (subst (λ (line : List ℕ). WriteAdds (g.K.Sink.written c.args.out.now) (g.K.Sink.written c.write.new.self) c.write.result line) (c.as_bytes.ensures.value ∙ c.in-Ok.ensures) c.write.ensures.octets)
    c.write.ensures.cause c.status_of.ensures

pub returns-in-Err : goal.returns-in-Err
returns-in-Err g c = λ from left old reads_before reads_now before later whole.
    shows-unmade from left old (g.K.Sink.written c.args.out.now) reads_before reads_now before (counted (g.K.Sink.faults c.args.out.now) (g.K.Sink.wants c.args.out.now)) c.args.count whole
