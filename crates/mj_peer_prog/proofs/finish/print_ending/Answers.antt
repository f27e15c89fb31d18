use Rattle.std.proofs.Common.{List, ℕ, subst, sym, ◌∙◌}
use Rattle.mj_base.specs.Writing.{WriteAdds}
use Rattle.mj_peering.specs.Performing.{counts}
use Rattle.mj_words.specs.Lines.{AppendsLine}
use Rattle.mj_words.specs.SinkCounts.{counted}
use Rattle.mj_peer_prog.specs.StatusRows.{IsRow, in_setting}
use Rattle.mj_peer_prog.specs.declared.status.Status.{Status}
use Rattle.mj_peer_prog.proofs.FinishLemmas.{row-given-up, row-written}
use Rattle.mj_peer_prog.proofs.SinkLemmas.{sink-later}
use Rattle.mj_peer_prog.proofs.finish.print_ending.Goals as goal

pub returns-then-is_good : goal.returns-then-is_good
returns-then-is_good g c = λ task t is later came.
    subst (λ (s : Status). IsRow s task (in_setting t (g.K.Sink.written c.write.new.self) (g.K.Sink.faults c.write.new.self) (g.K.Sink.wants c.write.new.self))) (sym c.status_of.ensures)
    (row-written task t (g.K.Sink.written c.args.out.now) (g.K.Sink.written c.write.new.self) (g.K.Sink.faults c.args.out.now) (g.K.Sink.wants c.args.out.now) (g.K.Sink.faults c.write.new.self) (g.K.Sink.wants c.write.new.self) c.args.ending c.write.result
    (sym c.is_good.ensures ∙ c.if-is_good.true) later came
    (subst (λ (line : List ℕ). WriteAdds (g.K.Sink.written c.args.out.now) (g.K.Sink.written c.write.new.self) c.write.result line) is c.write.ensures.octets)
    c.write.ensures.cause)

pub returns : goal.returns
returns g c = λ task t is later came.
    row-given-up task t (g.K.Sink.written c.args.out.now) (g.K.Sink.written c.complain.new.out) (g.K.Sink.faults c.args.out.now) (g.K.Sink.wants c.args.out.now) (g.K.Sink.faults c.complain.new.out) (g.K.Sink.wants c.complain.new.out) c.args.ending
    (sym c.is_good.ensures ∙ c.if-is_good.false) came
    (λ shown added. subst (λ (line : List ℕ). AppendsLine t.old.got (g.K.Sink.written c.complain.new.out) (counted t.before.prints t.before.wants) (counted (g.K.Sink.faults c.complain.new.out) (g.K.Sink.wants c.complain.new.out)) shown line) is
    (c.complain.ensures t.old.got shown (counted t.before.prints t.before.wants) (sink-later t.before (counts t.reads t.writes (g.K.Sink.faults c.args.out.now) (g.K.Sink.wants c.args.out.now)) later) added))
