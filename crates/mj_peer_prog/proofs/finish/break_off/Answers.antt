use Rattle.std.proofs.Common.{subst}
use Rattle.mj_peering.specs.Performing.{counts}
use Rattle.mj_peering.specs.declared.stop.Stop.{Stop}
use Rattle.mj_words.specs.SinkCounts.{counted}
use Rattle.mj_peer_prog.specs.StatusRows.{IsHalted, in_setting}
use Rattle.mj_peer_prog.proofs.FinishLemmas.{row-starved, row-unread, row-unwritten}
use Rattle.mj_peer_prog.proofs.SinkLemmas.{sink-later}
use Rattle.mj_peer_prog.proofs.finish.break_off.Goals as goal

pub returns-in-NoMemory : goal.returns-in-NoMemory
returns-in-NoMemory g c = λ task t later halted.
    let s = in_setting t (g.K.Sink.written c.args.out.now) (g.K.Sink.faults c.args.out.now) (g.K.Sink.wants c.args.out.now) in
    row-starved task s (subst (λ (x : Stop). IsHalted x task s) c.in-NoMemory.is halted)

pub returns-in-Read : goal.returns-in-Read
returns-in-Read g c = λ task t later halted.
    let s = in_setting t (g.K.Sink.written c.args.out.now) (g.K.Sink.faults c.args.out.now) (g.K.Sink.wants c.args.out.now) in
    row-unread task t (g.K.Sink.written c.args.out.now) (g.K.Sink.written c.complain.new.out) (g.K.Sink.faults c.args.out.now) (g.K.Sink.wants c.args.out.now) (g.K.Sink.faults c.complain.new.out) (g.K.Sink.wants c.complain.new.out)
    (subst (λ (x : Stop). IsHalted x task s) c.in-Read.is halted)
    (λ shown added. c.complain.ensures t.old.got shown (counted t.before.prints t.before.wants) (sink-later t.before (counts t.reads t.writes (g.K.Sink.faults c.args.out.now) (g.K.Sink.wants c.args.out.now)) later) added)

pub returns-in-Write : goal.returns-in-Write
returns-in-Write g c = λ task t later halted.
    let s = in_setting t (g.K.Sink.written c.args.out.now) (g.K.Sink.faults c.args.out.now) (g.K.Sink.wants c.args.out.now) in
    row-unwritten task s (subst (λ (x : Stop). IsHalted x task s) c.in-Write.is halted)
