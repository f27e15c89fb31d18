use Rattle.std.proofs.Common.{subst}
use Rattle.mj_words.specs.SinkCounts.{counted}
use Rattle.mj_show.specs.ShowingSoFar.{HaltCause, IsHalted}
use Rattle.mj_show.specs.declared.halt.Halt.{Halt}
use Rattle.mj_show.proofs.TableLemmas.{shows-starved, shows-unread, shows-unwritten}
use Rattle.mj_show.proofs.showing.break_off.Goals as goal

pub returns-in-NoMemory : goal.returns-in-NoMemory
returns-in-NoMemory g c = λ from left old reads_before reads_now before later halted cause.
    shows-starved from left old (g.K.Sink.written c.args.out.now) reads_before reads_now before (counted (g.K.Sink.faults c.args.out.now) (g.K.Sink.wants c.args.out.now))
    (subst (λ (x : Halt). IsHalted x from left old (g.K.Sink.written c.args.out.now)) c.in-NoMemory.is halted)

pub returns-in-Read : goal.returns-in-Read
returns-in-Read g c = λ from left old reads_before reads_now before later halted cause.
    shows-unread from left old (g.K.Sink.written c.args.out.now) (g.K.Sink.written c.complain.new.out) reads_before reads_now before (counted (g.K.Sink.faults c.complain.new.out) (g.K.Sink.wants c.complain.new.out))
    (subst (λ (x : Halt). HaltCause x reads_before reads_now before.faults (g.K.Sink.faults c.args.out.now)) c.in-Read.is cause)
    (subst (λ (x : Halt). IsHalted x from left old (g.K.Sink.written c.args.out.now)) c.in-Read.is halted)
    (λ bytes added. c.complain.ensures old bytes before later added)

pub returns-in-Write : goal.returns-in-Write
returns-in-Write g c = λ from left old reads_before reads_now before later halted cause.
    shows-unwritten from left old (g.K.Sink.written c.args.out.now) reads_before reads_now before (counted (g.K.Sink.faults c.args.out.now) (g.K.Sink.wants c.args.out.now))
    (subst (λ (x : Halt). HaltCause x reads_before reads_now before.faults (g.K.Sink.faults c.args.out.now)) c.in-Write.is cause)
    (subst (λ (x : Halt). IsHalted x from left old (g.K.Sink.written c.args.out.now)) c.in-Write.is halted)
