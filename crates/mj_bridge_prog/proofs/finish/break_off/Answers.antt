use Rattle.std.proofs.Common.{[], inl, subst, arith}
use Rattle.std.proofs.KnownBytes.{Appends-nil}
use Rattle.mj_bridge_prog.specs.BridgeTable.{IsHalted}
use Rattle.mj_bridge_prog.proofs.finish.break_off.Goals as goal
use Rattle.mj_peering.specs.declared.stop.Stop.{Stop}
use Rattle.mj_words.specs.SinkCounts.{counted}

pub returns-in-NoMemory : goal.returns-in-NoMemory
returns-in-NoMemory g c = λ first old now before later halted.
    let h = subst (λ (x : Stop). IsHalted first old now before later x) c.in-NoMemory.is halted in
    inl (h.1, Appends-nil (g.K.Sink.written c.args.out.now))

pub returns-in-Read : goal.returns-in-Read
returns-in-Read g c = λ first old now before later halted.
    let h = subst (λ (x : Stop). IsHalted first old now before later x) c.in-Read.is halted in
    let had = g.K.Sink.written c.args.out.now in
    (h.0, h.1, c.complain.ensures had [] (counted (g.K.Sink.faults c.args.out.now) (g.K.Sink.wants c.args.out.now)) (record { faults = omega arith; wants = omega arith }) (Appends-nil had))

pub returns-in-Write : goal.returns-in-Write
returns-in-Write g c = λ first old now before later halted.
    let h = subst (λ (x : Stop). IsHalted first old now before later x) c.in-Write.is halted in
    inl (h.0, h.1, Appends-nil (g.K.Sink.written c.args.out.now))
